-- How `clap` reads a command whose first word is the name of a subcommand. The definitions of
-- `clap` say that it walks over the words and stops at the subcommand's name.
use Rattle.cif_laws.proofs.Common.{◌≡◌, ◌∙◌, ◌++◌, true, false, refl, sym, ap, ap₂, List, [], ◌∷◌, Some, None, is_some, codes, option_map, rules, find, fold}
use Rattle.std.proofs.Math.Bool.{and-false}
use Rattle.clap.specs.Walk.{Names, Text, Walk, answers_to, idle, nothing_held}
use Rattle.clap.specs.Walk.{subcommand, subcommand_met, walk, walk_from, walked, word_met}
use Rattle.clap.specs.Simple.{App, Shape, entered, label_of, names_of, rows_at}
use Rattle.clap.specs.Faults.{built_fault, defaults_fault, level_fault}
use Rattle.clap.specs.Faults.{turn_fault, walk_fault}
use Rattle.clap.specs.Kinds.{Kinds, or_else}
use Rattle.clap.proofs.WalkLemmas.{walk_stopped}
use Rattle.clap.specs.declared.error.ErrorKind.TheVariants as kind
use Rattle.docker_cmd.specs.Words.{is_plain_word}
use Rattle.docker_cmd.proofs.PlainWords.{plain_walk_fault}
use Rattle.docker_cmd.proofs.RequiredWords.{built_top}

-- the program with these subcommands, after `clap` has built the program
abbrev pub built_with : List Shape → App
built_with subs = record { top = built_top; subs = subs }

-- the state of `clap`'s walk over the words, after the walk stopped at a subcommand's name and left
-- these words to the subcommand
abbrev after_name : Text → List Text → Walk
after_name name words = record (walk_from nothing_held) { stopped = Some (name, words) }

-- once `clap`'s walk over the words has stopped at a subcommand's name, later words add no fault to
-- the faults of the program itself
no_later_fault : (names : Names) (name : Text) (seen words : List Text) → walk_fault built_top names (after_name name seen) words ≡ []
unfolding walk_fault walked
no_later_fault names name seen [] = refl
no_later_fault names name seen (word ∷ words) = no_later_fault names name (seen ++ word ∷ []) words

-- if the second list of faults is empty, `or_else` returns the first list unchanged
or_else_none : (kinds : Kinds) → or_else kinds [] ≡ kinds
or_else_none = search rules

-- for a command without words there is one possible fault: the subcommand is missing
pub no_word : (subs : List Shape) → built_fault (built_with subs) nothing_held [] ≡ kind.MissingSubcommand ∷ []
unfolding walk_fault defaults_fault
no_word subs = refl

-- if the first word is plain and isn't a subcommand's name, there are two possible faults: an
-- unknown argument and an invalid subcommand
pub unnamed_fault : (subs : List Shape) (word : Text) (words : List Text) → is_plain_word word ≡ true
    → subcommand_met (names_of (built_with subs)) idle word ≡ None
    → built_fault (built_with subs) nothing_held (word ∷ words) ≡ kind.UnknownArgument ∷ kind.InvalidSubcommand ∷ []
unnamed_fault = search (rules, plain_walk_fault, built_top)

module _ (subs : List Shape) (s : Shape) (name : Text) (words : List Text)
    (met : subcommand_met (names_of (built_with subs)) idle name ≡ Some name)
    (under : find (λ x. answers_to name (label_of x)) subs ≡ Some s) where
  abbrev names : Names
  names = names_of (built_with subs)

  -- `clap`'s walk over the words recognises the first word as a subcommand's name
  named_met : word_met [] names false idle 1 name nothing_held ≡ (nothing_held, subcommand name)
  named_met = search rules

  -- `clap`'s walk over the words stops at the subcommand's name
  named_walked : walked [] names (walk_from nothing_held) name ≡ after_name name []
  unfolding walked
  named_walked = search (rules, named_met)

  -- `clap`'s walk leaves the words after the name to the subcommand
  named_walk : walk [] names nothing_held (name ∷ words) ≡ after_name name words
  named_walk = ap (λ w. fold (walked [] names) w words) named_walked ∙ sym (walk_stopped [] names (walk_from nothing_held) name [] words)

  -- `clap`'s walk finds no fault in the subcommand's name
  named_turn : turn_fault built_top names (walk_from nothing_held) name ≡ []
  named_turn = search (rules, built_top, and-false, codes, named_met)

  -- `clap`'s walk over the name and the words after it finds no fault
  named_walk_fault : walk_fault built_top names (walk_from nothing_held) (name ∷ words) ≡ []
  unfolding walk_fault
  named_walk_fault = search (rules, named_turn, named_walked, no_later_fault)

  -- the faults of the command are the faults that the subcommand finds in the words after its name
  pub named_fault : built_fault (built_with subs) nothing_held (name ∷ words) ≡ level_fault s [] nothing_held words false []
  unfolding defaults_fault
  named_fault = search (rules, ap₂, named_walk_fault, named_walk, built_top, is_some, option_map, or_else_none)

  -- the matches of the command are the subcommand's matches for the words after its name
  pub named_rows : entered (built_with subs) (walk [] names nothing_held (name ∷ words)).stopped ≡ Some (rows_at s words)
  named_rows = search (rules, named_walk, option_map)
