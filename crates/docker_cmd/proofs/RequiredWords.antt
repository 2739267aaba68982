-- How `clap` reads the words after a subcommand's name, if the subcommand requires words.
use Rattle.cif_laws.proofs.Common.{◌≡◌, ◌∙◌, ◌+◌, ◌&&◌, ◌||◌, ℕ, Bool, cond, true, false, not, map, refl, rules, true≢false, List, [], ◌∷◌, ◌++◌, Some, None}
use Rattle.cif_laws.proofs.Common.{append_assoc, append-nil, fold, list_all, list_any, bytes_eq-Decides}
use Rattle.std.proofs.Common.{min}
use Rattle.std.proofs.Math.Bool.{and-false, or-true}
use Rattle.clap.specs.Lexer.{usize_max}
use Rattle.clap.specs.Walk.{Held, Row, Rule, Text, arg_by_id, arg_by_index, at_row, has_row, nothing_held, reading_by}
use Rattle.clap.specs.Walk.{rows_after, settled, settled_rows, to_positional, used, walk, walked, with_default}
use Rattle.clap.specs.Simple.{Shape, built_leaf, filled, filled_from, inherited, new_rule, with_index}
use Rattle.clap.specs.Takes.{is_given}
use Rattle.clap.specs.Faults.{defaults_fault, level_fault, settle_fault, stray_fault, walk_fault}
use Rattle.clap.specs.Kinds.{Kinds, or_else}
use Rattle.clap.specs.declared.parser.ValueSource.TheVariants.{CommandLine}
use Rattle.clap.specs.declared.error.ErrorKind.TheVariants as kind
use Rattle.clap.proofs.WalkLemmas.{both}
use Rattle.docker_cmd.specs.Words.{is_plain_word}
use Rattle.docker_cmd.specs.Grammar.{docker_shape, required_rule, words_shape}
use Rattle.docker_cmd.proofs.PlainWords.{at, plain_turn, plain_walk_fault, plain_walked}

-- the top level of the program, after `clap` has built the program
abbrev pub built_top : Shape
built_top = record docker_shape { is_leaf = false; is_built = true }

-- a subcommand of the program, after `clap` has built the subcommand
abbrev pub leaf : Text → List Text → Shape
leaf name ids = built_leaf (inherited built_top (words_shape name ids))

-- the rule of a required word at this position, after `clap` has built the subcommand
abbrev pub placed : ℕ → Text → Rule
placed position id = with_index position (filled (required_rule id))

-- the position after this one, but at most the greatest `usize`
abbrev pub next : ℕ → ℕ
next position = min (position + 1) usize_max

-- from this position on, the rules are exactly the rules of these ids
abbrev pub Fits : List Rule → ℕ → List Text → Type 0
Fits c position [] = arg_by_index c position ≡ None
Fits c position (id ∷ ids) = (arg_by_index c position ≡ Some (placed position id)) × (arg_by_id c id ≡ Some (placed position id)) × Fits c (next position) ids

-- the row that `clap` stores for a required word that it found on the command line
abbrev pub row : Text → Text → Row
row id word = record { id = id; values = word ∷ []; count = None; source = Some CommandLine; reading = reading_by (new_rule id) }

-- these ids differ from each other, and no row has any of them
abbrev pub Fresh : List Row → List Text → Type 0
Fresh rows [] = Unit {0}
Fresh rows (id ∷ ids) = (has_row id rows ≡ false) × ((word : Text) → Fresh (rows ++ row id word ∷ []) ids)

-- one row for each word, with the word's id, in order
abbrev pub paired : List Text → List Text → List Row
paired [] words = []
paired (id ∷ ids) [] = []
paired (id ∷ ids) (word ∷ words) = row id word ∷ paired ids words

-- ---- reading one required word

-- if the disjunction of two tests is false, both tests are false
neither : (a b : Bool) → (a || b) ≡ false → (a ≡ false) × (b ≡ false)
neither = search (rules, true≢false)

-- if no row has this id, `at_row` appends the rows in `missing`
at_new : (id : Text) (change : Row → List Row) (missing rows : List Row) → has_row id rows ≡ false → at_row id change missing rows ≡ rows ++ missing
at_new id change missing [] fresh = refl
at_new id change missing (r ∷ rows) fresh = search (rules, neither, (at_new id change missing rows))

-- if no row has the id of a required word, `used` appends this word's row to the rows
used_new : (position : ℕ) (id word : Text) (rows : List Row) → has_row id rows ≡ false → used (placed position id) (word ∷ []) rows ≡ rows ++ row id word ∷ []
used_new = search (rules, at_new, append-nil)

-- at the end of `clap`'s walk over the words, a word that the walk still holds becomes a row. The
-- rows are then `rows`, and no fault is found
record Settles (s : Shape) (h : Held) (rows : List Row) : Type 0 where
  rows_are : settled_rows s.rules h.pending h.rows ≡ rows
  no_fault : settle_fault s.rules s.args_override_self h ≡ []

-- what `clap`'s walk holds between two words: these rows, and a required word that has no row yet
abbrev holding : List Row → Text → Text → ℕ → Held
holding rows id word skip = record { rows = rows; pending = Some (id, word ∷ []); skip = skip }

-- at the end of `clap`'s walk, a required word without a row gets its row
settles_new : (s : Shape) (position : ℕ) (id word : Text) (rows : List Row) (skip : ℕ) → arg_by_id s.rules id ≡ Some (placed position id)
    → has_row id rows ≡ false
    → Settles s (holding rows id word skip) (rows ++ row id word ∷ [])
settles_new s position id word rows skip found fresh =
    record { rows_are = rw found (used_new position id word rows fresh); no_fault = rw (found, fresh) }

-- `clap`'s walk takes a required word as the value at its position
at_positional : (c : List Rule) (position : ℕ) (id word : Text) (h : Held)
    → to_positional c (Some (placed position id)) word (at h position) h ≡ at (holding (settled_rows c h.pending h.rows) id word h.skip) (next position)
at_positional = search (rules, at, and-false)

-- after a required word, `clap`'s walk holds this word
placed_walked : (s : Shape) (position : ℕ) (id word : Text) (h : Held) (rows : List Row) → arg_by_index s.rules position ≡ Some (placed position id)
    → Settles s h rows → is_plain_word word ≡ true → walked s.rules [] (at h position) word ≡ at (holding rows id word h.skip) (next position)
placed_walked = search (rules, plain_walked, at, at_positional)

-- a required word at its position causes no fault
placed_fault : (s : Shape) (position : ℕ) (id word : Text) (rest : List Text) (h : Held) (rows : List Row)
    → arg_by_index s.rules position ≡ Some (placed position id)
    → Settles s h rows → is_plain_word word ≡ true
    → walk_fault s [] (at h position) (word ∷ rest) ≡ walk_fault s [] (at (holding rows id word h.skip) (next position)) rest
unfolding walk_fault
placed_fault s position id word rest h rows found settles plain =
    plain_walk_fault s [] position word rest h plain refl ∙ simp (found, at_positional, settles.rows_are, and-false, settles.no_fault)

-- ---- reading all words of a subcommand

-- a list with the fault for too many words if there are more words than ids, otherwise the empty
-- list
abbrev surplus_fault : List Text → List Text → Kinds
surplus_fault [] [] = []
surplus_fault [] (word ∷ words) = kind.UnknownArgument ∷ []
surplus_fault (id ∷ ids) [] = []
surplus_fault (id ∷ ids) (word ∷ words) = surplus_fault ids words

-- whether there are fewer words than ids
abbrev is_short : List Text → List Text → Bool
is_short [] words = false
is_short (id ∷ ids) [] = true
is_short (id ∷ ids) (word ∷ words) = is_short ids words

-- what `clap`'s walk over these words finds. The walk finds a fault only if there are more words than
-- ids: the fault for too many words. At its end, there is one more row for each word, with the
-- word's id
record IsWalked (s : Shape) (position : ℕ) (ids words : List Text) (h : Held) (rows : List Row) : Type 0 where
  fault : walk_fault s [] (at h position) words ≡ surplus_fault ids words
  held : Settles s (fold (walked s.rules []) (at h position) words).held (rows ++ paired ids words)

-- if these ids have rules from this position on, and no rows yet, `clap`'s walk finds what `IsWalked` says
words_walked : (s : Shape) (position : ℕ) (ids words : List Text) (h : Held) (rows : List Row) → stray_fault s ≡ kind.UnknownArgument ∷ []
    → Fits s.rules position ids → Fresh rows ids → Settles s h rows → list_all is_plain_word words ≡ true → IsWalked s position ids words h rows
unfolding walk_fault
words_walked s position [] [] h rows stray fits fresh settles plain = record { fault = refl; held = rw append-nil settles }
words_walked s position [] (word ∷ words) h rows stray fits fresh settles plain = record {
  fault = search (rules, plain_turn, both, at);
  held = rw (plain_walked s.rules [] position word h (both _ _ plain).0 refl, fits, fold)
      (words_walked s position [] words h rows stray fits fresh settles (both _ _ plain).1).held;
}
words_walked s position (id ∷ ids) [] h rows stray fits fresh settles plain = record { fault = refl; held = rw append-nil settles }
words_walked s position (id ∷ ids) (word ∷ words) h rows stray fits fresh settles plain =
    let rest = words_walked s (next position) ids words (holding rows id word h.skip) (rows ++ row id word ∷ []) stray fits.2 (fresh.1 word)
    (settles_new s position id word rows h.skip fits.1 fresh.0) (both _ _ plain).1 in
    record {
      fault = placed_fault s position id word words h rows fits.0 settles (both _ _ plain).0 ∙ rest.fault;
      held = rw (placed_walked s position id word h rows fits.0 settles (both _ _ plain).0, ← append_assoc rows (row id word ∷ []) (paired ids words), fold)
          rest.held;
    }

-- ---- the end of the walk

-- if both branches of `cond` are the same rows, its value is these rows
same_rows : (id : Text) (rows : List Row) → cond (has_row id rows) rows rows ≡ rows
same_rows = search rules

-- required words have no default values
no_defaults : (position : ℕ) (ids : List Text) (rows : List Row) → fold with_default rows (filled_from position (map required_rule ids)) ≡ rows
no_defaults position [] rows = refl
no_defaults position (id ∷ ids) rows = search (rules, same_rows, (no_defaults (next position) ids))

no_default_fault : (position : ℕ) (ids : List Text) (rows : List Row) → defaults_fault rows (filled_from position (map required_rule ids)) ≡ []
unfolding defaults_fault
no_default_fault position [] rows = refl
no_default_fault position (id ∷ ids) rows = search (rules, or-true, same_rows, (no_default_fault (next position) ids))

-- if no row in `rows` has the id `id`, this id counts as given in `rows ++ rest` if and only if it
-- counts as given in `rest`
not_given : (id : Text) (rows rest : List Row) → has_row id rows ≡ false → is_given id (rows ++ rest) ≡ is_given id rest
not_given id [] rest fresh = refl
not_given id (r ∷ rows) rest fresh = search (rules, neither, (not_given id rows rest))

-- the id of the first row counts as given (`is_given`)
given_here : (id word : Text) (rest : List Row) → is_given id (row id word ∷ rest) ≡ true
given_here = search (rules, bytes_eq-Decides)

-- a required word is missing if and only if there are fewer words than ids
missing : (position : ℕ) (ids words : List Text) (rows : List Row) → Fresh rows ids
    → list_any (λ a. a.required && not (is_given a.id (rows ++ paired ids words))) (filled_from position (map required_rule ids)) ≡ is_short ids words
missing position [] words rows fresh = refl
missing position (id ∷ ids) [] rows fresh = search (rules, not, not_given)
missing position (id ∷ ids) (word ∷ words) rows fresh =
    search (rules, not, not_given, given_here, append_assoc, (missing (next position) ids words (rows ++ row id word ∷ []) (fresh.1 word)))

-- ---- the matches and the faults of a subcommand

-- the faults for a wrong number of words: more words than ids, or fewer. If the numbers are equal,
-- the list is empty
abbrev pub count_fault : List Text → List Text → Kinds
count_fault ids words = or_else (surplus_fault ids words) (cond (is_short ids words) (kind.MissingRequiredArgument ∷ []) [])

module _ (name : Text) (ids words : List Text) (fits : Fits (leaf name ids).rules 1 ids) (fresh : Fresh [] ids)
    (plain : list_all is_plain_word words ≡ true) where
  -- `clap`'s walk finds no fault but too many words. After its last word, there is one row for each
  -- word, with the word's id
  is_walked : IsWalked (leaf name ids) 1 ids words nothing_held []
  is_walked = words_walked (leaf name ids) 1 ids words nothing_held [] refl fits fresh (record { rows_are = refl; no_fault = refl }) plain

  -- `clap` finds one row for each of the subcommand's words, with the word's id
  pub rows_found : rows_after (leaf name ids).rules [] words ≡ paired ids words
  rows_found = search (rules, is_walked, no_defaults)

  -- the faults of the subcommand are the faults for a wrong number of words
  pub leaf_fault : level_fault (leaf name ids) [] nothing_held words false [] ≡ count_fault ids words
  leaf_fault =
      let default_part = no_default_fault 1 ids (settled (leaf name ids).rules (walk (leaf name ids).rules [] nothing_held words).held).rows in
      rw (is_walked.fault, is_walked.held.no_fault, default_part, rows_found, missing 1 ids words [] fresh)
