-- How `clap` reads a plain word: as a value, or as a subcommand's name. A plain word isn't empty
-- and doesn't begin with a hyphen.
use Rattle.cif_laws.proofs.Common.{◌≡◌, ℕ, true, false, List, [], ◌∷◌, None, rules, bytes_eq}
use Rattle.clap.specs.Lexer.{long_of, short_of, strip_byte}
use Rattle.clap.specs.Walk.{Held, Names, Rule, Text, Walk, arg_by_index, idle}
use Rattle.clap.specs.Walk.{subcommand_met, to_positional, value, walk_from, walked, word_met}
use Rattle.clap.specs.Simple.{Shape}
use Rattle.clap.specs.Faults.{step_fault, turn_fault, walk_fault, word_fault}
use Rattle.clap.specs.Kinds.{or_else}
use Rattle.clap.proofs.SimpleLemmas.{is_false}
use Rattle.docker_cmd.specs.Words.{is_plain_word}

-- the state of `clap`'s walk between two words. The walk holds `h`, and the next value has this
-- position
abbrev pub at : Held → ℕ → Walk
at h position = record (walk_from h) { position = position }

-- a plain word has no leading hyphen
no_hyphen : (word : Text) → is_plain_word word ≡ true → strip_byte 45 word ≡ None
no_hyphen = search (rules, is_false)

-- a plain word isn't a long option
no_long : (word : Text) → is_plain_word word ≡ true → long_of word ≡ None
no_long = search (rules, no_hyphen)

-- a plain word isn't a bundle of short options
no_short : (word : Text) → is_plain_word word ≡ true → short_of word ≡ None
no_short = search (rules, no_hyphen)

-- a plain word isn't a double hyphen
no_double_hyphen : (word : Text) → is_plain_word word ≡ true → bytes_eq word (45 ∷ 45 ∷ []) ≡ false
no_double_hyphen = search (rules, is_false)

-- `clap` reads a plain word that isn't a subcommand's name as a value
pub plain_met : (c : List Rule) (names : Names) (position : ℕ) (word : Text) (h : Held) → is_plain_word word ≡ true → subcommand_met names idle word ≡ None
    → word_met c names false idle position word h ≡ (h, value)
plain_met = search (rules, no_double_hyphen, no_long, no_short)

-- a plain word that isn't a subcommand's name causes no fault by itself
pub plain_fault : (s : Shape) (names : Names) (word : Text) (h : Held) → is_plain_word word ≡ true → subcommand_met names idle word ≡ None
    → word_fault s names false idle word h ≡ []
plain_fault = search (rules, no_double_hyphen, no_long, no_short)

-- `clap`'s walk takes a plain word that isn't a subcommand's name as the value at its position
pub plain_walked : (c : List Rule) (names : Names) (position : ℕ) (word : Text) (h : Held) → is_plain_word word ≡ true → subcommand_met names idle word ≡ None
    → walked c names (at h position) word ≡ to_positional c (arg_by_index c position) word (at h position) h
unfolding walked
plain_walked = search (rules, plain_met)

-- a plain word that isn't a subcommand's name can cause a fault only by its position
pub plain_turn : (s : Shape) (names : Names) (position : ℕ) (word : Text) (h : Held) → is_plain_word word ≡ true → subcommand_met names idle word ≡ None
    → turn_fault s names (at h position) word ≡ step_fault s position h value
plain_turn = search (rules, plain_met, plain_fault)

-- if a plain word causes faults, `clap`'s walk over this word and the words after it finds exactly
-- these faults. Otherwise the walk finds the faults of the words after it
pub plain_walk_fault : (s : Shape) (names : Names) (position : ℕ) (word : Text) (rest : List Text) (h : Held) → is_plain_word word ≡ true
    → subcommand_met names idle word ≡ None
    → walk_fault s names (at h position) (word ∷ rest)
    ≡ or_else (step_fault s position h value) (walk_fault s names (to_positional s.rules (arg_by_index s.rules position) word (at h position) h) rest)
unfolding walk_fault
plain_walk_fault = search (rules, plain_turn, plain_walked)
