-- The words of a command, and what they can name. A word is a list of bytes.
use Rattle.std.specs.Prelude.{◌≡◌, ◌≢◌, ℕ, ◌==◌, ◌≤◌, ◌-◌, ◌++◌, Bool, false, not, List, [], ◌∷◌, Option, find, length, codes, map}
use Rattle.std.specs.Borrow.{Bor}
use Rattle.std.specs.List.{flat_map}
use Rattle.std.specs.Str.{bytes_eq}
use Rattle.docker_model.specs.records.Date.{last_day}
use Rattle.docker_model.specs.records.PrintedTime.{spaces, day_text}
use Rattle.cif_line.specs.Tiploc.{IsTiplocText}

-- the bytes of a word or of a file's name
abbrev pub Text : Type 0
Text = List ℕ

-- the bytes of each of these words
abbrev pub texts : List (Bor Text) → List Text
texts = map (λ word. word.now)

-- whether a word is allowed on the command line: it isn't empty, and its first byte isn't a hyphen
-- (45)
abbrev pub is_plain_word : Text → Bool
is_plain_word [] = false
is_plain_word (byte ∷ bytes) = not (byte == 45)

-- the word names a file that can be replaced, so it isn't `stdin`
abbrev pub NamesStored : Text → Type 0
NamesStored word = word ≢ codes "stdin"

-- the word names this timing point: it is the TIPLOC without its trailing spaces
pub record NamesPlace (word : Text) (place : List ℕ) : Type 0 where
  pub code : IsTiplocText word
  pub padded : place ≡ word ++ spaces (7 - length word)

-- the word names this day: it is the day's date, such as 2026-03-29
pub record NamesDay (word : Text) (day : ℕ) : Type 0 where
  pub within : day ≤ last_day
  pub written : word ≡ day_text day

-- the list has exactly one word, and `Holds` is true of it
abbrev pub OfOne : (Text → Type 0) → List Text → Type 0
OfOne Holds (first ∷ []) = Holds first
OfOne Holds _ = ⊥

-- the list has exactly two words, and `Holds` is true of them
abbrev pub OfTwo : (Text → Text → Type 0) → List Text → Type 0
OfTwo Holds (first ∷ second ∷ []) = Holds first second
OfTwo Holds _ = ⊥

-- the list has exactly three words, and `Holds` is true of them
abbrev pub OfThree : (Text → Text → Text → Type 0) → List Text → Type 0
OfThree Holds (first ∷ second ∷ third ∷ []) = Holds first second third
OfThree Holds _ = ⊥

-- the first of these words of a table that has this name, if there is one
unfoldable pub word_named : {W : Type 0} → (W → Text) → List W → Text → Option W
word_named name_of words name = find (λ word. bytes_eq (name_of word) name) words

-- a row's part of the usage line: its name, and the names of its words
abbrev pub usage_with : Text → List Text → Text
usage_with name ids = name ++ flat_map (λ id. 32 ∷ id) ids

-- these texts, separated by ` | `
abbrev pub with_bars : List Text → Text
with_bars [] = []
with_bars (last ∷ []) = last
with_bars (first ∷ second ∷ others) = first ++ codes " | " ++ with_bars (second ∷ others)

-- the part of the usage line that shows these words of a table: the name of each, and the names of
-- the words after it
abbrev pub usages : {W : Type 0} → (W → Text) → (W → List Text) → List W → Text
usages name_of ids_of words = with_bars (map (λ word. usage_with (name_of word) (ids_of word)) words)
