-- Splitting a line into words, piece by piece.
use Rattle.cif_laws.proofs.Common.{◌≡◌, ℕ, ◌<◌, List, [], ◌∷◌, ◌++◌, length, false, arith, append-nil, rules, ◌==◌, not, filter, position_or_len}
use Rattle.cif_laws.proofs.Common.{AllByRecursion, All-from_recursion, slice_split_none}
use Rattle.std.specs.List.{before_first, after_first}
use Rattle.std.proofs.lemmas.List.Splits.{slice_split_first}
use Rattle.docker_cmd.specs.JobLine.{is_space, word_or_none, words_in}

-- the words in a list of pieces are the first piece, if it isn't empty, followed by the words in
-- the other pieces
first_apart : (piece : List ℕ) (pieces : List (List ℕ))
    → filter (λ word. not (length word == 0)) (piece ∷ pieces) ≡ word_or_none piece ++ filter (λ word. not (length word == 0)) pieces
first_apart = search rules

-- if a line has a space, its words are the piece before the first space, followed by the words
-- after this space. An empty piece isn't a word
pub words_at_space : (text : List ℕ) → position_or_len is_space text < length text
    → words_in text ≡ word_or_none (before_first is_space text) ++ words_in (after_first is_space text)
words_at_space = search (rules, slice_split_first, first_apart)

-- if a search for the first space of a text finds none, no byte of the text is a space
no_space : (text : List ℕ) → position_or_len is_space text ≡ length text → AllByRecursion (λ b. is_space b ≡ false) text
no_space [] none = tt
no_space (b ∷ text) none = grind (arith, (no_space text))

-- if a line has no space, the whole line is one word, unless the line is empty and has no words
pub words_without_space : (text : List ℕ) → position_or_len is_space text ≡ length text → words_in text ≡ word_or_none text
words_without_space = search (rules, slice_split_none, All-from_recursion, no_space, first_apart, append-nil)
