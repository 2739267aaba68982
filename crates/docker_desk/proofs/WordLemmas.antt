-- The words of a line: its first word, and the words after it.
use Rattle.cif_laws.proofs.Common.{◌≡◌, ◌≢◌, ℕ, ◌<◌, List, [], ◌∷◌, ◌++◌, length, ap, ◌∙◌, refl, common_steps, false, cond, arith, rules, tests, append-nil}
use Rattle.cif_laws.proofs.Common.{length-drop, ◌==◌, not, filter, position_or_len, AllByRecursion, length-take-le, take_all, All-from_recursion}
use Rattle.cif_laws.proofs.Common.{slice_split-cons_yes, slice_split_none}
use Rattle.std.specs.List.{before_first, after_first}
use Rattle.std.proofs.lemmas.List.Splits.{slice_split_first}
use Rattle.docker_cmd.specs.JobLine.{is_space, word_or_none, words_in}
use Rattle.docker_desk.specs.Requests.{after_word, first_word, without_spaces}

-- ---- the words of pieces

-- the words in a list of pieces are the first piece, if it isn't empty, followed by the words in
-- the other pieces
first_apart : (piece : List ℕ) (pieces : List (List ℕ))
    → filter (λ word. not (length word == 0)) (piece ∷ pieces) ≡ word_or_none piece ++ filter (λ word. not (length word == 0)) pieces
first_apart = search rules

-- a piece that isn't empty is a word
some_word : (piece : List ℕ) → 0 < length piece → word_or_none piece ≡ piece ∷ []
some_word = search (rules, tests)

-- if a text has a space, its words are the piece before the first space, followed by the words
-- after this space. An empty piece isn't a word
at_space : (text : List ℕ) → position_or_len is_space text < length text
    → words_in text ≡ word_or_none (before_first is_space text) ++ words_in (after_first is_space text)
at_space = search (rules, slice_split_first, first_apart)

-- if a search for the first space of a text finds none, no byte of the text is a space
no_space : (text : List ℕ) → position_or_len is_space text ≡ length text → AllByRecursion (λ b. is_space b ≡ false) text
no_space [] none = tt
no_space (b ∷ text) none = grind (arith, (no_space text))

-- if a text has no space, the whole text is one word, unless the text is empty and has no words
without_space : (text : List ℕ) → position_or_len is_space text ≡ length text → words_in text ≡ word_or_none text
without_space text none = ap (filter (λ word. not (length word == 0))) (slice_split_none is_space text (All-from_recursion _ text (no_space text none)))
    ∙ first_apart _ [] ∙ append-nil (word_or_none text)

-- a list of length 0 is empty
pub no_byte : (xs : List ℕ) → length xs ≡ 0 → xs ≡ []
no_byte = grind (common_steps, arith)

-- ---- leading spaces

-- removing leading spaces preserves the words of a text
words_behind_spaces : (text : List ℕ) → words_in text ≡ words_in (without_spaces text)
words_behind_spaces [] = refl
words_behind_spaces (b ∷ text) = grind (arith, slice_split-cons_yes, (words_behind_spaces text))

-- if a text without its leading spaces isn't empty, its first word isn't empty
word_leads : (text : List ℕ) → without_spaces text ≢ [] → 0 < position_or_len is_space (without_spaces text)
word_leads [] some = absurd (some refl)
word_leads (b ∷ text) some = grind (arith, (word_leads text))

-- ---- the first word

-- if a space follows the first word of a text, the text's words are the first word, followed by the
-- words in the text after this space
pub words_cut : (text : List ℕ) → without_spaces text ≢ [] → position_or_len is_space (without_spaces text) < length (without_spaces text)
    → words_in text ≡ first_word text ∷ words_in (after_word text)
words_cut = search (rules, words_behind_spaces, at_space, some_word, word_leads, length-take-le)

-- if no space follows the first word, the first word is the only word
pub words_last : (text : List ℕ) → without_spaces text ≢ [] → position_or_len is_space (without_spaces text) ≡ length (without_spaces text)
    → (words_in text ≡ without_spaces text ∷ words_in []) × ((first_word text ≡ without_spaces text) × (after_word text ≡ []))
words_last = grind (common_steps, arith, words_behind_spaces, without_space, some_word, word_leads, take_all, length-drop)

-- the same as `words_cut`, with equations for the parts of the text
pub words_cut_as : (text rest word behind more : List ℕ) → rest ≡ without_spaces text → rest ≢ [] → position_or_len is_space rest < length rest
    → word ≡ before_first is_space rest → behind ≡ after_first is_space rest → more ≡ without_spaces behind → words_in text ≡ word ∷ words_in more
words_cut_as = search (rules, words_cut)

-- the same as `words_last`, with an equation for the text without its leading spaces
pub words_last_as : (text rest : List ℕ) → rest ≡ without_spaces text → rest ≢ [] → position_or_len is_space rest ≡ length rest → words_in text ≡ rest ∷ []
words_last_as = search (rules, words_last)

-- a text that consists only of spaces has no words
pub words_none : (text : List ℕ) → without_spaces text ≡ [] → (words_in text ≡ []) × (first_word text ≡ [])
words_none text none = (words_behind_spaces text ∙ ap words_in none, ap (before_first is_space) none)

-- ---- removing spaces one by one

-- a text without a space has no leading spaces
pub spaces_nowhere : (text : List ℕ) → position_or_len is_space text ≡ length text → without_spaces text ≡ text
spaces_nowhere [] end = refl
spaces_nowhere (b ∷ text) end = (λ i. cond ((no_space (b ∷ text) end).0 i) (without_spaces text) (b ∷ text))
