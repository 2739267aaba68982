-- Looking up the words of several arguments by their ids, one id after another.
use Rattle.cif_laws.proofs.Common.{◌≡◌, ◌∙◌, ◌<◌, ◌+◌, ℕ, List, [], ◌∷◌, ◌++◌, length, drop, None, option_map, ap, slice_index_or, rules, Option}
use Rattle.cif_laws.proofs.Common.{option_and_then, Bor}
use Rattle.std.proofs.lemmas.List.{drop_more}
use Rattle.clap.specs.Walk.{Row, first_of}
use Rattle.docker_cmd.specs.Words.{Text, texts}
use Rattle.docker_cmd.specs.Grammar.{found_words}

-- `found` contains the words of the ids before index `i`. Looking up all ids returns `found`,
-- followed by the words of the ids from index `i` on. It returns `None` if one of the ids from
-- index `i` on has no word
abbrev pub HasFound : List (Bor Text) → List Row → ℕ → List Text → Type 0
HasFound ids rows i found = found_words (texts ids) rows ≡ option_map (λ rest. found ++ rest) (found_words (texts (drop i ids)) rows)

-- if no id has been looked up yet, no word has been found
pub none_yet : (ids : List (Bor Text)) (rows : List Row) → HasFound ids rows 0 []
none_yet = search (rules, option_map)

-- the words found before id `i`, then this word of id `i`, then the words of later ids, or `None`
-- if id `i` or a later id has no word
abbrev with_word : List (Bor Text) → List Row → ℕ → List Text → Option Text → Option (List Text)
with_word ids rows i found here = option_map (λ rest. found ++ rest)
    (option_and_then (λ word. option_map (λ words. word ∷ words) (found_words (texts (drop (i + 1) ids)) rows)) here)

-- looking up all ids returns the words found before id `i`, the word of id `i`, and the words of
-- later ids, in this order
one_on : (ids : List (Bor Text)) (rows : List Row) (i : ℕ) (d : Bor Text) (found : List Text) → i < length ids → HasFound ids rows i found
    → found_words (texts ids) rows ≡ with_word ids rows i found (first_of (slice_index_or ids i d).now rows)
one_on = search (rules, option_map, drop_more)

-- if id `i` has no word, looking up all ids returns None
pub none_here : (ids : List (Bor Text)) (rows : List Row) (i : ℕ) (d : Bor Text) (found : List Text) → i < length ids
    → first_of (slice_index_or ids i d).now rows ≡ None → HasFound ids rows i found → found_words (texts ids) rows ≡ None
none_here ids rows i d found within never has = one_on ids rows i d found within has ∙ ap (with_word ids rows i found) never
