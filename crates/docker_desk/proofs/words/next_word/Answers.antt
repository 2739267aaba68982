use Rattle.cif_laws.proofs.Common.{◌≡◌, ◌≢◌, [], length, sym, ◌∙◌, rules, tests}
use Rattle.docker_desk.proofs.WordLemmas.{no_byte, words_none, words_cut_as, words_last_as}
use Rattle.docker_desk.proofs.words.next_word.Goals as goal

pub returns-then-is_empty-clause-none : goal.returns-then-is_empty-clause-none
returns-then-is_empty-clause-none c = λ none.
    let none : length c.without_spaces-text.result.now ≡ 0 = search (rules, tests) in
    words_none c.args.text.now (sym c.without_spaces-text.ensures ∙ no_byte c.without_spaces-text.result.now none)

pub returns-in-Some-clause-words : goal.returns-in-Some-clause-words
returns-in-Some-clause-words c =
    let some : c.without_spaces-text.result.now ≢ [] = search rules in
    words_cut_as c.args.text.now c.without_spaces-text.result.now c.in-Some.word.now c.in-Some.behind.now c.without_spaces.result.now
    c.without_spaces-text.ensures some c.in-Some.ensures.pieces.2 c.in-Some.ensures.pieces.0 c.in-Some.ensures.pieces.1 c.without_spaces.ensures

pub returns-in-None-clause-words : goal.returns-in-None-clause-words
returns-in-None-clause-words c =
    let some : c.without_spaces-text.result.now ≢ [] = search rules in
    words_last_as c.args.text.now c.without_spaces-text.result.now c.without_spaces-text.ensures some c.in-None.ensures.pieces
