use Rattle.cif_laws.proofs.Common.{◌≡◌, ◌++◌, ap, ◌∙◌, sym, append_assoc, rules, arith}
use Rattle.docker_cmd.specs.JobLine.{word_or_none, words_in}
use Rattle.docker_cmd.specs.Words.{texts}
use Rattle.docker_cmd.proofs.LineWords.{words_at_space}
use Rattle.docker_cmd.proofs.line_of_job.words_in.Goals as goal

pub loop-word-preserved : goal.loop-word-preserved
loop-word-preserved c =
    let pieces = c.in-Some.ensures.pieces in
    let step : word_or_none c.in-Some.word.now ++ words_in c.in-Some.behind.now ≡ words_in c.loop-word.rest.now =
    (λ i. word_or_none (pieces.0 i) ++ words_in (pieces.1 i)) ∙ sym (words_at_space c.loop-word.rest.now pieces.2) in
    record {
      words = ap (λ t. t ++ words_in c.in-Some.behind.now) c.push_word.ensures.word
          ∙ append_assoc (texts c.loop-word.words.items) (word_or_none c.in-Some.word.now) (words_in c.in-Some.behind.now)
          ∙ ap (λ w. texts c.loop-word.words.items ++ w) step ∙ c.loop-word.invariant.words;
      text = search rules;
      room = omega (arith, c.in-Some.ensures.lengths, c.push_word.ensures.len, c.loop-word.invariant.room);
    }
