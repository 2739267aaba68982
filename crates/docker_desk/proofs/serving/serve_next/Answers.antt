use Rattle.cif_laws.proofs.Common.{ap, refl, Some, Ok}
use Rattle.docker_desk.specs.Lines.{asked_meant, bad_line, is_end_of_lines}
use Rattle.docker_desk.specs.Replies.{answer_meant, no_request}
use Rattle.docker_desk.specs.declared.ending.Ending.TheVariants.{Ended}
use Rattle.docker_desk.specs.declared.lines.Asked.{Asked}
use Rattle.docker_desk.proofs.StepLemmas.{after_cut, after_line, after_whole, counts_line, does_bad, does_cut, ends_before, endless_before, fails_before}
use Rattle.docker_desk.proofs.StepLemmas.{left_at_cut, stops_cut, stops_line}
use Rattle.docker_desk.proofs.EndLemmas.{end_read, left_at_end, not_ended}
use Rattle.docker_desk.proofs.serving.serve_next.Goals as goal

pub returns-in-Ok-Line-clause-serves : goal.returns-in-Ok-Line-clause-serves
returns-in-Ok-Line-clause-serves g c =
    after_whole _ _ c.args.ahead.now c.next_line.new.ahead c.args.streams.now c.next_line.new.streams (Ok c.in-Ok-Line.field-0)
    c.in-Ok-Line.ensures.ends c.in-Ok-Line.ensures.uses _ c.in-Ok-Line.field-0 c.tell_answer.new.streams refl c.in-Ok-Line.line.items
    c.as_slice.result.now (answer_meant c.answer_line-answer.result) c.tell_answer.result (ap asked_meant c.in-Ok-Line.field-0-is)
    c.as_slice.ensures.value c.answer_line-answer.ensures c.tell_answer.ensures

pub returns-in-Ok-Bad-clause-serves : goal.returns-in-Ok-Bad-clause-serves
returns-in-Ok-Bad-clause-serves g c = after_line _ _ _ c.next_line.new.ahead _ _ _
    c.in-Ok-Bad.ensures.ends c.in-Ok-Bad.ensures.uses _ c.in-Ok-Bad.field-0 c.tell_answer-in-Ok-Bad.new.streams refl bad_line no_request
    c.tell_answer-in-Ok-Bad.result (ap asked_meant c.in-Ok-Bad.field-0-is) tt (does_bad _ _) c.tell_answer-in-Ok-Bad.ensures

pub returns-in-Ok-Cut-clause-serves : goal.returns-in-Ok-Cut-clause-serves
returns-in-Ok-Cut-clause-serves g c = after_cut _ _ _ c.next_line.new.ahead _ _ (Ok c.in-Ok-Cut.field-0)
    c.in-Ok-Cut.ensures.ends c.in-Ok-Cut.ensures.uses _ c.in-Ok-Cut.field-0 c.tell_answer-in-Ok-Cut.new.streams refl no_request
    c.tell_answer-in-Ok-Cut.result (ap asked_meant c.in-Ok-Cut.field-0-is) (does_cut _ _) c.tell_answer-in-Ok-Cut.ensures

pub returns-in-Ok-End-clause-serves : goal.returns-in-Ok-End-clause-serves
returns-in-Ok-End-clause-serves g c = ends_before _ _ _ _ _ _ _
    c.in-Ok-End.ensures.ends c.in-Ok-End.ensures.uses _ refl (ap asked_meant c.in-Ok-End.field-0-is)

pub returns-in-Err-Failed-clause-serves : goal.returns-in-Err-Failed-clause-serves
returns-in-Err-Failed-clause-serves g c = fails_before _ _ _ _ _ _ _ c.in-Err-Failed.ensures.ends c.in-Err-Failed.ensures.uses

pub returns-in-Err-Endless-clause-serves : goal.returns-in-Err-Endless-clause-serves
returns-in-Err-Endless-clause-serves g c = endless_before _ _ _ _ _ _ _
    c.in-Err-Endless.ensures.ends c.in-Err-Endless.ensures.uses _ refl c.in-Err-Endless.field-0-is

pub returns-in-Ok-Line-clause-counted : goal.returns-in-Ok-Line-clause-counted
returns-in-Ok-Line-clause-counted g c = counts_line _ _ _ _ _ _ c.in-Ok-Line.ensures.uses _ _ _ c.tell_answer.ensures (λ input output. (refl, refl))
    (c.in-Ok-Line.ensures.failures.1 (λ error. cc))

pub returns-in-Ok-Bad-clause-counted : goal.returns-in-Ok-Bad-clause-counted
returns-in-Ok-Bad-clause-counted g c = counts_line _ _ _ _ _ _ c.in-Ok-Bad.ensures.uses _ _ _ c.tell_answer-in-Ok-Bad.ensures
    (λ input output. (refl, refl)) (c.in-Ok-Bad.ensures.failures.1 (λ error. cc))

pub returns-in-Ok-Cut-clause-counted : goal.returns-in-Ok-Cut-clause-counted
returns-in-Ok-Cut-clause-counted g c = counts_line _ _ _ _ _ _ c.in-Ok-Cut.ensures.uses _ _ _ c.tell_answer-in-Ok-Cut.ensures
    (λ input output. (refl, refl)) (c.in-Ok-Cut.ensures.failures.1 (λ error. cc))

pub returns-in-Ok-Line-clause-stops : goal.returns-in-Ok-Line-clause-stops
returns-in-Ok-Line-clause-stops g c = stops_line _ _ _ _ _ _ c.in-Ok-Line.ensures.uses _ _ _ c.tell_answer.ensures refl
    (ap (λ (found : Asked). is_end_of_lines (Ok found)) c.in-Ok-Line.field-0-is) c.in-Ok-Line.ensures.meets_end

pub returns-in-Ok-Bad-clause-stops : goal.returns-in-Ok-Bad-clause-stops
returns-in-Ok-Bad-clause-stops g c = stops_line _ _ _ _ _ _ c.in-Ok-Bad.ensures.uses _ _ _ c.tell_answer-in-Ok-Bad.ensures refl
    (ap (λ (found : Asked). is_end_of_lines (Ok found)) c.in-Ok-Bad.field-0-is) c.in-Ok-Bad.ensures.meets_end

pub returns-in-Ok-Cut-clause-stops : goal.returns-in-Ok-Cut-clause-stops
returns-in-Ok-Cut-clause-stops g c = stops_cut _ _ _ _ _ _ c.in-Ok-Cut.ensures.uses _ _ _ c.tell_answer-in-Ok-Cut.ensures refl
    (ap (λ (found : Asked). is_end_of_lines (Ok found)) c.in-Ok-Cut.field-0-is) c.in-Ok-Cut.ensures.meets_end

pub returns-in-Ok-Line-clause-left : goal.returns-in-Ok-Line-clause-left
returns-in-Ok-Line-clause-left g c = not_ended c.tell_answer.result c.tell_answer.ensures

pub returns-in-Ok-Bad-clause-left : goal.returns-in-Ok-Bad-clause-left
returns-in-Ok-Bad-clause-left g c = not_ended c.tell_answer-in-Ok-Bad.result c.tell_answer-in-Ok-Bad.ensures

pub returns-in-Ok-Cut-clause-left : goal.returns-in-Ok-Cut-clause-left
returns-in-Ok-Cut-clause-left g c = λ _.
    left_at_cut c.args.ahead.now c.next_line.new.ahead c.args.streams.now c.next_line.new.streams c.tell_answer-in-Ok-Cut.new.streams
    c.in-Ok-Cut.field-0 _ (Some Ended) c.tell_answer-in-Ok-Cut.result c.in-Ok-Cut.ensures.ends (ap asked_meant c.in-Ok-Cut.field-0-is)
    c.tell_answer-in-Ok-Cut.ensures

pub returns-in-Ok-End-clause-left : goal.returns-in-Ok-End-clause-left
returns-in-Ok-End-clause-left g c = λ _. left_at_end _ _ _ (end_read _ _ _ (ap asked_meant c.in-Ok-End.field-0-is) c.in-Ok-End.ensures.ends)
