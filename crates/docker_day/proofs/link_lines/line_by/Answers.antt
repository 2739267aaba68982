use Rattle.cif_laws.proofs.Common.{◌≡◌, Some, ap, sym, ◌∙◌, rules}
use Rattle.docker_laws.specs.LiveRows.{train_in}
use Rattle.train_choice.specs.Meaning.{occasion_meant}
use Rattle.train_choice.specs.EventWalk.{occurrence_meant}
use Rattle.docker_day.specs.Bases.{first_call, meant_if}
use Rattle.docker_day.proofs.FirstCalls.{with_base}
use Rattle.docker_day.proofs.link_lines.line_by.Goals as goal

pub returns-in-Ok-Some-clause-line : goal.returns-in-Ok-Some-clause-line
returns-in-Ok-Some-clause-line c =
    let found : c.in-Ok-Some.field-0 ≡ Some c.in-Ok-Some.event = search rules in
    with_base c.args.link.now (occasion_meant c.args.occasion) (occurrence_meant c.in-Ok-Some.event) c.args.visit.now c.first_call.new.self c.line_at.result
    c.first_call.ensures.same
    (λ rows are. ap meant_if (sym found) ∙ c.in-Ok-Some.ensures.event rows are
    ∙ (λ i. first_call (train_in rows (c.key-key.ensures i).base c.args.visit.now.start) (sym c.requires.here i) (c.key-key.ensures i).suffix))
    c.line_at.ensures.line
