use Rattle.cif_laws.proofs.Common.{[], ◌∷◌, ap, sym, ◌∙◌}
use Rattle.train_choice.specs.Meaning.{occasion_meant}
use Rattle.train_choice.specs.EventWalk.{occurrence_meant}
use Rattle.docker_day.specs.Lines.{line_of_link, is_today}
use Rattle.docker_day.specs.Visits.{Visit}
use Rattle.docker_day.proofs.Adding.{told_if}
use Rattle.docker_day.proofs.link_lines.line_at.Goals as goal

pub returns-clause-line : goal.returns-clause-line
returns-clause-line c = λ rows are base same.
    let link = c.args.link.now in
    let visit = c.args.visit.now in
    let today = (λ i. is_today (sym c.day.ensures i) (sym c.start.ensures.start i) (occurrence_meant c.args.event.now)) ∙ sym c.is_today.ensures
    ∙ c.if-not-is_today.false in
    told_if _ _ _ today
    (ap (λ line. line ∷ []) (c.of_link.ensures base same
    ∙ (λ i. line_of_link (occasion_meant c.args.occasion) link.key base
    ((c.start-2.ensures.start ∙ ap (λ (v : Visit). v.start) c.partner_identity.ensures.same) i)
    (occurrence_meant c.args.event.now) (c.in_ok-identity.ensures.identity rows are i))))
