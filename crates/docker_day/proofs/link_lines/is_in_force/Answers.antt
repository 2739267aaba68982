use Rattle.cif_laws.proofs.Common.{◌&&◌, not, ap, sym, ◌∙◌, AssociationKey, association_runs, group_of}
use Rattle.docker_laws.specs.Gathering.{counts_as}
use Rattle.docker_laws.specs.LiveRows.{link_in}
use Rattle.train_choice.specs.Ranked.{is_cancellation}
use Rattle.docker_day.proofs.PassedOver.{not_in_force}
use Rattle.docker_day.proofs.link_lines.is_in_force.Goals as goal

pub returns : goal.returns
returns c = λ rows are.
    let counts = c.counts.ensures rows are ∙ ap (λ (key : AssociationKey). counts_as (link_in rows (group_of key) c.args.visit.now.start) key) c.key.ensures in
    let stands = ap not c.is_cancellation.ensures ∙ ap (λ (key : AssociationKey). not (is_cancellation key.indicator)) c.key-2.ensures in
    λ i. (counts i && stands i) && c.has_indicator.ensures i

pub returns-then-not-runs_on : goal.returns-then-not-runs_on
returns-then-not-runs_on c = λ rows are. not_in_force _ _ _ _ are c.requires.live
    (sym (c.runs_on.ensures ∙ ap (λ start. association_runs c.args.link.now.line start) c.start.ensures.start) ∙ c.if-not-runs_on.true)
