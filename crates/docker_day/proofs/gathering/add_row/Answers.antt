use Rattle.cif_laws.proofs.Common.{ap, sym, ◌∙◌, on_ok_weaker}
use Rattle.train_choice.specs.Known.{PlaceDay}
use Rattle.docker_day.specs.RowViews.{row_runs_recently, row_under_way}
use Rattle.docker_day.specs.Visits.{Visit}
use Rattle.docker_day.proofs.OnVisits.{adds_on_visits, adds_today_alone}
use Rattle.docker_day.proofs.PassedOver.{not_recently}
use Rattle.docker_day.proofs.gathering.add_row.Goals as goal

pub returns-then-not-row_runs_recently-clause-added : goal.returns-then-not-row_runs_recently-clause-added
returns-then-not-row_runs_recently-clause-added c = not_recently _ _ _ _ _ c.requires
    (sym (c.row_runs_recently.ensures ∙ ap (row_runs_recently c.args.view.now) c.day.ensures) ∙ c.if-not-row_runs_recently.true)

pub returns-then-not-is_row_under_way-clause-added : goal.returns-then-not-is_row_under_way-clause-added
returns-then-not-is_row_under_way-clause-added c =
    let place = c.place.ensures ∙ ap (λ (v : Visit). v.place) c.add_piece.ensures.same ∙ ap (λ (p : PlaceDay). p.place) c.visits.view_is in
    let day = c.day-2.ensures ∙ ap (λ (v : Visit). v.day) c.add_piece.ensures.same ∙ ap (λ (p : PlaceDay). p.day) c.visits.view_is in
    adds_today_alone _ _ _ _ _ _ _ _ c.visits.view_is c.visits.invariant c.requires
    (sym (c.is_row_under_way.ensures ∙ (λ i. row_under_way (place i) c.args.view.now (day i))) ∙ c.if-not-is_row_under_way.true)
    c.in_ok-add_piece.ensures.added

pub returns-clause-added : goal.returns-clause-added
returns-clause-added c = on_ok_weaker c.add_back-2.result (adds_on_visits _ _ _ _ _ _ _ _ _ _
    c.visits.view_is c.visits.invariant c.in_ok-add_piece.ensures.added c.in_ok-add_back.ensures.added) c.add_back-2.ensures.added
