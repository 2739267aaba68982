use Rattle.cif_laws.proofs.Common.{◌≡◌, List, ◌∷◌, map, refl, rules, sym, subst}
use Rattle.cif_change.specs.declared.change.Change.{Change}
use Rattle.cif_change.specs.Meaning.{change_meant}
use Rattle.state_index.specs.Rooms.{HasGrownBy, changed_items}
use Rattle.state_index.proofs.Positions.{none_left}
use Rattle.state_index.proofs.Surveyed.{grown_none, grown_then}
use Rattle.state_index.proofs.survey.Survey.survey_changes.Goals as goal

pub loop-change-preserved : goal.loop-change-preserved
loop-change-preserved c =
    let whole : c.loop-change.rest.now ≡ c.in-Some.change.now ∷ c.in-Some.behind.now = search rules in
    record {
      grown = λ new behind. c.loop-change.invariant.grown new
          (subst (λ (rest : List Change). HasGrownBy (changed_items (map change_meant rest)) c.loop-change.self new) (sym whole) (grown_then _ _
          _ _ _ (c.in_ok-survey_change.ensures refl) behind));
    }

pub returns : goal.returns
returns c = λ ok. c.loop-change.invariant.grown c.loop-change.self
    (subst (λ (rest : List Change). HasGrownBy (changed_items (map change_meant rest)) c.loop-change.self c.loop-change.self)
    (sym (none_left _ c.in_default.ensures.cases)) (grown_none _))
