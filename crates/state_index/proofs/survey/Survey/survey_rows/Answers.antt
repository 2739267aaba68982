use Rattle.cif_laws.proofs.Common.{◌≡◌, List, ◌∷◌, map, refl, rules, sym, subst}
use Rattle.cif_change.specs.declared.key.Key.{Key}
use Rattle.docker_join.specs.declared.entry.Entry.{Entry}
use Rattle.docker_join.specs.Meaning.{row_meant}
use Rattle.state_index.specs.Rooms.{HasGrownBy, items_of}
use Rattle.state_index.proofs.Positions.{none_left}
use Rattle.state_index.proofs.Surveyed.{grown_none, grown_then}
use Rattle.state_index.proofs.survey.Survey.survey_rows.Goals as goal

pub loop-row-preserved : goal.loop-row-preserved
loop-row-preserved c =
    let whole : c.loop-row.rest.now ≡ c.in-Some.row.now ∷ c.in-Some.behind.now = search rules in
    record {
      grown = λ new behind. c.loop-row.invariant.grown new
          (subst (λ (rest : List (Key × Entry)). HasGrownBy (items_of (map row_meant rest)) c.loop-row.self new) (sym whole) (grown_then _ _
          _ _ _ (c.in_ok-survey_row.ensures refl) behind));
    }

pub returns : goal.returns
returns c = λ ok. c.loop-row.invariant.grown c.loop-row.self
    (subst (λ (rest : List (Key × Entry)). HasGrownBy (items_of (map row_meant rest)) c.loop-row.self c.loop-row.self)
    (sym (none_left _ c.in_default.ensures.cases)) (grown_none _))
