-- Each of the record's changes was kept if the docker may need it, and dropped otherwise.
use Rattle.cif_laws.proofs.Common.{subst, ◌++◌, ◌∙◌}
use Rattle.docker_excerpt.specs.ThinKept.{HasThinned}
use Rattle.cif_file.proofs.FrontLemmas.{on_ok_one}
use Rattle.docker_excerpt.proofs.thin_kept.ThinSoFarChangeKeeper.add_single.Goals as goal

pub returns-clause-kept : goal.returns-clause-kept
returns-clause-kept g c =
    on_ok_one c.add_single.result c.add_single.ensures
    (λ added. λ lines made keeps. record {
      lines_are = keeps.lines_are;
      runs_near_is = keeps.runs_near_is;
      so_far = c.with_single-self.ensures ∙ (λ i. keeps.so_far i ++ c.changes_of-changes.ensures.changes i);
      thinned =
          subst (λ more. HasThinned g.P.PlaceDay.place g.P.PlaceDay.day c.add_single.new.self (made ++ more)) c.changes_of-changes.ensures.changes
          (added g.P.PlaceDay.place g.P.PlaceDay.day made keeps.thinned);
    })
