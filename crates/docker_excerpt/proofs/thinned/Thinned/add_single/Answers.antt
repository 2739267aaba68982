-- A record makes one or two changes, and each of them is added.
use Rattle.cif_laws.proofs.Common.{rules, subst, IfSome}
use Rattle.cif_change.specs.Meaning.{change_meant}
use Rattle.cif_file.specs.SingleChanges.{PutsNoSchedule}
use Rattle.cif_file.proofs.FrontLemmas.{on_ok_one}
use Rattle.docker_excerpt.proofs.ThinLemmas.{two_taken}
use Rattle.docker_excerpt.proofs.thinned.Thinned.add_single.Goals as goal

pub returns-in-None : goal.returns-in-None
returns-in-None c = on_ok_one c.add.result c.add.ensures (λ added. search rules)

pub returns-in_ok-add-in-Some : goal.returns-in_ok-add-in-Some
returns-in_ok-add-in-Some c = on_ok_one c.add-in-Some-2.result c.add-in-Some-2.ensures (λ added. λ place day.
    let never = subst (λ first. IfSome first (λ change. PutsNoSchedule (change_meant change))) c.in-Some.is c.requires.0 in
    two_taken _ _ _ _ _ _ _ _ c.in-Some.is (c.in_ok-add-in-Some.ensures never place day) (added c.requires.1 place day))
