use Rattle.cif_laws.proofs.Common.{subst}
use Rattle.docker_detail.specs.Known.{MayBeKnownLinks}
use Rattle.docker_detail.proofs.KnownPairs.{pair_known}
use Rattle.docker_detail.proofs.link_records.LinkRecords.known_pair.Goals as goal

pub returns-in-Some : goal.returns-in-Some
returns-in-Some c = pair_known _ _ _ _ _ _ _ _ _ _ _ c.self.view_is
    (subst (MayBeKnownLinks c.self.inside.timetable c.self.inside.place) c.in-Some.is c.self.invariant) c.asked.ensures
