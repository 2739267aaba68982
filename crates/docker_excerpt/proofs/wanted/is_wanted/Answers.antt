use Rattle.cif_laws.proofs.Common.{rules, bytes_eq-Decides}
use Rattle.docker_laws.proofs.dockers.NeededChanges.{wanted_uid}
use Rattle.state_laws.proofs.indexes.CallsTest.{any_back}
use Rattle.docker_excerpt.proofs.wanted.is_wanted.Goals as goal

pub returns : goal.returns
returns c = search (rules, wanted_uid, any_back, bytes_eq-Decides)
