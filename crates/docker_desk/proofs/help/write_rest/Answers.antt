use Rattle.docker_host.proofs.StreamsLemmas.{part_of_first}
use Rattle.docker_desk.proofs.WritingLemmas.{ends_second}
use Rattle.docker_desk.proofs.help.write_rest.Goals as goal

pub returns-in-Ok : goal.returns-in-Ok
returns-in-Ok g c = ends_second _ _ _ _ _ _ c.in-Ok.ensures c.write_all.ensures

pub returns-in-Err : goal.returns-in-Err
returns-in-Err g c = part_of_first _ _ _ _ c.in-Err.ensures
