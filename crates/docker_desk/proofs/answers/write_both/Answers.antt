use Rattle.docker_host.proofs.StreamsLemmas.{part_of_first}
use Rattle.docker_desk.proofs.WritingLemmas.{ends_second}
use Rattle.docker_desk.proofs.answers.write_both.Goals as goal

pub returns-in-Ok : goal.returns-in-Ok
returns-in-Ok g c = ends_second _ _ _ _ _ _ c.in-Ok.ensures c.write_all-in-Ok.ensures

pub returns-in-Err : goal.returns-in-Err
returns-in-Err g c = part_of_first c.args.first.now c.args.second.now c.args.streams.now c.write_all.new.self c.in-Err.ensures
