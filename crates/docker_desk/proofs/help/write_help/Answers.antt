use Rattle.cif_laws.proofs.Common.{List, subst, flat_map}
use Rattle.docker_host.specs.Streams.{EndsWriting}
use Rattle.docker_host.proofs.StreamsLemmas.{part_of_first}
use Rattle.docker_desk.specs.Requests.{row_of}
use Rattle.docker_desk.specs.Help.{request_line}
use Rattle.docker_desk.specs.declared.requests.Verb.{Verb}
use Rattle.docker_desk.proofs.WritingLemmas.{ends_second}
use Rattle.docker_desk.proofs.help.write_help.Goals as goal

pub returns-in-Ok : goal.returns-in-Ok
returns-in-Ok g c = ends_second _ _ _ _ _ _ c.in-Ok.ensures
    (subst (λ (these : List Verb). EndsWriting c.write_requests.result (flat_map (λ (verb : Verb). request_line (row_of verb)) these)
    c.write_all.new.self c.write_requests.new.streams) c.all.ensures c.write_requests.ensures)

pub returns-in-Err : goal.returns-in-Err
returns-in-Err g c = part_of_first _ _ _ _ c.in-Err.ensures
