use Rattle.cif_laws.proofs.Common.{take, flat_map}
use Rattle.docker_host.specs.Streams.{WritesWhole}
use Rattle.docker_desk.specs.Requests.{row_of}
use Rattle.docker_desk.specs.Help.{request_line}
use Rattle.docker_desk.specs.declared.requests.Verb.{Verb}
use Rattle.docker_desk.proofs.help.write_requests.Given as goal

-- the output has gained the lines of the verbs before the current verb
abbrev pub invariant-loop-verb : goal.invariant-loop-verb
invariant-loop-verb g l = record {
  so_far : WritesWhole (flat_map (λ (verb : Verb). request_line (row_of verb)) (take l.verb-index l.verbs)) l.fn.streams l.streams;
}
