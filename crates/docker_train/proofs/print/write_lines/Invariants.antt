use Rattle.cif_laws.proofs.Common.{◌≡◌, drop, ended}
use Rattle.docker_day.proofs.Written.{Leads}
use Rattle.docker_train.proofs.print.write_lines.Given as goal

-- the sink has gained the lines before the current line
abbrev pub invariant-loop-line : goal.invariant-loop-line
invariant-loop-line g l = record {
  leads : Leads ended l.lines (drop l.line-index l.lines) (g.K.Sink.taken l.fn.sink) (g.K.Sink.taken l.sink);
  no_failure : g.K.Sink.failures l.sink ≡ g.K.Sink.failures l.fn.sink;
}
