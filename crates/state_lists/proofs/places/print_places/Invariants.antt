use Rattle.cif_laws.proofs.Common.{◌≡◌, drop}
use Rattle.docker_state.specs.Live.{live_rows}
use Rattle.state_lists.proofs.Lines.{kept_line}
use Rattle.docker_day.proofs.Written.{Leads}
use Rattle.state_lists.proofs.places.print_places.Given as goal

-- the sink has gained the lines of the rows before the current row
abbrev pub invariant-loop-row : goal.invariant-loop-row
invariant-loop-row g l = record {
  leads : Leads (kept_line (live_rows l.state.entries)) l.rows (drop l.row-index l.rows) (g.K.Sink.taken l.fn.sink) (g.K.Sink.taken l.sink);
  no_failure : g.K.Sink.failures l.sink ≡ g.K.Sink.failures l.fn.sink;
}
