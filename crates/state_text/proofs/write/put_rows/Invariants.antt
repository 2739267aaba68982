use Rattle.cif_laws.proofs.Common.{◌≡◌, take, map, flat_map, entry_bytes}
use Rattle.docker_join.specs.Meaning.{row_meant}
use Rattle.state_text.specs.Written.{Gathers}
use Rattle.state_text.proofs.write.put_rows.Given as goal

-- the bytes of the entries before the current entry were written through the buffer
abbrev pub invariant-loop-row : goal.invariant-loop-row
invariant-loop-row g l = record {
  given : Gathers (g.K.Sink.taken l.fn.sink) l.fn.buffer.items (flat_map entry_bytes (map row_meant (take l.row-index l.rows))) (g.K.Sink.taken l.sink)
      l.buffer.items;
  no_failure : g.K.Sink.failures l.sink ≡ g.K.Sink.failures l.fn.sink;
}
