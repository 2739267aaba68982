use Rattle.cif_laws.proofs.Common.{◌≡◌, take, concat}
use Rattle.state_text.specs.Written.{Gathers}
use Rattle.state_text.proofs.write.put_lines.Given as goal

-- the bytes of the lines before the current line were written through the buffer
abbrev pub invariant-loop-line : goal.invariant-loop-line
invariant-loop-line g l = record {
  given : Gathers (g.K.Sink.taken l.fn.sink) l.fn.buffer.items (concat (take l.line-index l.lines)) (g.K.Sink.taken l.sink) l.buffer.items;
  no_failure : g.K.Sink.failures l.sink ≡ g.K.Sink.failures l.fn.sink;
}
