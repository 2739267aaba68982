use Rattle.cif_laws.proofs.Common.{◌≡◌, take, map, flat_map, item_bytes}
use Rattle.docker_state.specs.Meaning.{item_meant}
use Rattle.state_text.specs.Written.{Gathers}
use Rattle.state_text.proofs.write.put_items.Given as goal

-- the bytes of the items before the current item were written through the buffer
abbrev pub invariant-loop-item : goal.invariant-loop-item
invariant-loop-item g l = record {
  given : Gathers (g.K.Sink.taken l.fn.sink) l.fn.buffer.items (flat_map item_bytes (map item_meant (take l.item-index l.items))) (g.K.Sink.taken l.sink)
      l.buffer.items;
  no_failure : g.K.Sink.failures l.sink ≡ g.K.Sink.failures l.fn.sink;
}
