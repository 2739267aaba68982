use Rattle.docker_state.specs.Meaning.{item_meant}
use Rattle.state_text.specs.Written.{body_text}
use Rattle.state_text.proofs.BufferLemmas.{flush_written, part_written}
use Rattle.state_text.proofs.WriteLemmas.{state_text_is}
use Rattle.state_text.proofs.write.put_text.Goals as goal

pub returns-in_err-put_body : goal.returns-in_err-put_body
returns-in_err-put_body g c = part_written _ _ _ _ c.add_head.new.buffer.items (body_text c.args.state.now) _ _ _ c.from_residual.ensures.1
    (state_text_is c.args.state.now item_meant _ _ _ _ c.ledger.ensures.items c.horizon.ensures.horizon c.new-buffer.ensures c.add_head.ensures)
    c.in_err-put_body.ensures

pub returns : goal.returns
returns g c = flush_written _ _ _ _ _ c.add_head.new.buffer.items (body_text c.args.state.now) _ _ _ c.in_ok-put_body.ensures.0 c.in_ok-put_body.ensures.1
    (state_text_is c.args.state.now item_meant _ _ _ _ c.ledger.ensures.items c.horizon.ensures.horizon c.new-buffer.ensures c.add_head.ensures)
    c.flush.ensures.gives
