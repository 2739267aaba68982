use Rattle.docker_join.specs.Meaning.{row_meant}
use Rattle.docker_state.specs.Meaning.{item_meant}
use Rattle.state_text.proofs.BufferLemmas.{second_fails, third_gives}
use Rattle.state_text.proofs.WriteLemmas.{body_text_is}
use Rattle.state_text.proofs.write.put_body.Goals as goal

pub returns-in_err-put_count : goal.returns-in_err-put_count
returns-in_err-put_count g c = second_fails _ _ _ _ _ _ _ _ _ _ _ _
    (body_text_is c.args.state.now item_meant row_meant _ _ c.ledger.ensures.items c.entries-entries.ensures.rows)
    c.in_ok-put_items.ensures.0 c.in_ok-put_items.ensures.1 _ _ c.from_residual-in_err-put_count.ensures.1 c.in_err-put_count.ensures

pub returns : goal.returns
returns g c = third_gives _ _ _ _ _ _ _ _ _ _ _ _
    (body_text_is c.args.state.now item_meant row_meant _ _ c.ledger.ensures.items c.entries-entries.ensures.rows)
    c.in_ok-put_items.ensures.0 c.in_ok-put_items.ensures.1 _ _ _ c.in_ok-put_count.ensures c.put_rows.ensures
