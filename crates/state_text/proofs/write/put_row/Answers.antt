use Rattle.cif_laws.proofs.Common.{subst, [], concat}
use Rattle.docker_join.specs.Meaning.{row_meant}
use Rattle.state_text.specs.Written.{Gives}
use Rattle.state_text.proofs.BufferLemmas.{then_gives, fails_first, room_then_add}
use Rattle.state_text.proofs.WriteLemmas.{entry_text}
use Rattle.state_text.proofs.write.put_row.Goals as goal

pub returns-in_err-make_room : goal.returns-in_err-make_room
returns-in_err-make_room g c = fails_first _ _ _ _ _ [] _ _ _ _ c.from_residual.ensures.1 c.in_err-make_room.ensures.gives

pub returns : goal.returns
returns g c =
    let entry = row_meant c.args.row.now in
    let taken = g.K.Sink.taken in
    let failures = g.K.Sink.failures in
    subst (λ bytes. Gives taken failures c.args.sink.now c.args.buffer.now.items bytes c.put_lines.result c.put_lines.new.sink c.put_lines.new.buffer.items)
    (entry_text _) (then_gives _ _ _ _ _ _ _ _ _ _ _ (room_then_add _ _ _ _ _ _ c.in_ok-make_room.ensures.gives.0 c.add_entry_head.ensures.items)
    c.in_ok-make_room.ensures.gives.1
    (subst (λ lines. Gives taken failures c.make_room.new.sink c.add_entry_head.new.buffer.items (concat lines) c.put_lines.result c.put_lines.new.sink
    c.put_lines.new.buffer.items) c.lines_of.ensures c.put_lines.ensures))
