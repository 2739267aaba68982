use Rattle.cif_laws.proofs.Common.{◌++◌, ◌∙◌, ap, append-nil, concat}
use Rattle.std.proofs.lemmas.List.Folds.{concat-append}
use Rattle.state_text.proofs.BufferLemmas.{each_given, each_fails, room_then_add, room_fails}
use Rattle.state_text.proofs.write.put_lines.Goals as goal

pub returns-in_err-make_room : goal.returns-in_err-make_room
returns-in_err-make_room g c = each_fails concat concat-append _ _ _ _ c.loop-line-test.true c.line-item.is (append-nil _) _ _ _ _ _ _ _ _ _ _
    c.loop-line.invariant.given c.loop-line.invariant.no_failure c.from_residual.ensures.1 (room_fails _ _ _ _ c.in_err-make_room.ensures.gives)

pub loop-line-preserved : goal.loop-line-preserved
loop-line-preserved g c = record {
  given = each_given concat concat-append _ _ _ _ c.loop-line-test.true c.line-item.is (append-nil _) _ _ _ _ _ _
      c.loop-line.invariant.given (room_then_add _ _ _ _ _ _ c.in_ok-make_room.ensures.gives.0
      (c.put.ensures.items ∙ ap (λ xs. c.make_room.new.buffer.items ++ xs) c.bytes.ensures.bytes));
  no_failure = c.in_ok-make_room.ensures.gives.1 ∙ c.loop-line.invariant.no_failure;
}
