use Rattle.std.proofs.Common.{rules, ◌≡◌, ◌+◌, ◌<◌, ◌≤◌, ◌++◌, length, refl, ap, sym, subst, ◌∙◌, arith}
use Rattle.std.proofs.lemmas.List.{nil_from_length}
use Rattle.std.proofs.lemmas.Result.{err_from_is_err_and}
use Rattle.docker_model.specs.state.StatePart.{width}
use Rattle.docker_bytes.specs.declared.reading.StateReading.{StateReading}
use Rattle.docker_bytes.specs.StateReading.{before_of, ReadsOn, IsLineOf}
use Rattle.docker_bytes.proofs.LineLemmas.{line_width, lines_within}
use Rattle.docker_bytes.proofs.ReadingLemmas.{before_rest, part_refused, told_of_piece, rest_first, rest_more, reads_none, reads_further}
use Rattle.docker_bytes.proofs.reading.StateReading.take_lines.Goals as goal

pub lines-init : goal.lines-init
lines-init g c =
    let empty : length c.args.self.now.partial.items ≡ 0 = search rules in
    let same = c.make_room.ensures in
    let now = c.make_room.new.self in
    let fits : now.reached ≤ now.limit = subst (λ (it : StateReading _). it.reached ≤ it.limit) (sym same) (let within = c.requires.within in omega arith) in
    let bounds = lines_within _ _ _ _ c.inner_lines-more.ensures in
    let allowed = bounds.1 in
    record {
      whole = (rest_first _).1;
      on = subst (λ it. ReadsOn c.args.self.now it (before_rest c.args.piece.now c.args.piece.now)) (sym same) (reads_none _ _ c.requires);
      line = subst (λ (it : StateReading _). IsLineOf c.in-Line.key c.in-Line.count it.stage) (sym same)
          (record { entries = c.in-Line._entries; stamp = c.in-Line._stamp; is = c.in-Line.is });
      none = ap (λ (it : StateReading _). it.partial.items) same ∙ nil_from_length c.args.self.now.partial.items empty;
      held = bounds.0;
      within = omega arith;
      few = bounds.2;
    }

pub take_line-requires-clause-inner : goal.take_line-requires-clause-inner
take_line-requires-clause-inner g c =
    let ahead = c.lines-test.true in
    let few = c.lines.invariant.few in
    record { stage = c.lines.invariant.line; more = omega arith; fresh = c.lines.invariant.none }

pub returns-in_err-take_line-clause-err : goal.returns-in_err-take_line-clause-err
returns-in_err-take_line-clause-err g c =
    let same = err_from_is_err_and c.from_residual.result c.from_residual.ensures.1 in
    let fault = c.in_err-take_line.field-0.0 in
    let line = c.split_at.result.0.now in
    let refused = c.in_err-take_line.ensures.err in
    let size : length line ≡ 80 = search rules in
    let ahead = c.lines-test.true in
    let allowed = c.lines.invariant.within in
    let wide : length line ≡ width (before_of c.lines.self) = size ∙ sym (line_width _ _ _ c.lines.invariant.line _ _) in
    let some : 0 < length line = omega arith in
    let fits : c.lines.self.reached + length line ≤ c.lines.self.limit = omega arith in
    rw (same.1, same.2) (told_of_piece _ _ _ _ c.lines.invariant.whole c.lines.invariant.on _ _ _ _ c.split_at.ensures.by_index.0
    (part_refused _ _ _ _ _ c.lines.invariant.on.reading (ap (λ xs. xs ++ line) (sym c.lines.invariant.none)) wide some fits refused.0 refused.1))

pub lines-preserved : goal.lines-preserved
lines-preserved g c =
    let ok = c.in_ok-take_line.ensures.ok refl in
    let next = c.in_ok-take_line.ensures.next refl in
    let ahead = c.lines-test.true in
    let size = c.split_at.ensures.back_len in
    let held = c.lines.invariant.held in
    let within = c.lines.invariant.within in
    let few = c.lines.invariant.few in
    let limit = ok.limit in
    let reached = next.reached in
    let lines = next.lines in
    record {
      whole = (rest_more _ _ _ _ c.lines.invariant.whole c.split_at.ensures.by_index.0).1;
      on = reads_further _ _ _ _ c.lines.invariant.whole c.lines.invariant.on _ _ _ c.split_at.ensures.by_index.0 ok;
      line = subst (IsLineOf c.in-Line.key c.in-Line.count) (sym next.stage) c.lines.invariant.line;
      none = next.partial ∙ c.lines.invariant.none;
      held = omega arith;
      within = omega arith;
      few = omega arith;
    }
