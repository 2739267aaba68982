use Rattle.std.proofs.Common.{refl, sym, ◌<◌, ◌+◌, length, append-nil, arith}
use Rattle.std.proofs.lemmas.Result.{err_from_is_err_and}
use Rattle.docker_model.specs.state.StatePart.{width}
use Rattle.docker_bytes.specs.StateReading.{before_of}
use Rattle.docker_bytes.proofs.ReadingLemmas.{open_text, told_of_piece, rest_more, reads_further}
use Rattle.docker_bytes.proofs.reading.StateReading.read.Goals as goal

pub returns-then-rest-missing-clause-step : goal.returns-then-rest-missing-clause-step
returns-then-rest-missing-clause-step g c =
    let wide = c.width-width.ensures.value c.parts.self.parts c.parts.self.lines in
    let kept = c.len.ensures.value in
    let below = c.if-rest-missing.true in
    let short : length c.parts.self.partial.items + length c.parts.rest.now < width (before_of c.parts.self) = omega arith in (
      refl,
      open_text _ _ _ _ c.parts.invariant.whole c.parts.invariant.on _ short (c.in_ok-keep.ensures.ok refl),
    )

pub returns-in_err-take-clause-err : goal.returns-in_err-take-clause-err
returns-in_err-take-clause-err g c =
    let same = err_from_is_err_and c.from_residual-in_err-take.result c.from_residual-in_err-take.ensures.1 in
    rw (same.1, same.2) (told_of_piece _ _ _ _ c.parts.invariant.whole c.parts.invariant.on _ _ _ _ c.split_at.ensures.by_index.0 c.in_err-take.ensures.err)

pub returns-in_err-rest-clause-err : goal.returns-in_err-rest-clause-err
returns-in_err-rest-clause-err g c =
    let same = err_from_is_err_and c.from_residual-in_err-rest.result c.from_residual-in_err-rest.ensures.1 in
    let further = rest_more _ _ _ _ c.parts.invariant.whole c.split_at.ensures.by_index.0 in
    let on = reads_further _ _ _ _ c.parts.invariant.whole c.parts.invariant.on _ _ _ c.split_at.ensures.by_index.0 (c.in_ok-take.ensures.ok refl) in
    let past = rest_more _ _ _ _ further.1 (sym c.take_head-after.ensures.rest) in
    let head = reads_further _ _ _ _ further.1 on _ _ _ (sym c.take_head-after.ensures.rest) c.take_head-after.ensures.on in
    rw (same.1, same.2) (told_of_piece _ _ _ _ past.1 head _ _ _ _ (sym (append-nil _)) c.in_err-rest.ensures.err)

pub parts-preserved : goal.parts-preserved
parts-preserved g c =
    let further = rest_more _ _ _ _ c.parts.invariant.whole c.split_at.ensures.by_index.0 in
    let on = reads_further _ _ _ _ c.parts.invariant.whole c.parts.invariant.on _ _ _ c.split_at.ensures.by_index.0 (c.in_ok-take.ensures.ok refl) in
    let past = rest_more _ _ _ _ further.1 (sym c.take_head-after.ensures.rest) in
    let head = reads_further _ _ _ _ further.1 on _ _ _ (sym c.take_head-after.ensures.rest) c.take_head-after.ensures.on in
    record {
      whole = (rest_more _ _ _ _ past.1 (sym c.in_ok-rest.ensures.rest)).1;
      on = reads_further _ _ _ _ past.1 head _ _ _ (sym c.in_ok-rest.ensures.rest) c.in_ok-rest.ensures.on;
    }
