use Rattle.cif_laws.proofs.Common.{◌≡◌, ◌≢◌, ℕ, List, ◌∷◌, [], length, arith, rules, inl, inr, refl, ap, sym, subst, ◌∙◌, true, append-nil, is_printable}
use Rattle.cif_laws.proofs.Common.{err_from_is_err_and}
use Rattle.cif_device.specs.Device.{Reads}
use Rattle.docker_desk.specs.Lines.{Uses, cut_or_end, with_ahead}
use Rattle.docker_desk.proofs.LineLemmas.{ArePrintable, IsSpoiled, printable_more, printable_without, reads_bad, reads_on}
use Rattle.docker_desk.proofs.UseLemmas.{uses_bad, uses_cut, uses_failed, uses_more, uses_whole}
use Rattle.docker_desk.proofs.lines.next_line.Goals as goal
use Rattle.docker_desk.proofs.lines.next_line.Goals.{then-is_full-via-then-is_full, then-is_full-via-else-is_full+then-not-is_printable}

pub unreachable-requires : goal.unreachable-requires
unreachable-requires g c = omega (arith, c.loop.invariant.counted, c.loop.invariant.short, c.loop-test.false)

pub returns-in_err-byte-clause-uses : goal.returns-in_err-byte-clause-uses
returns-in_err-byte-clause-uses g c =
    let same = err_from_is_err_and c.from_residual.result c.from_residual.ensures.1 in
    rw (same.1, same.2) (uses_failed _ _ _ _ _ (uses_more _ _ _ _ _ _ _ _
    (printable_without _ c.loop.invariant.printable) c.loop.invariant.uses c.in_err-byte.ensures.uses))

pub returns-then-is_full-clause-ends : goal.returns-then-is_full-clause-ends
returns-then-is_full-clause-ends g c =
    let read = rw c.in-Some.is at c.in_ok-byte.ensures.byte in
    let other : c.in-Some.byte ≢ 10 = search rules in
    let spoiled : IsSpoiled c.loop.line.items c.in-Some.byte = elim c.then-is_full.branch [
      | then-is_full-via-then-is_full w ↦
          let full : length c.loop.line.items ≡ 255 = search rules in record { other = other; why = inl full }
      | then-is_full-via-else-is_full+then-not-is_printable w ↦ record { other = other; why = inr (search rules) }
    ] in
    reads_bad _ _ _ _ _ _ _ c.loop.invariant.so_far read c.loop.invariant.printable spoiled c.skip_line.ensures.ends

pub returns-then-is_full-clause-uses : goal.returns-then-is_full-clause-uses
returns-then-is_full-clause-uses g c =
    let uses = rw c.in-Some.is at c.in_ok-byte.ensures.uses in
    let other : c.in-Some.byte ≢ 10 = search rules in
    let spoiled : IsSpoiled c.loop.line.items c.in-Some.byte = elim c.then-is_full.branch [
      | then-is_full-via-then-is_full w ↦
          let full : length c.loop.line.items ≡ 255 = search rules in record { other = other; why = inl full }
      | then-is_full-via-else-is_full+then-not-is_printable w ↦ record { other = other; why = inr (search rules) }
    ] in
    uses_bad _ _ _ _ _ _ _ _ _ (uses_more _ _ _ _ _ _ _ _ (printable_without _ c.loop.invariant.printable) c.loop.invariant.uses uses)
    c.loop.invariant.printable spoiled c.skip_line.ensures.uses

pub returns-in_default-clause-uses : goal.returns-in_default-clause-uses
returns-in_default-clause-uses g c = uses_cut _ _ _ _ _ (uses_more _ _ _ _ _ _ _ _
    (printable_without _ c.loop.invariant.printable) c.loop.invariant.uses (rw c.in_default.is at c.in_ok-byte.ensures.uses))
    (c.in_ok-byte.ensures.none c.in_default.is) (subst ArePrintable (sym (append-nil c.loop.line.items)) c.loop.invariant.printable)
    _ (c.without_feed.ensures ∙ ap cut_or_end (sym (append-nil c.loop.line.items)))

pub returns-then-byte-eq10-clause-uses : goal.returns-then-byte-eq10-clause-uses
returns-then-byte-eq10-clause-uses g c = uses_whole _ _ _ _ _ (uses_more _ _ _ _ _ _ _
    _ (printable_without _ c.loop.invariant.printable) c.loop.invariant.uses
    (subst (λ (b : ℕ). Uses (b ∷ []) c.loop.ahead c.next_byte.new.self c.loop.streams c.next_byte.new.streams) c.if-byte-eq10.true
    (rw c.in-Some.is at c.in_ok-byte.ensures.uses))) c.loop.invariant.printable c.loop.invariant.short _ _ refl refl

pub loop-preserved : goal.loop-preserved
loop-preserved g c =
    let read = rw c.in-Some.is at c.in_ok-byte.ensures.byte in
    let uses = rw c.in-Some.is at c.in_ok-byte.ensures.uses in
    let here : is_printable c.in-Some.byte ≡ true = search rules in
    let full : length c.loop.line.items ≢ 255 = search rules in
    record {
      so_far = subst (λ (line : List ℕ). Reads (with_ahead c.args.ahead.now c.args.streams.now.input) line
          (with_ahead c.next_byte.new.self c.next_byte.new.streams.input)) (sym c.push.ensures.items) (reads_on _ _ _ _ _ c.loop.invariant.so_far read);
      uses = subst (λ (line : List ℕ). Uses line c.args.ahead.now c.next_byte.new.self c.args.streams.now c.next_byte.new.streams) (sym c.push.ensures.items)
          (uses_more _ _ _ _ _ _ _ _ (printable_without _ c.loop.invariant.printable) c.loop.invariant.uses uses);
      printable = subst ArePrintable (sym c.push.ensures.items) (printable_more _ _ c.loop.invariant.printable here);
      short =
          (let long = c.push.ensures.len in let short = c.loop.invariant.short in omega (arith, long, short, full));
      counted = (let long = c.push.ensures.len in let had = c.loop.invariant.counted in omega (arith, long, had));
      no_failure = c.in_ok-byte.ensures.failures.1 (λ error. cc) ∙ c.loop.invariant.no_failure;
      not_ended = λ was. rw c.in-Some.is at c.in_ok-byte.ensures.meets_end.told (c.loop.invariant.not_ended was);
      not_passed = λ was. c.in_ok-byte.ensures.meets_end.kept (c.loop.invariant.not_ended was) ∙ c.loop.invariant.not_passed was;
    }
