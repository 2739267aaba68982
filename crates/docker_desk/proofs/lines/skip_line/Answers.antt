use Rattle.cif_laws.proofs.Common.{◌≢◌, rules, tests, arith, ◌∙◌, ◌≡◌, ◌-◌, ◌^◌, ◌∷◌, [], ℕ, subst, err_from_is_err_and}
use Rattle.docker_desk.specs.Lines.{Uses}
use Rattle.docker_desk.proofs.LineLemmas.{skips_byte, skips_before, many_more}
use Rattle.docker_desk.proofs.UseLemmas.{rest_end, rest_endless, rest_failed, rest_feed, rest_more}
use Rattle.docker_desk.proofs.lines.skip_line.Goals as goal

pub returns-in_err-next_byte-clause-uses : goal.returns-in_err-next_byte-clause-uses
returns-in_err-next_byte-clause-uses g c =
    let same = err_from_is_err_and c.from_residual.result c.from_residual.ensures.1 in
    rw (same.1, same.2) (rest_failed _ _ _ _ _ _ _ c.loop.invariant.rest c.in_err-next_byte.ensures.uses)

pub returns-in-None-clause-uses : goal.returns-in-None-clause-uses
returns-in-None-clause-uses g c = rest_end _ _ _ _ _ _ _
    c.loop.invariant.rest (rw c.in-None.is at c.in_ok-next_byte.ensures.uses) (c.in_ok-next_byte.ensures.none c.in-None.is)

pub returns-in-Some-eq10-clause-uses : goal.returns-in-Some-eq10-clause-uses
returns-in-Some-eq10-clause-uses g c =
    let ten : c.in-Some-eq10.field-0 ≡ 10 = search (rules, tests) in
    rest_feed _ _ _ _ _ _ _ c.loop.invariant.rest
    (subst (λ (b : ℕ). Uses (b ∷ []) c.loop.ahead c.next_byte.new.self c.loop.streams c.next_byte.new.streams) ten
    (rw c.in-Some-eq10.is at c.in_ok-next_byte.ensures.uses))

pub loop-preserved : goal.loop-preserved
loop-preserved g c =
    let read = rw c.in-Some.is at c.in_ok-next_byte.ensures.byte in
    let uses = rw c.in-Some.is at c.in_ok-next_byte.ensures.uses in
    let other : c.in-Some.field-0 ≢ 10 = search (rules, tests) in
    record {
      line = λ new line. c.loop.invariant.line new (skips_byte _ _ _ _ read other line);
      end = λ new line. c.loop.invariant.end new (skips_before _ _ _ _ read other line);
      many = many_more _ _ _ _ _ c.loop.invariant.many read;
      rest = rest_more _ _ _ _ _ _ _ _ c.loop.invariant.rest other uses;
      no_failure = c.in_ok-next_byte.ensures.failures.1 (λ error. cc) ∙ c.loop.invariant.no_failure;
      not_ended = λ was. rw c.in-Some.is at c.in_ok-next_byte.ensures.meets_end.told (c.loop.invariant.not_ended was);
      not_passed = λ was. c.in_ok-next_byte.ensures.meets_end.kept (c.loop.invariant.not_ended was) ∙ c.loop.invariant.not_passed was;
    }

pub returns-clause-uses : goal.returns-clause-uses
returns-clause-uses g c = rest_endless _ _ _ _ _ c.loop.invariant.rest
    (let full : c.loop.counter ≡ 2 ^ 64 - 1 = omega arith in full)
