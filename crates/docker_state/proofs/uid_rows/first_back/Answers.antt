use Rattle.cif_laws.proofs.Common.{◌-◌, ap, sym, ◌∙◌, arith, is_lt, get_or_default}
use Rattle.docker_state.specs.UidPiece.{is_before}
use Rattle.docker_state.proofs.UidRows.{begins_at_front, begins_after}
use Rattle.docker_state.proofs.uid_rows.first_back.Goals as goal

pub returns-else-not-is_lt-clause-parts : goal.returns-else-not-is_lt-clause-parts
returns-else-not-is_lt-clause-parts c = begins_after _ _ c.requires.up _ c.loop-first.invariant.within c.loop-first.invariant.here
    (let above = c.loop-first-test.true in omega arith) (λ d. ap (is_before c.args.uid.now)
    (get_or_default c.args.rows.now (c.loop-first.first - 1) d c.index-rows-first.result (let within = c.loop-first.invariant.within in omega arith))
    ∙ ap is_lt (sym c.to_uid.ensures) ∙ sym c.is_lt.ensures ∙ c.if-not-is_lt.false)

pub returns-after-loop-first-clause-parts : goal.returns-after-loop-first-clause-parts
returns-after-loop-first-clause-parts c = begins_at_front _ _ c.requires.up _ c.loop-first.invariant.within c.loop-first.invariant.here
    (let none = c.loop-first-test.false in omega arith)
