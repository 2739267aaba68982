use Rattle.cif_laws.proofs.Common.{sym, ◌∙◌}
use Rattle.docker_day.proofs.FirstCalls.{there_before, first_of_suffix}
use Rattle.docker_day.proofs.base_calls.add_call.Goals as goal

pub returns-then-contains_key : goal.returns-then-contains_key
returns-then-contains_key c = there_before c.args.suffix c.args.call c.args.calls.now (sym c.contains_key.ensures ∙ c.if-contains_key.true)

pub returns : goal.returns
returns c =
    first_of_suffix c.args.suffix c.args.call c.args.calls.now c.insert.new.self (sym c.contains_key.ensures ∙ c.if-contains_key.false)
    c.in_ok-insert.ensures.updates
