use Rattle.cif_laws.proofs.Common.{sym, subst, rules, IsValid}
use Rattle.docker_state.specs.Parts.{under}
use Rattle.state_text.specs.PartsSoFar.{horizon_meant}
use Rattle.state_text.proofs.PartsSoFarLemmas.{join_behind, join_plain}
use Rattle.state_text.proofs.received.Received.join.Goals as goal
use Rattle.state_text.proofs.received.Received.join.Goals.{then-is_ok+in-Some, then-is_ok+in_default, else-is_ok}

pub returns-clause-ok : goal.returns-clause-ok
returns-clause-ok g c = λ ok.
    let joined = c.finish-joined.ensures.ok ok (horizon_meant c.args.horizon)
    (subst (λ t. IsValid (under (horizon_meant c.args.horizon) t)) (sym c.self.view_is) c.requires) in
    elim c.if-is_ok.branch [
      | then-is_ok+in-Some w ↦ search (rules, join_behind)
      | then-is_ok+in_default w ↦ search (rules, join_plain)
      | else-is_ok w ↦ search rules
    ]
