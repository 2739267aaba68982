use Rattle.state_laws.proofs.joins.JoinLaws.{join_commutes}
use Rattle.docker_state.proofs.state.State.join_into_longer.Goals as goal

pub returns-in-Ok-clause-ok : goal.returns-in-Ok-clause-ok
returns-in-Ok-clause-ok c = join_commutes c.args.other c.args.self c.in-Ok.joined c.in-Ok.ensures.ok
