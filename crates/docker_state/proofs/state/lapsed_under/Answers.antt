use Rattle.docker_state.proofs.HorizonLemmas.{under_own}
use Rattle.docker_state.proofs.state.lapsed_under.Goals as goal

pub returns-else-own-other-clause-lapsed : goal.returns-else-own-other-clause-lapsed
returns-else-own-other-clause-lapsed c = under_own c.args.own c.args.other c.if-own-other.false c.args.rows.items c.requires.lapsed
