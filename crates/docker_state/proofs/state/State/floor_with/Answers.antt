use Rattle.docker_state.proofs.state.State.floor_with.Goals as goal

pub returns : goal.returns
returns c = c.common_floor.ensures c.args.self.now.ledger c.args.other.now.ledger c.floor.ensures c.floor-2.ensures
