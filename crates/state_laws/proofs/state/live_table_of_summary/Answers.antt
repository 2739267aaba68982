use Rattle.state_laws.proofs.states.PlainLive.{live_table_is_plain, live_is_lapsed_plain}
use Rattle.state_laws.proofs.state.live_table_of_summary.Goals as goal

pub returns-clause-none : goal.returns-clause-none
returns-clause-none c = live_table_is_plain

pub returns-clause-lapsed : goal.returns-clause-lapsed
returns-clause-lapsed c = live_is_lapsed_plain
