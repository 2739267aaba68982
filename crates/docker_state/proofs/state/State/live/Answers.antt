use Rattle.cif_laws.proofs.Common.{map, ap, ◌∙◌, subst, State, IsValid}
use Rattle.state_laws.proofs.states.PlainLive.{live_table_is_plain, live_is_lapsed_plain}
use Rattle.docker_join.specs.Meaning.{row_meant}
use Rattle.docker_state.specs.Live.{live_rows}
use Rattle.docker_state.proofs.LiveTable.{live_walks, live_ascends}
use Rattle.docker_state.proofs.state.State.live.Goals as goal

pub returns-clause-table : goal.returns-clause-table
returns-clause-table c = live_walks _ (subst IsValid c.self.view_is c.self.invariant.valid) _
    (c.of.ensures ∙ (λ i. live_rows (map row_meant (c.as_slice.ensures.rows i))) ∙ ap (λ (s : State). live_rows s.entries) c.self.view_is)

pub returns-clause-ascending : goal.returns-clause-ascending
returns-clause-ascending c = live_ascends _ (subst IsValid c.self.view_is c.self.invariant.valid) _
    (c.of.ensures ∙ (λ i. live_rows (map row_meant (c.as_slice.ensures.rows i))) ∙ ap (λ (s : State). live_rows s.entries) c.self.view_is)

pub returns-clause-plain : goal.returns-clause-plain
returns-clause-plain c = λ files summary distinct. live_table_is_plain files c.args.self.now summary distinct

pub returns-clause-lapsed : goal.returns-clause-lapsed
returns-clause-lapsed c = λ files horizon table summary plain. live_is_lapsed_plain files horizon c.args.self.now table summary plain
