use Rattle.cif_laws.proofs.Common.{◌∙◌, false, length, map, ap, subst, State, IsValid, live_table}
use Rattle.docker_join.specs.Meaning.{row_meant}
use Rattle.state_index.specs.Counts.{IsCallingCount}
use Rattle.docker_state.specs.Indexed.{IsIndexIfAny}
use Rattle.docker_state.specs.Meaning.{state_meant}
use Rattle.docker_state.specs.PlaceRows.{rows_here}
use Rattle.docker_state.proofs.SiftedRows.{calls_counted}
use Rattle.docker_state.proofs.state.State.count_calling.Goals as goal

pub count_calling-requires-clause-named : goal.count_calling-requires-clause-named
count_calling-requires-clause-named c =
    (subst (IsIndexIfAny (map row_meant c.self.inside.entries)) c.in-Some.is c.self.invariant.indexed).named

pub count_calling-requires-clause-up : goal.count_calling-requires-clause-up
count_calling-requires-clause-up c =
    (subst (IsIndexIfAny (map row_meant c.self.inside.entries)) c.in-Some.is c.self.invariant.indexed).calls.up

pub returns-in-Some : goal.returns-in-Some
returns-in-Some c =
    subst (λ (s : State). IsCallingCount (live_table s) c.args.tiploc.now c.count_calling.result) c.self.view_is
    (c.count_calling.ensures (state_meant c.self.inside.horizon c.self.inside.ledger.items c.self.inside.entries)
    c.self.invariant.valid.entries.1
    (subst (IsIndexIfAny (map row_meant c.self.inside.entries)) c.in-Some.is c.self.invariant.indexed))

pub returns-in-None : goal.returns-in-None
returns-in-None c = calls_counted _ (subst IsValid c.self.view_is c.self.invariant.valid) _ _ (c.count_calls.ensures
    ∙ ap (λ rows. length (rows_here false c.args.tiploc.now rows))
    (ap (map row_meant) c.as_slice.ensures.rows ∙ ap (λ (s : State). s.entries) c.self.view_is))
