use Rattle.cif_laws.proofs.Common.{map, sym, subst, rules, State, IsValid, AreEntries}
use Rattle.docker_join.specs.Meaning.{row_meant}
use Rattle.docker_state.specs.Parts.{under}
use Rattle.state_text.specs.PartsSoFar.{horizon_meant}
use Rattle.docker_excerpt.specs.Values.{Excerpting, with_entries, StandsAt}
use Rattle.docker_excerpt.proofs.FinishedExcerpt.{kept_entries, kept_valid, is_excerpt_of, stands_for}
use Rattle.docker_excerpt.proofs.excerpting.Excerpting.finish.Goals as goal

pub with_rows-requires-clause-entries : goal.with_rows-requires-clause-entries
with_rows-requires-clause-entries c =
    let rows = map row_meant c.in_ok-rows.rows.items in
    let told = c.self.inside.ledger in
    let valid = subst (λ (v : Excerpting). IsValid (under (horizon_meant c.args.horizon) v.told)) (sym c.self.view_is) c.requires in
    subst (λ (parts : State). AreEntries parts.ledger rows) (sym c.into_parts-parts.ensures.parts)
    (kept_entries c.self.inside.walk.walk.place c.self.inside.walk.day (horizon_meant c.args.horizon) told valid rows
    (c.in_ok-rows.ensures told c.self.invariant))

pub under_horizon-requires-clause-valid : goal.under_horizon-requires-clause-valid
under_horizon-requires-clause-valid c =
    let told = c.self.inside.ledger in
    let valid = subst (λ (v : Excerpting). IsValid (under (horizon_meant c.args.horizon) v.told)) (sym c.self.view_is) c.requires in
    kept_valid c.self.inside.walk.walk.place c.self.inside.walk.day (horizon_meant c.args.horizon) told valid c.finish_unindexed-state.result
    (map row_meant c.in_ok-rows.rows.items) (c.in_ok-rows.ensures told c.self.invariant) (search rules) (search rules)

pub of-requires : goal.of-requires
of-requires c =
    let told = c.self.inside.ledger in
    let part = c.under_horizon.result in
    let given = c.into_parts-parts.result.1.entries in
    let valid = subst (λ (v : Excerpting). IsValid (under (horizon_meant c.args.horizon) v.told)) (sym c.self.view_is) c.requires in
    subst (λ place. StandsAt place c.day-day.result (with_entries part given) part) (sym c.place-place.ensures)
    (subst (λ day. StandsAt c.self.inside.walk.walk.place day (with_entries part given) part) (sym c.day-day.ensures)
    (is_excerpt_of c.self.inside.walk.walk.place c.self.inside.walk.day (horizon_meant c.args.horizon) told valid part
    (map row_meant c.in_ok-rows.rows.items) given (c.in_ok-rows.ensures told c.self.invariant) (search rules) (search rules) (search rules)
    c.into_parts-parts.ensures.given))

pub returns : goal.returns
returns c =
    let valid = subst (λ (v : Excerpting). IsValid (under (horizon_meant c.args.horizon) v.told)) (sym c.self.view_is) c.requires in
    search (rules, stands_for)
