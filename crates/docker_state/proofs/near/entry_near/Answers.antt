use Rattle.cif_laws.proofs.Common.{rules, ◌∙◌, ap, sym, always_returns_same, get_or_default, key_cmp}
use Rattle.std.specs.Cmp.{Equal-is}
use Rattle.cif_change.specs.Meaning.{key_meant}
use Rattle.docker_join.proofs.Lookup.{by_key, row_found, parts_at, row_missing, rows_rise}
use Rattle.docker_state.proofs.near.entry_near.Goals as goal

pub returns-then-eq : goal.returns-then-eq
returns-then-eq c =
    let found = c.in-Some.ensures.lookup.3 in
    let tied = (Equal-is (key_cmp (key_meant c.in-Some.row.now.0) (key_meant c.args.key.now))).0 (sym c.eq.ensures ∙ c.if-eq.true) in
    row_found _ _ _ _ c.requires found.0 (found.1 c.in-Some.row.now) (λ d. ap (by_key (key_meant c.args.key.now)) (sym (found.1 d)) ∙ tied)

pub returns-then-is_above_before : goal.returns-then-is_above_before
returns-then-is_above_before c =
    let below = c.is_below_at.ensures c.if-is_below_at.true in
    row_missing _ _ _ c.requires (parts_at _ _ _ c.requires below.0 (c.is_above_before.ensures c.if-is_above_before.true) below.1)

pub returns-in-Ok : goal.returns-in-Ok
returns-in-Ok c = row_found _ _ _ _ c.requires c.in-Ok.ensures.bound
    (get_or_default c.args.rows.now c.in-Ok.at c.index-rows-at.result _ c.in-Ok.ensures.bound)
    (λ d. c.in-Ok.ensures.position (by_key (key_meant c.args.key.now)) (always_returns_same _ _ _ (λ a r f h. search rules)) d)

pub returns-in-Err : goal.returns-in-Err
returns-in-Err c = row_missing _ _ _ c.requires
    (c.in-Err.ensures.position (by_key (key_meant c.args.key.now)) (always_returns_same _ _ _ (λ a r f h. search rules)) (rows_rise _ _ c.requires))
