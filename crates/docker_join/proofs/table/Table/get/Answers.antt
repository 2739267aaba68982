use Rattle.cif_laws.proofs.Common.{rules, always_returns_same}
use Rattle.cif_change.specs.Meaning.{key_meant}
use Rattle.docker_join.proofs.Lookup.{by_key, row_found, row_missing, rows_rise}
use Rattle.docker_join.proofs.table.Table.get.Goals as goal

pub returns-in-Ok : goal.returns-in-Ok
returns-in-Ok g c = rw (← c.self.view_is) (row_found _ _ _ _ c.self.invariant (rw (← c.deref.ensures.value) c.in-Ok.ensures.bound) c.index.ensures
    (λ d. rw (← c.deref.ensures.value)
    (c.in-Ok.ensures.position (by_key (key_meant c.args.key.now)) (always_returns_same _ _ _ (λ a r f h. search rules)) d)))

pub returns-in-Err : goal.returns-in-Err
returns-in-Err g c =
    rw (← c.self.view_is)
    (row_missing c.self.inside.rows.items (key_meant c.args.key.now) c.in-Err.field-0 c.self.invariant
    (rw (← c.deref.ensures.value)
    (c.in-Err.ensures.position (by_key (key_meant c.args.key.now)) (always_returns_same _ _ _ (λ a r f h. search rules))
    (rw c.deref.ensures.value (rows_rise c.self.inside.rows.items (key_meant c.args.key.now) c.self.invariant)))))
