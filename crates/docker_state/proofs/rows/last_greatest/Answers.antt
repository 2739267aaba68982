use Rattle.cif_laws.proofs.Common.{◌≡◌, List, sym, subst}
use Rattle.cif_change.specs.declared.key.Key.{Key}
use Rattle.docker_join.specs.declared.entry.Entry.{Entry}
use Rattle.docker_state.specs.Rows.{last_rows}
use Rattle.docker_state.proofs.PlainRows.{lasts_in_order, lasts_are_greatest}
use Rattle.docker_state.proofs.rows.last_greatest.Goals as goal

pub returns-then-are_apart-clause-ascending : goal.returns-then-are_apart-clause-ascending
returns-then-are_apart-clause-ascending c = lasts_in_order _ _ _ c.sort_nearly.ensures.sorted c.sort_nearly.ensures.permutation
    (subst (λ (rows : List (Key × Entry)). rows ≡ last_rows rows) c.as_slice.ensures.value (sym (c.are_apart.ensures c.if-are_apart.true)))

pub returns-then-are_apart-clause-greatest : goal.returns-then-are_apart-clause-greatest
returns-then-are_apart-clause-greatest c = lasts_are_greatest _ _ _ c.sort_nearly.ensures.sorted c.sort_nearly.ensures.permutation
    (subst (λ (rows : List (Key × Entry)). rows ≡ last_rows rows) c.as_slice.ensures.value (sym (c.are_apart.ensures c.if-are_apart.true))) c.requires.records

pub returns-clause-ascending : goal.returns-clause-ascending
returns-clause-ascending c = lasts_in_order _ _ _ c.sort_nearly.ensures.sorted c.sort_nearly.ensures.permutation c.last_rows.ensures

pub returns-clause-greatest : goal.returns-clause-greatest
returns-clause-greatest c = lasts_are_greatest _ _ _ c.sort_nearly.ensures.sorted c.sort_nearly.ensures.permutation c.last_rows.ensures c.requires.records
