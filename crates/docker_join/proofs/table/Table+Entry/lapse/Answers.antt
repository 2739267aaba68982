use Rattle.cif_laws.proofs.Common.{List, length, ap, sym, subst, arith}
use Rattle.cif_change.specs.declared.key.Key.{Key}
use Rattle.docker_join.specs.declared.entry.Entry.{Entry}
use Rattle.docker_join.specs.Rows.{AreAscending}
use Rattle.docker_join.proofs.LapsedRows.{written_back}
use Rattle.docker_join.proofs.table.Table+Entry.lapse.Goals as goal

pub invariant_of-self : goal.invariant_of-self
invariant_of-self c =
    let old = c.self.inside.rows.items in
    let new = c.lapse_rows.new.rows in
    let size = c.lapse_rows.auto.rows in
    let same = ap length c.deref_mut.ensures.value in
    let len = c.self.inside.rows.ok.0 in
    subst (λ (rows : List (Key × Entry)). AreAscending rows) (sym (written_back new old c.self.inside.rows.len (omega arith) (omega arith)))
    (c.lapse_rows.ensures.ascending (subst (λ (rows : List (Key × Entry)). AreAscending rows) (sym c.deref_mut.ensures.value) c.self.invariant))
