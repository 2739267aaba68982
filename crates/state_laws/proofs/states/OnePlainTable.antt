-- A set of files with distinct moments has exactly one plain table.
use Rattle.cif_laws.proofs.Common.{◌≡◌, ℕ, List, sym, ◌∙◌, refl, on_total, moment_of, Table, IsPlainTable, after_files, empty_table, from_last_full}
use Rattle.cif_laws.proofs.Common.{HaveDistinctMoments}
use mathlib.Core.Path.{fun_ext}
use Rattle.cif_laws.proofs.orders.Ascending.{same_list}
use Rattle.state_laws.proofs.states.MomentOrder.{moment_order}
use Rattle.cif_laws.proofs.orders.Orders.{moment_total}

-- files with distinct moments have a plain table
pub some_plain_table : (files : List (List (List ℕ))) → HaveDistinctMoments files → (table : Table) × IsPlainTable files table
some_plain_table files distinct =
    let order = moment_order files distinct in
    (after_files empty_table (from_last_full order.0), record { ordered = order.0; order = order.1; is = λ key. refl })

-- a set of files has at most one plain table
pub one_plain_table : (files : List (List (List ℕ))) (one two : Table) → IsPlainTable files one → IsPlainTable files two → one ≡ two
one_plain_table files one two first second =
    let ordered = same_list (on_total moment_of moment_total) first.ordered second.ordered first.order.ascending second.order.ascending
    (λ file. (λ among. (second.order.same file).1 ((first.order.same file).0 among), λ among. (first.order.same file).1 ((second.order.same file).0 among))) in
    fun_ext (λ key. first.is key ∙ (λ i. after_files empty_table (from_last_full (ordered i)) key) ∙ sym (second.is key))
