-- If the files of a set have distinct moments, lapsing their plain table with a horizon gives the
-- live table of their summary with this horizon.
use Rattle.cif_laws.proofs.Common.{◌≡◌, ℕ, List, refl, ◌∙◌, rules, Key, Table, empty_table, after_files, from_last_full, IsPlainTable, lapse_table, State}
use Rattle.cif_laws.proofs.Common.{live_table, HaveDistinctMoments, IsSummary}
use Rattle.state_laws.proofs.states.MomentOrder.{moment_order}
use Rattle.state_laws.proofs.states.TableLapsed.{body_stays}
use Rattle.state_laws.proofs.states.LapsedPlainTable.{live_is_plain}

-- with the horizon 0, lapsing leaves each table unchanged
pub lapse_table_none : (table : Table) (key : Key) → lapse_table 0 table key ≡ table key
lapse_table_none = search (rules, body_stays)

-- the live table of a summary is the plain table, lapsed with the summary's horizon
pub live_is_lapsed_plain : (files : List (List (List ℕ))) (horizon : ℕ) (state : State) (table : Table) → IsSummary files horizon state
    → IsPlainTable files table → live_table state ≡ lapse_table horizon table
live_is_lapsed_plain files horizon state table summary plain = λ i key. live_is_plain files horizon state table summary plain key i

-- the live table of a summary without a horizon is the plain table, if the files have distinct
-- moments
pub live_table_is_plain : (files : List (List (List ℕ))) (state : State) → IsSummary files 0 state → HaveDistinctMoments files
    → IsPlainTable files (live_table state)
live_table_is_plain files state summary distinct =
    let order = moment_order files distinct in
    let plain : IsPlainTable files (after_files empty_table (from_last_full order.0)) = record { ordered = order.0; order = order.1; is = λ other. refl } in
    record {
      ordered = order.0;
      order = order.1;
      is = λ key. live_is_plain _ 0 _ (after_files empty_table (from_last_full order.0)) summary plain _
          ∙ lapse_table_none (after_files empty_table (from_last_full order.0)) _;
    }
