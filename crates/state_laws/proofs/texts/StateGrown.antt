-- If a state can be written in a format, so can the state after a good entry is appended.
use Rattle.cif_laws.proofs.Common.{ℕ, arith, List, [], ◌∷◌, ◌++◌, All, ◌<◌, ◌≤◌, ◌^◌, length, nat_le, common_steps, rules, recursion_from_All, leb_tells, IsDay}
use Rattle.cif_laws.proofs.Common.{Key, LedgerItem, Stamp, deleted, Entry, Op, HasNotToLapse, IsLedger, IsValid, State, IsOpOf, Format, IsHorizonOf, TellsOp}
use Rattle.cif_laws.proofs.Common.{IsToldState, IsStampHere, AreGood}
use Rattle.state_laws.specs.TextStage.{with_entry, after_items, after_entries}
use Rattle.cif_laws.proofs.lists.AllOf.{all_append}
use Rattle.cif_laws.proofs.orders.Ascending.{ascending_last}

-- each horizon that a format allows is a day number
pub horizon_day : (format : Format) (horizon : ℕ) → IsHorizonOf format horizon → IsDay horizon
horizon_day = search rules

-- a deletion can be written in each format
pub tells_deleted : (format : Format) → TellsOp format deleted
tells_deleted = search rules

-- a state without entries is valid, if its horizon is a day number and its ledger is well formed
pub valid_without : (horizon : ℕ) (ledger : List LedgerItem) → IsDay horizon → IsLedger ledger
    → IsValid (record { horizon = horizon; ledger = ledger; entries = [] })
valid_without = search rules

-- a state without entries can be written in the format, if the format allows the state's horizon
-- and the state's ledger is well formed
pub no_entries : (format : Format) (horizon : ℕ) (ledger : List LedgerItem) → IsHorizonOf format horizon → IsLedger ledger
    → IsToldState format (record { horizon = horizon; ledger = ledger; entries = [] })
no_entries = search (rules, valid_without, horizon_day)

-- if all entries of a list and one more entry have a property, all entries of the list with that
-- entry appended have it
one_more : (P : Key × Entry → Type 0) (entries : List (Key × Entry)) (entry : Key × Entry) → All P entries → P entry → All P (entries ++ entry ∷ [])
one_more = grind (common_steps, arith, all_append, recursion_from_All)

-- a valid state with a good entry appended is still valid
pub valid_more : (state : State) (key : Key) (stamp : Stamp) (op : Op) → IsValid state → IsStampHere state key stamp → IsOpOf key op
    → HasNotToLapse state.horizon op → IsValid (with_entry state key stamp op)
valid_more state key stamp op valid here of stays = search (rules, one_more, ascending_last, recursion_from_All)

-- if a state and one more good entry can be written in a format, so can the state with that entry
-- appended
pub one_entry_more : (format : Format) (state : State) (key : Key) (stamp : Stamp) (op : Op) → IsToldState format state → IsStampHere state key stamp
    → IsOpOf key op
    → HasNotToLapse state.horizon op → TellsOp format op → IsToldState format (with_entry state key stamp op)
one_entry_more = grind (common_steps, arith, valid_more, one_more)

-- if the horizon and the ledger are good, all parts up to and including the ledger's items are good
pub good_after_items : (format : Format) (horizon : ℕ) → (count : ℕ) (ledger : List LedgerItem) → IsHorizonOf format horizon → IsLedger ledger
    → length ledger ≤ count → count < 2 ^ 64 → AreGood format (after_items horizon count ledger)
good_after_items = search (rules, leb_tells, nat_le)

-- if a state can be written in the format, all parts up to and including the state's entries are
-- good
pub good_after_entries : (format : Format) → (count : ℕ) (state : State) → IsToldState format state → length state.ledger < 2 ^ 64
    → length state.entries ≤ count → count < 2 ^ 64 → AreGood format (after_entries count state)
good_after_entries = search (rules, leb_tells, nat_le)
