-- If an office's knowledge is good for a format (`IsGoodKnown`), the format can hold the summary of
-- the files that the office knows. The counts in a text of fewer than 2^64 bytes fit in eight
-- bytes.
use Rattle.cif_laws.proofs.Common.{◌≡◌, ℕ, ◌^◌, ◌<◌, ◌≤◌, List, [], ◌∷◌, length, sym, subst, arith, length-append, rules, flat_map, Key, Entry, lapse_entry}
use Rattle.cif_laws.proofs.Common.{State, IsGreatestEntryOf, Format, state_text, IsHorizonOf, TellsOp, IsToldState, Known, IsStateOf, IsGoodKnown}
use Rattle.docker_model.specs.state.StatePart.{IsCount}
use Rattle.cif_laws.proofs.lists.Membership.{all_members}
use Rattle.state_laws.proofs.states.Lapse.{lapse_none}
use Rattle.state_laws.proofs.texts.StateGrown.{horizon_day}
use Rattle.state_laws.proofs.states.SummaryValid.{summary_is_valid}

-- ---- the counts in a text fit in eight bytes

-- if `f` returns at least one byte for each element, a list has at most as many elements as
-- `flat_map f` returns bytes
at_least : {A : Type 0} (f : A → List ℕ) → ((x : A) → 1 ≤ length (f x)) → (xs : List A) → length xs ≤ length (flat_map f xs)
at_least f one [] = omega arith
at_least f one (x ∷ xs) = let here = one x in let rest = at_least f one xs in let whole = length-append (f x) (flat_map f xs) in omega arith

-- in a text of fewer than 2^64 bytes the counts are below 2^64
pub counts_fit : (format : Format) (state : State) → length (state_text format state) < 2 ^ 64 → IsCount (length state.ledger) × IsCount (length state.entries)
counts_fit = search (rules, at_least, length-append)

-- ---- each format can hold the ops of a summary whose horizon the format allows

-- if an office's knowledge is good for a format (`IsGoodKnown`), the summary of the known files is
-- a valid state that the format can hold
pub summary_told : (format : Format) (known : Known) (state : State) → IsGoodKnown format known → IsStateOf known state → IsToldState format state
summary_told format known state good summary = record {
  valid = summary_is_valid _ _ _ (horizon_day _ _ good.1) good.0.0 good.0.1 summary;
  horizon = subst (IsHorizonOf format) (sym summary.horizon_is) good.1;
  ops = all_members _ _ (λ entry among. each entry.0 entry.1 ((summary.entries entry.0 entry.1).0 among));
}
  where
    each : (key : Key) (entry : Entry) → (greatest : Entry) × IsGreatestEntryOf known.files summary.floor key greatest
        × (lapse_entry known.horizon greatest ≡ entry) → TellsOp format entry.op
    each key entry told = search (rules, lapse_none)
