-- Lemmas on entries that lapse one by one, as a keeper is given them.
use Rattle.cif_laws.proofs.Common.{◌≡◌, ℕ, All, List, [], ◌∷◌, refl, sym, subst, rules, max, AllByRecursion, max_comm, recursion_from_All, IsDay, Key}
use Rattle.cif_laws.proofs.Common.{HasNotToLapse, lapse_entries, lapse_entry, lapse_keyed, Entry, key_cmp, IsBelow, Stamp, IsValid, State, raise_horizon}
use Rattle.cif_laws.proofs.Common.{IsStampHere}
use Rattle.std.proofs.lemmas.List.Elements.{All-map}
use Rattle.state_laws.proofs.joins.JoinValid.{raised_is_valid}
use Rattle.state_laws.proofs.states.Lapse.{entry_stays, entry_twice}
use Rattle.docker_state.specs.Parts.{under}
use Rattle.state_text.specs.Lapsing.{HasLapsed}
use Rattle.state_text.specs.Receiving.{given_state}

-- if a key and a stamp are good after the given entries, they are good after the entries that were
-- kept
pub kept_here : (day own : ℕ) (parts : State) (given : List (Key × Entry)) → HasLapsed day own parts given → (key : Key) (stamp : Stamp)
    → IsStampHere (given_state parts.ledger given) key stamp → IsStampHere parts key stamp
kept_here day own parts given has key stamp here = (
  (
    here.0.0,
    subst (λ entries. All (λ (entry : Key × Entry). IsBelow key_cmp entry.0 key) entries) (sym has.entries)
        (All-map (λ (entry : Key × Entry). IsBelow key_cmp entry.0 key) (lapse_keyed day) given here.0.1),
  ),
  here.1,
)

-- an entry that has lapsed with a horizon lapses with the later of this horizon and a day exactly
-- if it lapses with the day
entry_later : (horizon day : ℕ) (entry : Entry) → HasNotToLapse horizon entry.op → lapse_entry day entry ≡ lapse_entry (max horizon day) entry
entry_later = search (rules, entry_stays, entry_twice, max_comm)

entries_later : (horizon day : ℕ) (entries : List (Key × Entry)) → AllByRecursion (λ (entry : Key × Entry). HasNotToLapse horizon entry.1.op) entries
    → lapse_entries day entries ≡ lapse_entries (max horizon day) entries
entries_later horizon day [] all = refl
entries_later horizon day (first ∷ entries) all =
    λ i. (first.0, entry_later horizon day first.1 all.0 i) ∷ entries_later horizon day entries all.1 i

-- suppose that the given entries have lapsed with the text's horizon, and that the kept entries
-- have lapsed with a day too. Then the kept entries with the later of this horizon and this day are
-- the given state with its horizon raised to this day
pub raised_parts : (day own horizon later : ℕ) (parts : State) (given : List (Key × Entry)) → HasLapsed day own parts given → later ≡ max horizon own
    → IsValid (under horizon (given_state parts.ledger given))
    → under later parts ≡ raise_horizon day (under horizon (given_state parts.ledger given))
raised_parts = search (rules, entries_later, recursion_from_All)

-- the state that is made from the kept entries is valid
pub raised_valid : (day own horizon later : ℕ) (parts : State) (given : List (Key × Entry)) → HasLapsed day own parts given → later ≡ max horizon own
    → IsDay own → IsValid (under horizon (given_state parts.ledger given))
    → IsValid (under later parts)
raised_valid day own horizon later parts given has is within valid = subst IsValid (sym (raised_parts _ _ _ _ _ _ has is valid))
    (raised_is_valid _ _ (subst IsDay has.day_is within) valid)
