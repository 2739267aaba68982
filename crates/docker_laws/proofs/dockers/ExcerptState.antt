-- An excerpt of a valid state for a place is valid. It has the same dockers for the place as the
-- state, and the program refuses them for the same days. One excerpt of a state has exactly the
-- entries whose keys the docker of the place needs.
use Rattle.cif_laws.proofs.Common.{◌++◌, ◌≡◌, ℕ, List, [], ◌∷◌, subst, inl, inr, refl, ap, sym, ◌∙◌, Bool, true, false, Some, None, arith, rules, Option, ◌&&◌}
use Rattle.cif_laws.proofs.Common.{◌||◌, filter, find, option_and_then, list_any, bytes_eq, is_eq, bytes_eq-Decides, All-from_recursion, recursion_from_All}
use Rattle.cif_laws.proofs.Common.{Contains-append_right, IsDay, Key, tiploc_key, association_key, schedule_key, association_body, schedule_body, IsBelow}
use Rattle.cif_laws.proofs.Common.{LedgerItem, Stamp, Entry, body_of, key_cmp, HasNotToLapse, IsStampHere, IsStampIn, IsOpOf, State, IsValid, IsLedger}
use Rattle.cif_laws.proofs.Common.{IsGoodEntry, AreEntries, HaveLapsed, live_table}
use Rattle.docker_laws.specs.Excerpt.{IsSublist, IsNeeded, IsExcerptState}
use Rattle.docker_laws.specs.ExcerptWalk.{is_here, has_uid, name_in, is_call}
use Rattle.cif_laws.proofs.orders.Orders.{same_key}
use Rattle.cif_laws.proofs.orders.Ascending.{later_of, ascending_of, ascending_last, below_next}
use Rattle.cif_laws.proofs.lists.AllOf.{all_append}
use Rattle.cif_laws.proofs.lists.Membership.{member_of, cons-Contains-first}
use Rattle.docker_laws.proofs.dockers.Sublists.{sublist_all, sublist_later, sublist_filter, sublist_itself, sublist_onward}
use Rattle.cif_laws.proofs.lists.BoolsAndOptions.{and_true}
use Rattle.cif_laws.proofs.lists.FilteredMembers.{find_some, filter_back}
use Rattle.state_laws.proofs.states.PlainTable.{Keyed, live_none}
use Rattle.state_laws.proofs.states.GoodBodies.{live_entry}
use Rattle.docker_laws.proofs.dockers.ExcerptDocker.{same_where_needed}
use Rattle.state_laws.proofs.indexes.CallsTest.{any_forth, calls_test}

-- ---- an excerpt of a valid state is valid

-- if a state with this ledger may have the entries of a list, it may also have only the entries of
-- a sublist of this list
pub some_entries : (ledger : List LedgerItem) (some all : List Keyed) → AreEntries ledger all → IsSublist some all → AreEntries ledger some
some_entries ledger some all are is = search (rules, sublist_all, ascending_of, sublist_later, later_of)

-- an entry that may follow the entries of a state may also follow a sublist of these entries
pub still_here : (state part : State) (key : Key) (stamp : Stamp) → IsSublist part.entries state.entries → part.ledger ≡ state.ledger
    → IsStampHere state key stamp → IsStampHere part key stamp
still_here state part key stamp is same here = (
  (here.0.0, sublist_all (λ (entry : Keyed). IsBelow key_cmp entry.0 key) _ state.entries is here.0.1),
  subst (λ ledger. IsStampIn ledger stamp) (sym same) here.1,
)

-- if an entry may follow the entries of a state, a state with the same ledger may have the same
-- entries and this entry after them
pub entries_more : (state : State) (key : Key) (entry : Entry) → AreEntries state.ledger state.entries → IsStampHere state key entry.stamp
    → IsOpOf key entry.op
    → AreEntries state.ledger (state.entries ++ (key, entry) ∷ [])
entries_more state key entry are here of = (
  All-from_recursion (IsGoodEntry state.ledger) (state.entries ++ (key, entry) ∷ [])
      (search (rules, all_append, recursion_from_All)),
  ascending_last _ _ _ are.1 (recursion_from_All (λ (e : Keyed). IsBelow key_cmp e.0 key) state.entries here.0.1),
)

-- each entry of a state may follow the entries before it
pub entry_behind : (state : State) (key : Key) (entry : Entry) (rest : List Keyed) → AreEntries state.ledger (state.entries ++ (key, entry) ∷ rest)
    → IsStampHere state key entry.stamp × IsOpOf key entry.op
entry_behind state key entry rest are =
    let among = Contains-append_right state.entries ((key, entry) ∷ rest) (key, entry) (cons-Contains-first {A = Keyed} (key, entry) rest) in
    let good : IsGoodEntry state.ledger (key, entry) = member_of (IsGoodEntry state.ledger) _ (key, entry) are.0 among in (
      (
        (
          good.key,
          All-from_recursion (λ (e : Keyed). IsBelow key_cmp e.0 key) state.entries (below_next _ state.entries _ rest are.1),
        ),
        good.stamp,
      ),
      good.op,
    )

-- if a valid state keeps only a sublist of its entries, it is still valid
pub some_valid : (state part : State) → IsValid state → part.horizon ≡ state.horizon → part.ledger ≡ state.ledger → IsSublist part.entries state.entries
    → IsValid part
some_valid state part valid same_horizon same_ledger is = record {
  horizon = subst IsDay (sym same_horizon) valid.horizon;
  ledger = subst IsLedger (sym same_ledger) valid.ledger;
  entries = subst (λ ledger. AreEntries ledger part.entries) (sym same_ledger) (some_entries state.ledger part.entries state.entries valid.entries is);
  have_lapsed = subst (λ horizon. HaveLapsed horizon part.entries) (sym same_horizon)
      (sublist_all (λ (entry : Keyed). HasNotToLapse state.horizon entry.1.op) part.entries state.entries is valid.have_lapsed);
}

-- an excerpt of a valid state is valid
pub excerpt_valid : (place : List ℕ) (state part : State) → IsValid state → IsExcerptState place state part → IsValid part
excerpt_valid place state part valid is = some_valid state part valid is.horizon is.ledger is.entries

-- a state is an excerpt of itself
pub excerpt_itself : (place : List ℕ) (state : State) → IsExcerptState place state state
excerpt_itself place state = record { horizon = refl; ledger = refl; entries = sublist_itself state.entries; live = λ key. inl refl }

-- the relation "is an excerpt of" is transitive
pub excerpt_again : (place : List ℕ) (state part smaller : State) → IsExcerptState place state part → IsExcerptState place part smaller
    → IsExcerptState place state smaller
excerpt_again place state part smaller is further = record {
  horizon = further.horizon ∙ is.horizon;
  ledger = further.ledger ∙ is.ledger;
  entries = sublist_onward smaller.entries part.entries state.entries further.entries is.entries;
  live = λ key. elim (further.live key) [
    | inl same ↦ elim (is.live key) [
      | inl as_state ↦ inl (same ∙ as_state)
      | inr none ↦ inr (same ∙ none.0, none.1)
    ]
    | inr none ↦ inr (none.0, λ needed. none.1 (needed_still key needed))
  ];
}
  where
    needed_still : (key : Key) → IsNeeded (live_table state) place key → IsNeeded (live_table part) place key
    needed_still (tiploc_key code) here = here
    needed_still (association_key key) here = here
    needed_still (schedule_key key) (inl call) = inl (search (rules, same_where_needed))
    needed_still (schedule_key key) (inr named) = search (rules, same_where_needed)

-- ---- leaving out the keys that fail a test leaves the bodies at all other keys unchanged

module _ (test : Key → Bool) where
  -- a search for a key that passes the test finds the same entry in the filtered list as in the
  -- whole list
  find_kept : (key : Key) → test key ≡ true → (xs : List Keyed) → find (λ entry. is_eq (key_cmp entry.0 key)) (filter (λ entry. test entry.0) xs)
      ≡ find (λ entry. is_eq (key_cmp entry.0 key)) xs
  find_kept key passes [] = refl
  find_kept key passes (x ∷ xs) = grind (arith, same_key, (find_kept key passes xs))

  -- a search for a key that fails the test finds no entry in the filtered list
  find_dropped : (key : Key) → test key ≡ false → (xs : List Keyed)
      → find (λ entry. is_eq (key_cmp entry.0 key)) (filter (λ entry. test entry.0) xs) ≡ None
  find_dropped key fails xs = (elim (find (λ entry. is_eq (key_cmp entry.0 key)) (filter (λ entry. test entry.0) xs)) as (λ found.
      find (λ (entry : Keyed). is_eq (key_cmp entry.0 key)) (filter (λ (entry : Keyed). test entry.0) xs) ≡ found → found ≡ None) [
        | None ↦ λ h. refl
        | Some pair ↦ λ h. let told = find_some _ (filter (λ (entry : Keyed). test entry.0) xs) _ h in
            let passed = filter_back (λ (entry : Keyed). test entry.0) _ pair told.0 in
            absurd (let bad : false ≡ true = sym fails ∙ sym (ap test (same_key _ key told.1)) ∙ passed.1 in cc)
      ]) refl

  -- the state with only the entries whose keys pass the test
  abbrev pub with_passing : State → State
  with_passing state = record { horizon = state.horizon; ledger = state.ledger; entries = filter (λ (entry : Keyed). test entry.0) state.entries }

  -- at a key that passes the test, the state with only the passing entries has the same body as the
  -- whole state
  pub live_kept : (state : State) (key : Key) → test key ≡ true → live_table (with_passing state) key ≡ live_table state key
  live_kept state key passes = ap (λ (found : Option Keyed).
      option_and_then (λ (entry : Entry). body_of entry.op) (option_and_then (λ (pair : Keyed). Some pair.1) found)) (find_kept _ passes _)

  -- at a key that fails the test, the state with only the passing entries has no body
  pub live_dropped : (state : State) (key : Key) → test key ≡ false → live_table (with_passing state) key ≡ None
  live_dropped = search (rules, live_none, find_dropped)

-- ---- the keys that the docker of a place needs can be found from the entries

-- whether the entry is a live schedule that has the UID and calls at the place
abbrev pub calls_as : List ℕ → List ℕ → Keyed → Bool
calls_as place uid entry = has_uid uid entry.0 && is_call place entry.1.op

-- whether the optional UID is present and equals this UID
abbrev pub is_name : List ℕ → Option (List ℕ) → Bool
is_name uid None = false
is_name uid (Some name) = bytes_eq name uid

-- whether the entry is a live association at the place, and its associated train has the UID
abbrev pub names_as : List ℕ → List ℕ → Keyed → Bool
names_as place uid entry = is_here place entry.0 && is_name uid (name_in entry.0 entry.1.op)

-- whether, according to the entries, the docker of the place may depend on the schedules of this
-- UID
abbrev pub is_concerned : List ℕ → List Keyed → List ℕ → Bool
is_concerned place entries uid = list_any (names_as place uid) entries || list_any (calls_as place uid) entries

-- whether, according to the entries, the docker of the place may depend on this key
abbrev pub is_needed : List ℕ → List Keyed → Key → Bool
is_needed place entries (tiploc_key code) = bytes_eq code place
is_needed place entries (association_key key) = bytes_eq key.location place
is_needed place entries (schedule_key key) = is_concerned place entries key.uid

-- `a || b` is true if `b` is true
pub or_right : (a b : Bool) → b ≡ true → (a || b) ≡ true
or_right = search rules

-- `a || b` is true if `a` is true
pub or_left : (a b : Bool) → a ≡ true → (a || b) ≡ true
or_left = search rules

-- if the docker of the place needs a key, the key passes the test `is_needed`
pub needed_passes : (place : List ℕ) (state : State) (key : Key) → IsNeeded (live_table state) place key → is_needed place state.entries key ≡ true
needed_passes place state (tiploc_key code) here = (bytes_eq-Decides code place).1 here
needed_passes place state (association_key key) here = (bytes_eq-Decides key.location place).1 here
needed_passes place state (schedule_key key) concerned = elim concerned [
  | inl call ↦
      let found = live_entry state _ (schedule_body call.lines) call.calling.is_live in
      let calls : is_call place found.0.op ≡ true = ap (is_call place) found.2 ∙ (calls_test _ call.lines).1 call.calling.calls in
      let passes = and_true _ (is_call place found.0.op) ((bytes_eq-Decides call.key.uid key.uid).1 call.uid_is) calls in
      or_right _ (list_any (calls_as place key.uid) state.entries) (any_forth _ state.entries _ found.1 passes)
  | inr named ↦
      let found = live_entry state _ (association_body named.line) named.linked.is_live in
      let names : is_name key.uid (name_in (association_key named.key) found.0.op) ≡ true =
      ap (λ op. is_name key.uid (name_in (association_key named.key) op)) found.2 ∙ (bytes_eq-Decides named.key.associated key.uid).1 named.associated_is in
      let passes = and_true _ (is_name key.uid (name_in (association_key named.key) found.0.op))
      ((bytes_eq-Decides named.key.location place).1 named.linked.here) names in
      or_left _ (list_any (calls_as place key.uid) state.entries) (any_forth _ state.entries _ found.1 passes)
]

-- if a state keeps only the entries whose keys pass the test `is_needed`, the result is an excerpt
-- of the state
pub passing_is_excerpt : (place : List ℕ) (state : State) → IsExcerptState place state (with_passing (is_needed place state.entries) state)
passing_is_excerpt = search (rules, sublist_filter, live_kept, live_dropped, needed_passes)
