-- Lemmas on the walk that computes an excerpt. They say which entries are in the field `kept` after
-- each step and at the end. In key order the schedules of one UID are next to each other. The walk
-- collects them in the field `run`, and then keeps or drops them together.
use Rattle.cif_laws.proofs.Common.{All, ◌≡◌, ℕ, List, [], ◌∷◌, ◌++◌, subst, inl, inr, ◌⊎◌, refl, ap, sym, arith, rules, common_steps, ◌∙◌, Bool, true, false}
use Rattle.cif_laws.proofs.Common.{cond, Some, Contains, append-nil, append_assoc, Option, ◌||◌, ◌↔◌, filter, fold, option_and_then, list_any, on}
use Rattle.cif_laws.proofs.Common.{bytes_eq-Decides, filter-append, filter_map-append, Contains-append_cases, Contains-append_right, Key, association_key}
use Rattle.cif_laws.proofs.Common.{schedule_key, AssociationKey, ScheduleKey, association_body, schedule_body, CallsAt, Op, put_with, Entry, body_of, key_cmp}
use Rattle.cif_laws.proofs.Common.{IsBelow, LedgerItem, State, AreAscending, AreEntries, live_table}
use Rattle.std.proofs.lemmas.List.Folds.{list_any-append}
use Rattle.docker_laws.specs.Excerpt.{IsNeeded, IsConcerned, IsSublist}
use Rattle.docker_laws.specs.ExcerptWalk.{ExcerptSoFar, nothing_kept, is_here, has_uid, name_in, names_in, is_call, is_run_named, is_run_calling}
use Rattle.docker_laws.specs.ExcerptWalk.{is_run_needed, kept_after_run, goes_on, with_entry_of, next_kept, kept_so_far, excerpt_for}
use Rattle.cif_laws.proofs.orders.Ascending.{later_of}
use Rattle.cif_laws.proofs.lists.Membership.{member_of, nil-Contains, Contains-single}
use Rattle.docker_laws.proofs.dockers.Sublists.{sublist_itself, sublist_append, sublist_onward, sublist_member, sublist_front}
use Rattle.cif_laws.proofs.lists.BoolsAndOptions.{both, either, none_some}
use Rattle.cif_laws.proofs.lists.FilteredMembers.{filter_back, filter_forth}
use Rattle.state_laws.proofs.states.PlainTable.{Keyed}
use Rattle.state_laws.proofs.joins.StagedEntry.{entry_at_iff}
use Rattle.state_laws.proofs.indexes.CallsTest.{any_back, any_forth, calls_test, no_member}
use Rattle.docker_laws.proofs.dockers.ExcerptState.{calls_as, names_as, is_name, is_needed, needed_passes, some_entries, or_left, or_right}
use Rattle.docker_laws.proofs.dockers.ExcerptWalk.{false_true, uid_once, above_uid, name_of, goes_member, walk_keeps}

-- ---- a property that each step of a walk preserves holds after each step

fold_more : {A B : Type 0} (f : B → A → B) (first : B) (xs ys : List A) → fold f first (xs ++ ys) ≡ fold f (fold f first xs) ys
fold_more = grind (common_steps, arith)

-- `next_kept` computes the fields `kept` and `run` after the walk passes one more entry
pub so_far_more : (place : List ℕ) (entries : List Keyed) (entry : Keyed)
    → kept_so_far place (entries ++ entry ∷ []) ≡ next_kept place (kept_so_far place entries) entry
so_far_more place entries entry = fold_more (next_kept place) nothing_kept entries (entry ∷ [])

-- a property that holds before the first entry, and that each step of the walk preserves, holds
-- after each entry
module _ (place : List ℕ) (P : List Keyed → ExcerptSoFar → Type 0)
    (step : (done : List Keyed) (so_far : ExcerptSoFar) (x : Keyed) → P done so_far → P (done ++ x ∷ []) (next_kept place so_far x)) where
  onward : (rest done : List Keyed) (so_far : ExcerptSoFar) → P done so_far → P (done ++ rest) (fold (next_kept place) so_far rest)
  onward [] done so_far here = subst (λ xs. P xs so_far) (sym (append-nil done)) here
  onward (x ∷ rest) done so_far here = grind (arith, append_assoc, (onward rest (done ++ x ∷ []) (next_kept place so_far x) (step done so_far x here)))

  all_along : P [] nothing_kept → (entries : List Keyed) → P entries (kept_so_far place entries)
  all_along first entries = onward entries [] nothing_kept first

-- ---- the entries in `kept` and `run` are a sublist of the entries that the walk has passed

-- the result of `kept_after_run` is a sublist of the concatenation of `kept` and `run`
pub after_run_within : (place : List ℕ) (so_far : ExcerptSoFar) → IsSublist (kept_after_run place so_far) (so_far.kept ++ so_far.run)
after_run_within = search (rules, sublist_itself, sublist_front)

module _ (place : List ℕ) where
  abbrev Within : List Keyed → ExcerptSoFar → Type 0
  Within done so_far = IsSublist (so_far.kept ++ so_far.run) done

  closed_within : (done : List Keyed) (so_far : ExcerptSoFar) (x : Keyed) → Within done so_far → IsSublist (kept_after_run place so_far) done
  closed_within = search (rules, sublist_onward, after_run_within)

  with_last : (done : List Keyed) (so_far : ExcerptSoFar) (x : Keyed) → Within done so_far
      → IsSublist (kept_after_run place so_far ++ x ∷ []) (done ++ x ∷ [])
  with_last = search (rules, sublist_append, closed_within, sublist_itself)

  without_last : (done : List Keyed) (so_far : ExcerptSoFar) (x : Keyed) → Within done so_far
      → IsSublist (kept_after_run place so_far) (done ++ x ∷ [])
  without_last = search (rules, sublist_onward, closed_within, sublist_front)

  within_more : (done : List Keyed) (so_far : ExcerptSoFar) (key : Key) (entry : Entry) → Within done so_far
      → Within (done ++ (key, entry) ∷ []) (with_entry_of place so_far key entry)
  within_more = search (rules, append_assoc, sublist_append, sublist_itself, with_last, append-nil, without_last)

  -- the entries in `kept`, followed by the entries in `run`, are a sublist of the entries that the
  -- walk has passed
  pub so_far_within : (entries : List Keyed) → IsSublist ((kept_so_far place entries).kept ++ (kept_so_far place entries).run) entries
  so_far_within = all_along place Within (λ done so_far x here. within_more done so_far x.0 x.1 here) tt

  -- if a state may have the entries that the walk has passed, it may also have only the entries in
  -- `kept` and `run`
  pub so_far_good : (ledger : List LedgerItem) (entries : List Keyed) → AreEntries ledger entries
      → AreEntries ledger ((kept_so_far place entries).kept ++ (kept_so_far place entries).run)
  so_far_good = search (rules, some_entries, so_far_within)

  -- ---- all entries in the field `run` have the same UID

  abbrev OfOneUid : List Keyed → ExcerptSoFar → Type 0
  OfOneUid done so_far = (uid : List ℕ) × ((r : Keyed) → Contains so_far.run r → has_uid uid r.0 ≡ true)

  one_uid_schedule : (done : List Keyed) (so_far : ExcerptSoFar) (key : ScheduleKey) (entry : Entry) → OfOneUid done so_far
      → OfOneUid (done ++ (schedule_key key, entry) ∷ []) (with_entry_of place so_far (schedule_key key) entry)
  one_uid_schedule done so_far key entry here = by (goes_on so_far.run key.uid) refl
    where
      own : has_uid key.uid (schedule_key key) ≡ true
      own = (bytes_eq-Decides key.uid key.uid).1 refl

      by : (b : Bool) → goes_on so_far.run key.uid ≡ b → OfOneUid (done ++ (schedule_key key, entry) ∷ [])
          (cond b (record { kept = so_far.kept; run = so_far.run ++ (schedule_key key, entry) ∷ [] })
          (record { kept = kept_after_run place so_far; run = (schedule_key key, entry) ∷ [] }))
      by true goes = (
        key.uid,
        λ r among. elim (Contains-append_cases so_far.run ((schedule_key key, entry) ∷ []) r among) [
          | inl inside ↦ subst (λ uid. has_uid uid r.0 ≡ true) same (here.1 r inside)
          | inr last ↦ subst (λ (e : Keyed). has_uid key.uid e.0 ≡ true) (Contains-single {A = Keyed} (schedule_key key, entry) r last) own
        ],
      )
        where
          same : here.0 ≡ key.uid
          same = let first = goes_member so_far.run key.uid goes in uid_once here.0 key.uid first.0.0 (here.1 first.0 first.1) first.2
      by false stops =
          (key.uid, λ r among. subst (λ (e : Keyed). has_uid key.uid e.0 ≡ true) (Contains-single {A = Keyed} (schedule_key key, entry) r among) own)

  one_uid_other : (done : List Keyed) (so_far : ExcerptSoFar) (x : Keyed) (b : Bool)
      → OfOneUid done (cond b (record { kept = kept_after_run place so_far ++ x ∷ []; run = [] }) (record { kept = kept_after_run place so_far; run = [] }))
  one_uid_other = search (rules, nil-Contains)

  one_uid_more : (done : List Keyed) (so_far : ExcerptSoFar) (key : Key) (entry : Entry) → OfOneUid done so_far
      → OfOneUid (done ++ (key, entry) ∷ []) (with_entry_of place so_far key entry)
  one_uid_more done so_far (schedule_key key) entry here = one_uid_schedule done so_far key entry here
  one_uid_more done so_far key entry here = one_uid_other done so_far (key, entry) (is_here place key)

  run_of_one_uid : (entries : List Keyed) → OfOneUid entries (kept_so_far place entries)
  run_of_one_uid = all_along place OfOneUid (λ done so_far x here. one_uid_more done so_far x.0 x.1 here) ([], λ r among. absurd (nil-Contains r among))

  -- if `goes_on` is true of `run` and a UID, each entry in `run` has this UID
  pub run_uid : (entries : List Keyed) (uid : List ℕ) (r : Keyed) → goes_on (kept_so_far place entries).run uid ≡ true
      → Contains (kept_so_far place entries).run r → has_uid uid r.0 ≡ true
  run_uid entries uid r goes among =
      let of = run_of_one_uid entries in
      let first = goes_member (kept_so_far place entries).run uid goes in
      subst (λ other. has_uid other r.0 ≡ true) (uid_once of.0 uid first.0.0 (of.1 first.0 first.1) first.2) (of.1 r among)

  -- in key order, when the walk reaches a TIPLOC or an association, the field `run` is empty,
  -- because TIPLOCs and associations come before all schedules
  pub no_run_before : (entries : List Keyed) (key : Key) → All (λ (e : Keyed). IsBelow key_cmp e.0 key) entries
      → ((uid : List ℕ) → has_uid uid key ≡ false) → (kept_so_far place entries).run ≡ []
  no_run_before entries key above never = no_member _ (λ r among.
      let of = run_of_one_uid entries in
      let inside = sublist_member _ entries _ (so_far_within entries)
      (Contains-append_right (kept_so_far place entries).kept (kept_so_far place entries).run r among) in
      let is = above_uid _ key _ (member_of (λ (e : Keyed). IsBelow key_cmp e.0 key) _ r above inside) (of.1 r among) in
      false_true (sym (never is.0) ∙ is.1))

  -- ---- the entries in `kept` name the associated trains of all associations at the place

  abbrev at_place : List Keyed → List Keyed
  at_place entries = filter (λ (entry : Keyed). is_here place entry.0) entries

  names_more : (xs ys : List Keyed) → names_in (xs ++ ys) ≡ names_in xs ++ names_in ys
  names_more xs ys = filter_map-append (λ (entry : Keyed). name_in entry.0 entry.1.op) xs ys

  abbrev AreNamed : List Keyed → ExcerptSoFar → Type 0
  AreNamed done so_far = (names_in so_far.kept ≡ names_in (at_place done)) × (names_in so_far.run ≡ [])

  names_after_run : (done : List Keyed) (so_far : ExcerptSoFar) → AreNamed done so_far → names_in (kept_after_run place so_far) ≡ names_in (at_place done)
  names_after_run = search (rules, names_more, append-nil)

  named_schedule : (done : List Keyed) (so_far : ExcerptSoFar) (key : ScheduleKey) (entry : Entry) → AreNamed done so_far
      → AreNamed (done ++ (schedule_key key, entry) ∷ []) (with_entry_of place so_far (schedule_key key) entry)
  named_schedule = search (rules, filter-append, append-nil, names_more, names_after_run)

  named_other : (done : List Keyed) (so_far : ExcerptSoFar) (x : Keyed) (b : Bool) → is_here place x.0 ≡ b → AreNamed done so_far
      → AreNamed (done ++ x ∷ [])
      (cond b (record { kept = kept_after_run place so_far ++ x ∷ []; run = [] }) (record { kept = kept_after_run place so_far; run = [] }))
  named_other = search (rules, filter-append, names_more, names_after_run, append-nil)

  named_more : (done : List Keyed) (so_far : ExcerptSoFar) (key : Key) (entry : Entry) → AreNamed done so_far
      → AreNamed (done ++ (key, entry) ∷ []) (with_entry_of place so_far key entry)
  named_more done so_far (schedule_key key) entry here = named_schedule done so_far key entry here
  named_more done so_far key entry here = named_other done so_far (key, entry) (is_here place key) refl here

  -- the entries at the place that the walk has passed name the same associated trains as the
  -- entries in `kept`
  pub names_so_far : (entries : List Keyed)
      → names_in (kept_so_far place entries).kept ≡ names_in (filter (λ (entry : Keyed). is_here place entry.0) entries)
  names_so_far entries = (all_along place AreNamed (λ done so_far x here. named_more done so_far x.0 x.1 here) (refl, refl) entries).0

  -- when the walk passes a schedule, the entries in `kept` still name the same associated trains as
  -- before
  pub names_stay : (entries : List Keyed) (key : ScheduleKey) (entry : Entry)
      → names_in (kept_so_far place (entries ++ (schedule_key key, entry) ∷ [])).kept ≡ names_in (kept_so_far place entries).kept
  names_stay = search (rules, filter-append, append-nil, names_so_far)

-- ---- each step of the walk keeps, drops or postpones an entry

module _ (place : List ℕ) (so_far : ExcerptSoFar) where
  -- the TIPLOC of the place is kept, and so is an association at the place
  pub keeps_here : (key : Key) (entry : Entry) → is_here place key ≡ true → so_far.run ≡ []
      → next_kept place so_far (key, entry) ≡ record { kept = so_far.kept ++ (key, entry) ∷ []; run = [] }
  keeps_here = search (rules, false_true)

  elsewhere_then : (x : Keyed) (b : Bool) → b ≡ false → so_far.run ≡ []
      → cond b (record { kept = kept_after_run place so_far ++ x ∷ []; run = [] }) (record { kept = kept_after_run place so_far; run = [] }) ≡ so_far
  elsewhere_then = search rules

  -- passing the TIPLOC of a place other than the excerpt's place, or an association at such a
  -- place, leaves `kept` and `run` unchanged
  pub drops_elsewhere : (key : Key) (entry : Entry) → ((uid : List ℕ) → has_uid uid key ≡ false) → is_here place key ≡ false → so_far.run ≡ []
      → next_kept place so_far (key, entry) ≡ so_far
  drops_elsewhere (schedule_key key) entry never elsewhere none = false_true (sym (never key.uid) ∙ (bytes_eq-Decides key.uid key.uid).1 refl)
  drops_elsewhere key entry never elsewhere none = elsewhere_then (key, entry) (is_here place key) elsewhere none

-- `is_run_named` holds for a list of schedules if and only if the UID of the first schedule is in
-- `names`
pub named_iff : (names : List (List ℕ)) (key : ScheduleKey) (entry : Entry) (others : List Keyed)
    → (is_run_named names ((schedule_key key, entry) ∷ others) ≡ true) ↔ Contains names key.uid
named_iff = grind (common_steps, arith, any_back, bytes_eq-Decides, any_forth)

-- the docker needs the schedules in `run` if and only if one of two things is true. Either their
-- UID belongs to the associated train of a kept association, or one of these schedules is live and
-- calls at the place
pub run_needed_iff : (place : List ℕ) (so_far : ExcerptSoFar) (key : ScheduleKey) (entry : Entry) (others : List Keyed)
    → so_far.run ≡ (schedule_key key, entry) ∷ others
    → (is_run_needed place so_far ≡ true)
    ↔ (Contains (names_in so_far.kept) key.uid ⊎ ((r : Keyed) × Contains so_far.run r × (is_call place r.1.op ≡ true)))
run_needed_iff place so_far key entry others is =
    (search (rules, either, any_back), back)
  where
    named : (is_run_named (names_in so_far.kept) so_far.run ≡ true) ↔ Contains (names_in so_far.kept) key.uid
    named =
        subst (λ (run : List Keyed). (is_run_named (names_in so_far.kept) run ≡ true) ↔ Contains (names_in so_far.kept) key.uid) (sym is)
        (named_iff (names_in so_far.kept) key entry others)

    back : Contains (names_in so_far.kept) key.uid ⊎ ((r : Keyed) × Contains so_far.run r × (is_call place r.1.op ≡ true))
        → is_run_needed place so_far ≡ true
    back (inl among) = or_left (is_run_named (names_in so_far.kept) so_far.run) (is_run_calling place so_far.run) (named.1 among)
    back (inr call) = search (rules, or_right, any_forth)

-- for any Boolean `b`, "`b` or false" is `b`
pub or_false : (b : Bool) → (b || false) ≡ b
or_false = search rules

-- `is_run_calling` holds for a list with one more entry if it holds for the list, or if the new
-- entry is a schedule that calls at the place. Otherwise it doesn't hold
pub calls_more : (place : List ℕ) (run : List Keyed) (entry : Keyed)
    → is_run_calling place (run ++ entry ∷ []) ≡ (is_run_calling place run || is_call place entry.1.op)
calls_more = search (rules, list_any-append, or_false)

-- if an entry is appended to a list, the UID of the entry's associated train is appended to the
-- UIDs that the list names. If the entry has no associated train, these UIDs are unchanged
pub names_with : (xs : List Keyed) (entry : Keyed) → names_in (xs ++ entry ∷ []) ≡ names_in xs ++ names_in (entry ∷ [])
names_with xs entry = filter_map-append (λ (e : Keyed). name_in e.0 e.1.op) xs (entry ∷ [])

-- ---- at the end, an entry is kept if and only if the docker of the place needs the entry's key

-- at the key of an entry, the live table has the entry's body, or no body if the entry has none
live_of : (state : State) → AreAscending state.entries → (key : Key) (entry : Entry) → Contains state.entries (key, entry)
    → live_table state key ≡ body_of entry.op
live_of state up key entry among =
    ap (λ (found : Option Entry). option_and_then (λ (e : Entry). body_of e.op) found) ((entry_at_iff state up key entry).1 among)

call_back : (place : List ℕ) (op : Op) → is_call place op ≡ true → (lines : List (List ℕ)) × (op ≡ put_with (schedule_body lines)) × CallsAt place lines
call_back = search (rules, false_true, calls_test)

-- the entry is a live association whose associated train has this UID
record NamesIt (key : Key) (op : Op) (name : List ℕ) : Type 0 where
  association : AssociationKey
  line : List ℕ
  key_is : key ≡ association_key association
  op_is : op ≡ put_with (association_body line)
  name_is : association.associated ≡ name

name_back : (key : Key) (op : Op) (name : List ℕ) → name_in key op ≡ Some name → NamesIt key op name
name_back = search (rules, none_some)

uid_back : (uid : List ℕ) (key : Key) → has_uid uid key ≡ true → (schedule : ScheduleKey) × (key ≡ schedule_key schedule) × (schedule.uid ≡ uid)
uid_back = search (rules, bytes_eq-Decides, false_true)

at_location : (place : List ℕ) (key : Key) (association : AssociationKey) → key ≡ association_key association → is_here place key ≡ true
    → association.location ≡ place
at_location = search (rules, bytes_eq-Decides)

module _ (place : List ℕ) (state : State) (up : AreAscending state.entries) where
  concerned_back : (uid : List ℕ) → (list_any (names_as place uid) state.entries ≡ true) ⊎ (list_any (calls_as place uid) state.entries ≡ true)
      → IsConcerned (live_table state) place uid
  concerned_back uid (inr calls) =
      let found = any_back (calls_as place uid) state.entries calls in
      let parts = both (has_uid uid found.0.0) (is_call place found.0.1.op) found.2 in
      let schedule = uid_back uid found.0.0 parts.0 in
      let call = call_back place found.0.1.op parts.1 in
      inl (record {
        key = schedule.0;
        lines = call.0;
        uid_is = schedule.2;
        calling = record {
          is_live = ap (live_table state) (sym schedule.1) ∙ live_of state up found.0.0 found.0.1 found.1 ∙ ap body_of call.1;
          calls = call.2;
        };
      })
  concerned_back uid (inl names) =
      let found = any_back (names_as place uid) state.entries names in
      let parts = both (is_here place found.0.0) (is_name uid (name_in found.0.0 found.0.1.op)) found.2 in
      let name = name_of uid (name_in found.0.0 found.0.1.op) parts.1 in
      let from = name_back found.0.0 found.0.1.op name.0 name.1 in
      inr (record {
        key = from.association;
        line = from.line;
        associated_is = from.name_is ∙ name.2;
        linked = record {
          is_live = ap (live_table state) (sym from.key_is) ∙ live_of state up found.0.0 found.0.1 found.1 ∙ ap body_of from.op_is;
          here = at_location place found.0.0 from.association from.key_is parts.0;
        };
      })

  passes_needed : (key : Key) → is_needed place state.entries key ≡ true → IsNeeded (live_table state) place key
  passes_needed = search (rules, bytes_eq-Decides, concerned_back, either, names_as, calls_as)

  -- an entry is in the excerpt if and only if it is in the state and the docker of the place needs
  -- the entry's key
  pub excerpt_members : (key : Key) (entry : Entry)
      → Contains (excerpt_for place state).entries (key, entry) ↔ (Contains state.entries (key, entry) × IsNeeded (live_table state) place key)
  excerpt_members key entry =
      subst (λ (kept : List Keyed). Contains kept (key, entry) ↔ (Contains state.entries (key, entry) × IsNeeded (live_table state) place key))
      (sym (walk_keeps place _ (later_of (on (λ (e : Keyed). e.0) key_cmp) _ up))) (
        λ among.
            let told = filter_back (λ (e : Keyed). is_needed place state.entries e.0) _ (key, entry) among in
            (told.0, passes_needed _ told.1),
        λ told. filter_forth (λ (e : Keyed). is_needed place state.entries e.0) _ (key, entry) told.0 (needed_passes _ state _ told.1),
      )
