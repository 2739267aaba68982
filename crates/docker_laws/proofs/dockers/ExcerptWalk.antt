-- A walk over entries in key order keeps an entry if and only if the docker of the place needs the
-- entry's key. The test `is_needed` decides this from the entries.
use Rattle.cif_laws.proofs.Common.{◌≡◌, ℕ, List, [], ◌∷◌, ◌++◌, subst, inl, inr, ◌⊎◌, refl, ap, sym, ◌∙◌, rules, arith, Bool, true, false, cond, Some, None}
use Rattle.cif_laws.proofs.Common.{Contains, append-nil, append_assoc, Option, filter, list_any, Ordering, Less, Equal, Greater, ordering_then, nat_cmp, on}
use Rattle.cif_laws.proofs.Common.{nat_list_cmp_total, exact_bytes, bytes_eq-Decides, filter-append, Contains-append_cases, Contains-append_left}
use Rattle.cif_laws.proofs.Common.{Contains-append_right, Key, schedule_key, ScheduleKey, bytes_cmp, IsBelow, IsAtMost, Op, Entry, key_cmp, schedule_key_cmp}
use Rattle.cif_laws.proofs.Common.{State, AreAscending, IsValid, live_table}
use Rattle.docker_laws.specs.Excerpt.{IsExcerptState}
use Rattle.docker_laws.specs.ExcerptWalk.{ExcerptSoFar, nothing_kept, is_here, has_uid, name_in, names_in, is_call, is_run_calling}
use Rattle.docker_laws.specs.ExcerptWalk.{kept_after_run, goes_on, with_entry_of, next_kept, kept_from, kept_so_far, excerpt_for}
use Rattle.cif_laws.proofs.orders.Ascending.{later_of}
use Rattle.cif_laws.proofs.orders.AtMost.{level}
use Rattle.cif_laws.proofs.lists.Later.{AllLater}
use Rattle.cif_laws.proofs.lists.Membership.{Contains-cons, cons-Contains, cons-Contains-first, nil-Contains, Contains-single, below_by_recursion}
use Rattle.cif_laws.proofs.lists.BoolsAndOptions.{both, and_true}
use Rattle.cif_laws.proofs.lists.FilteredMembers.{filter_back, filter_forth, part_back, part_forth}
use Rattle.state_laws.proofs.states.PlainTable.{Keyed}
use Rattle.docker_laws.proofs.dockers.ExcerptDocker.{excerpt_docker}
use Rattle.docker_laws.proofs.dockers.SameDocker.{HaveOneDocker}
use Rattle.docker_laws.proofs.dockers.ExcerptState.{calls_as, names_as, is_name, is_concerned, is_needed, passing_is_excerpt, excerpt_valid}
use Rattle.state_laws.proofs.indexes.CallsTest.{any_back, any_forth}

-- ---- in key order, no other key is between the keys of one UID

-- anything follows if `false` equals `true`
pub false_true : {A : Type 0} → false ≡ true → A
false_true h = absurd (let bad : false ≡ true = h in cc)

-- a key has at most one UID
pub uid_once : (one other : List ℕ) (key : Key) → has_uid one key ≡ true → has_uid other key ≡ true → one ≡ other
uid_once one other (schedule_key key) h g = sym ((bytes_eq-Decides key.uid one).0 h) ∙ (bytes_eq-Decides key.uid other).0 g
uid_once one other key h g = false_true h

-- a key above the key of a schedule is also the key of a schedule
pub above_uid : (a b : Key) (uid : List ℕ) → key_cmp a b ≡ Less → has_uid uid a ≡ true → (other : List ℕ) × (has_uid other b ≡ true)
above_uid (schedule_key a) (schedule_key b) uid below h = (b.uid, (bytes_eq-Decides b.uid b.uid).1 refl)
above_uid (schedule_key a) b uid below h = absurd (let bad : Greater ≡ Less = below in cc)
above_uid a b uid below h = false_true h

-- the key of a TIPLOC or an association isn't the key of a schedule
here_no_uid : (place uid : List ℕ) (key : Key) → is_here place key ≡ true → has_uid uid key ≡ true → ⊥
here_no_uid place uid (schedule_key key) h g = false_true h
here_no_uid place uid key h g = false_true g

first_decides : (a b : Ordering) → ordering_then a b ≡ Less → ¬ (a ≡ Greater)
first_decides Less b less greater = cc
first_decides Equal b less greater = cc
first_decides Greater b less greater = let bad : Greater ≡ Less = less in cc

-- in key order, a schedule that is between two schedules of one UID has this UID too
uid_between : (a b c : ScheduleKey) → schedule_key_cmp a b ≡ Less → schedule_key_cmp b c ≡ Less → a.uid ≡ c.uid → b.uid ≡ a.uid
uid_between a b c up further same =
    let low = first_decides (bytes_cmp a.uid b.uid) (ordering_then (nat_cmp a.runs_from b.runs_from) (nat_cmp a.indicator b.indicator)) up in
    let high = first_decides (bytes_cmp b.uid c.uid) (ordering_then (nat_cmp b.runs_from c.runs_from) (nat_cmp b.indicator c.indicator)) further in
    sym (exact_bytes a.uid b.uid (level nat_list_cmp_total a.uid b.uid low (subst (λ uid. IsAtMost bytes_cmp b.uid uid) (sym same) high)))

between_uid : (a b c : Key) (uid : List ℕ) → key_cmp a b ≡ Less → key_cmp b c ≡ Less → has_uid uid a ≡ true → has_uid uid c ≡ true → has_uid uid b ≡ true
between_uid = search (rules, bytes_eq-Decides, uid_between, false_true)

-- ---- lists in key order

-- the key of the first entry is below the key of the second
abbrev pub Below : Keyed → Keyed → Type 0
Below a b = IsBelow (on (λ (entry : Keyed). entry.0) key_cmp) a b

-- if the concatenation of two lists is in key order, each entry of the first list is below each
-- entry of the second
pub later_across : (xs ys : List Keyed) (x y : Keyed) → AllLater Below (xs ++ ys) → Contains xs x → Contains ys y → Below x y
later_across [] ys x y later in_x in_y = absurd (nil-Contains x in_x)
later_across (z ∷ xs) ys x y later in_x in_y = by (λ inside. later_across xs ys x y later.1 inside in_y) (Contains-cons z xs x in_x)
  where
    by : (Contains xs x → Below x y) → (z ≡ x) ⊎ Contains xs x → Below x y
    by rest (inl same) = subst (λ v. Below v y) same (below_by_recursion (Below z) (xs ++ ys) y later.0 (Contains-append_right xs ys y in_y))
    by rest (inr inside) = rest inside

later_right : (xs ys : List Keyed) → AllLater Below (xs ++ ys) → AllLater Below ys
later_right [] ys later = later
later_right (x ∷ xs) ys later = later_right xs ys later.1

filter_alike : (test : Keyed → Bool) (b : Bool) (xs : List Keyed) → ((x : Keyed) → Contains xs x → test x ≡ b) → filter test xs ≡ cond b xs []
filter_alike test b [] each = search rules
filter_alike test b (x ∷ xs) each =
    let rest = filter_alike test b xs (λ y among. each y (cons-Contains x xs y among)) in
    let first = each x (cons-Contains-first x xs) in
    grind (arith, rest, first)

-- two Booleans are equal if each implies the other
pub same_tests : (a b : Bool) → (a ≡ true → b ≡ true) → (b ≡ true → a ≡ true) → a ≡ b
same_tests true b to back = sym (to refl)
same_tests false true to back = back refl
same_tests false false to back = refl

-- ---- the invariant of a walk

-- no entry of the second list has the UID of an entry of the first list
abbrev IsEnded : List Keyed → List Keyed → Type 0
IsEnded run rest = (r y : Keyed) (other : List ℕ) → Contains run r → Contains rest y → has_uid other r.0 ≡ true → has_uid other y.0 ≡ true → ⊥

-- The invariant of the walk. The list of all entries is `done`, followed by the field `run` of
-- `so_far` and by `rest`. The field `kept` has the entries of `done` that the docker needs. All
-- entries in `run` have the same UID. No entry in `done` has the UID of an entry in `run` or
-- `rest`.
record IsAt (place : List ℕ) (all done : List Keyed) (so_far : ExcerptSoFar) (rest : List Keyed) : Type 0 where
  whole : all ≡ (done ++ so_far.run) ++ rest
  kept : so_far.kept ≡ filter (λ (entry : Keyed). is_needed place all entry.0) done
  uid : List ℕ
  of_uid : (r : Keyed) → Contains so_far.run r → has_uid uid r.0 ≡ true
  apart : IsEnded done (so_far.run ++ rest)

-- no entry of a list has the UID of an entry of two lists, if none has the UID of an entry of either
both_ended : (xs ys rest : List Keyed) → IsEnded xs rest → IsEnded ys rest → IsEnded (xs ++ ys) rest
both_ended xs ys rest one two r y other among = elim (Contains-append_cases xs ys r among) [
  | inl here ↦ one r y other here
  | inr here ↦ two r y other here
]

-- if an optional UID passes the test `is_name` for a UID, it is present and equals that UID
pub name_of : (uid : List ℕ) (found : Option (List ℕ)) → is_name uid found ≡ true → (name : List ℕ) × (found ≡ Some name) × (name ≡ uid)
name_of uid None h = false_true h
name_of uid (Some name) h = (name, refl, (bytes_eq-Decides name uid).0 h)

-- if `goes_on` is true of a list and a UID, an entry of the list has this UID
pub goes_member : (run : List Keyed) (uid : List ℕ) → goes_on run uid ≡ true → (first : Keyed) × Contains run first × (has_uid uid first.0 ≡ true)
goes_member = search (rules, false_true, cons-Contains-first)

module _ (place : List ℕ) (all : List Keyed) (order : AllLater Below all) where
  passes : Keyed → Bool
  passes entry = is_needed place all entry.0

  needed_here : (key : Key) → is_here place key ≡ true → is_needed place all key ≡ true
  needed_here (schedule_key key) h = false_true h
  needed_here key h = h

  here_of_name : (key : Key) (op : Op) (name : List ℕ) → name_in key op ≡ Some name → is_needed place all key ≡ true → is_here place key ≡ true
  here_of_name (schedule_key key) op name is needed = absurd (let bad : None ≡ Some name = is in cc)
  here_of_name key op name is needed = needed

  needed_of_uid : (uid : List ℕ) (key : Key) → has_uid uid key ≡ true → is_needed place all key ≡ is_concerned place all uid
  needed_of_uid uid (schedule_key key) h = ap (is_concerned place all) ((bytes_eq-Decides key.uid uid).0 h)
  needed_of_uid uid key h = false_true h

  -- ---- after the entries in `run` are kept or dropped, the invariant still holds
  module _ (done kept : List Keyed) (first : Keyed) (others rest : List Keyed)
      (at : IsAt place all done (record { kept = kept; run = first ∷ others }) rest) (ended : IsEnded (first ∷ others) rest) where
    of_first : has_uid at.uid first.0 ≡ true
    of_first = at.of_uid first (cons-Contains-first first others)

    -- each entry is in `done`, in `first ∷ others`, or in `rest`
    place_of : (x : Keyed) → Contains all x → Contains done x ⊎ (Contains (first ∷ others) x ⊎ Contains rest x)
    place_of x among = elim (Contains-append_cases (done ++ first ∷ others) rest x (subst (λ xs. Contains xs x) at.whole among)) [
      | inl here ↦ elim (Contains-append_cases done (first ∷ others) x here) [ inl here ↦ inl here | inr here ↦ inr (inl here) ]
      | inr here ↦ inr (inr here)
    ]

    done_in : (x : Keyed) → Contains done x → Contains all x
    done_in x among =
        subst (λ xs. Contains xs x) (sym at.whole)
        (Contains-append_left (done ++ first ∷ others) rest x (Contains-append_left done (first ∷ others) x among))

    run_in : (x : Keyed) → Contains (first ∷ others) x → Contains all x
    run_in x among =
        subst (λ xs. Contains xs x) (sym at.whole)
        (Contains-append_left (done ++ first ∷ others) rest x (Contains-append_right done (first ∷ others) x among))

    named_forth : list_any (λ name. has_uid name first.0) (names_in kept) ≡ true → list_any (names_as place at.uid) all ≡ true
    named_forth h =
        let found = any_back (λ name. has_uid name first.0) (names_in kept) h in
        let same : found.0 ≡ at.uid = uid_once found.0 at.uid first.0 found.2 of_first in
        let by_entry = part_back (λ (entry : Keyed). name_in entry.0 entry.1.op) kept found.0 found.1 in
        let x = by_entry.0 in
        let told = filter_back (λ (entry : Keyed). is_needed place all entry.0) done x (subst (λ xs. Contains xs x) at.kept by_entry.1) in
        let names : is_name at.uid (name_in x.0 x.1.op) ≡ true = ap (is_name at.uid) by_entry.2 ∙ (bytes_eq-Decides found.0 at.uid).1 same in
        search (rules, any_forth, names_as, done_in, and_true, is_name, here_of_name)

    named_back : list_any (names_as place at.uid) all ≡ true → list_any (λ name. has_uid name first.0) (names_in kept) ≡ true
    named_back h = elim (place_of x found.1) [
      | inl here ↦
          let name = name_of at.uid (name_in x.0 x.1.op) parts.1 in
          let keeps : Contains kept x =
          subst (λ xs. Contains xs x) (sym at.kept)
          (filter_forth (λ (entry : Keyed). is_needed place all entry.0) done x here (needed_here x.0 parts.0)) in
          any_forth (λ other. has_uid other first.0) (names_in kept) name.0
          (part_forth (λ (entry : Keyed). name_in entry.0 entry.1.op) kept x name.0 keeps name.1)
          (subst (λ other. has_uid other first.0 ≡ true) (sym name.2) of_first)
      | inr (inl here) ↦ absurd (here_no_uid place at.uid x.0 parts.0 (at.of_uid x here))
      | inr (inr there) ↦
          let up = later_across (done ++ first ∷ others) rest first x (subst (AllLater Below) at.whole order)
          (Contains-append_right done (first ∷ others) first (cons-Contains-first first others)) there in
          let is = above_uid first.0 x.0 at.uid up of_first in
          absurd (here_no_uid place is.0 x.0 parts.0 is.1)
    ]
      where
        found : (x : Keyed) × Contains all x × (names_as place at.uid x ≡ true)
        found = any_back (names_as place at.uid) all h

        x : Keyed
        x = found.0

        parts : (is_here place x.0 ≡ true) × (is_name at.uid (name_in x.0 x.1.op) ≡ true)
        parts = both (is_here place x.0) (is_name at.uid (name_in x.0 x.1.op)) found.2

    calls_forth : is_run_calling place (first ∷ others) ≡ true → list_any (calls_as place at.uid) all ≡ true
    calls_forth h =
        let found = any_back (λ (entry : Keyed). is_call place entry.1.op) (first ∷ others) h in
        search (rules, any_forth, calls_as, run_in, and_true, at.uid, found.0, found.1, found.0.0, found.0.1.op, at.of_uid)

    calls_back : list_any (calls_as place at.uid) all ≡ true → is_run_calling place (first ∷ others) ≡ true
    calls_back h =
        let found : (x : Keyed) × Contains all x × (calls_as place at.uid x ≡ true) = any_back (calls_as place at.uid) all h in
        let x : Keyed = found.0 in
        let parts : (has_uid at.uid x.0 ≡ true) × (is_call place x.1.op ≡ true) = both (has_uid at.uid x.0) (is_call place x.1.op) found.2 in
        elim (place_of x found.1) [
          | inl here ↦ absurd (at.apart x first at.uid here (Contains-append_left (first ∷ others) rest first (cons-Contains-first first others)) parts.0
              of_first)
          | inr (inl here) ↦ any_forth (λ (entry : Keyed). is_call place entry.1.op) (first ∷ others) x here parts.1
          | inr (inr there) ↦ absurd (ended first x at.uid (cons-Contains-first first others) there of_first parts.0)
        ]

    ended_run : kept_after_run place (record { kept = kept; run = first ∷ others })
        ≡ filter (λ (entry : Keyed). is_needed place all entry.0) (done ++ first ∷ others)
    ended_run =
        let b = is_concerned place all at.uid in
        let test = λ (entry : Keyed). is_needed place all entry.0 in
        let of_run : filter test (first ∷ others) ≡ cond b (first ∷ others) [] =
        filter_alike test b (first ∷ others) (λ r among. needed_of_uid at.uid r.0 (at.of_uid r among)) in
        search (rules, is_needed, filter-append, same_tests, names_as, named_forth, named_back, calls_as, calls_forth, calls_back)

  -- of the entries in `done` and `run`, `kept_after_run` keeps exactly the entries whose keys the
  -- docker needs
  run_end : (done kept run rest : List Keyed) → IsAt place all done (record { kept = kept; run = run }) rest → IsEnded run rest
      → kept_after_run place (record { kept = kept; run = run }) ≡ filter (λ (entry : Keyed). is_needed place all entry.0) (done ++ run)
  run_end done kept [] rest at ended = at.kept ∙ ap (filter (λ (entry : Keyed). is_needed place all entry.0)) (sym (append-nil done))
  run_end done kept (first ∷ others) rest at ended = ended_run done kept first others rest at ended

  -- ---- passing one more entry preserves the invariant

  -- each entry in `run` is below the next entry of the walk
  run_below : (done : List Keyed) (so_far : ExcerptSoFar) (x : Keyed) (rest : List Keyed) → IsAt place all done so_far (x ∷ rest) → (r : Keyed)
      → Contains so_far.run r → key_cmp r.0 x.0 ≡ Less
  run_below done so_far x rest at r among =
      later_across (done ++ so_far.run) (x ∷ rest) r x (subst (AllLater Below) at.whole order) (Contains-append_right done so_far.run r among)
      (cons-Contains-first x rest)

  -- the next entry of the walk is below all entries after it
  next_below : (done : List Keyed) (so_far : ExcerptSoFar) (x : Keyed) (rest : List Keyed) → IsAt place all done so_far (x ∷ rest) → (y : Keyed)
      → Contains rest y → key_cmp x.0 y.0 ≡ Less
  next_below done so_far x rest at y among =
      let later : AllLater Below (x ∷ rest) = later_right (done ++ so_far.run) (x ∷ rest) (subst (AllLater Below) at.whole order) in
      below_by_recursion (Below x) rest y later.0 among

  goes_on_by : (run : List Keyed) (uid : List ℕ) (r : Keyed) → Contains run r → ((z : Keyed) → Contains run z → has_uid uid z.0 ≡ true) → goes_on run uid ≡ true
  goes_on_by [] uid r among each = absurd (nil-Contains r among)
  goes_on_by (first ∷ run) uid r among each = each first (cons-Contains-first first run)

  regrouped : (done run rest : List Keyed) (x : Keyed) → (done ++ run) ++ x ∷ rest ≡ (done ++ (run ++ x ∷ [])) ++ rest
  regrouped done run rest x =
      sym (append_assoc (done ++ run) (x ∷ []) rest) ∙ ap (λ (xs : List Keyed). xs ++ rest) (append_assoc done run (x ∷ []))

  -- appending a schedule to `run` preserves the invariant if the schedule has the UID of the
  -- entries in `run`
  joins : (done : List Keyed) (so_far : ExcerptSoFar) (key : ScheduleKey) (entry : Entry) (rest : List Keyed)
      → IsAt place all done so_far ((schedule_key key, entry) ∷ rest) → goes_on so_far.run key.uid ≡ true
      → IsAt place all done (record { kept = so_far.kept; run = so_far.run ++ (schedule_key key, entry) ∷ [] }) rest
  joins done so_far key entry rest at goes = record {
    whole = at.whole ∙ regrouped done so_far.run rest (schedule_key key, entry);
    kept = at.kept;
    uid = at.uid;
    of_uid = λ r among. elim (Contains-append_cases so_far.run ((schedule_key key, entry) ∷ []) r among) [
      | inl here ↦ at.of_uid r here
      | inr last ↦
          subst (λ (e : Keyed). has_uid at.uid e.0 ≡ true) (Contains-single {A = Keyed} (schedule_key key, entry) r last)
          ((bytes_eq-Decides key.uid at.uid).1 uid_is)
    ];
    apart = search (rules, append_assoc);
  }
    where
      uid_is : key.uid ≡ at.uid
      uid_is =
          let first = goes_member so_far.run key.uid goes in
          uid_once key.uid at.uid first.0.0 first.2 (at.of_uid first.0 first.1)

  -- suppose that the next entry is a schedule whose UID isn't the UID of the entries in `run`. Then
  -- no entry from this schedule on has the UID of the entries in `run`
  ends : (done : List Keyed) (so_far : ExcerptSoFar) (key : ScheduleKey) (entry : Entry) (rest : List Keyed)
      → IsAt place all done so_far ((schedule_key key, entry) ∷ rest) → goes_on so_far.run key.uid ≡ false
      → IsEnded so_far.run ((schedule_key key, entry) ∷ rest)
  ends done so_far key entry rest at stops r y other in_run behind of_r of_y =
      elim (Contains-cons {A = Keyed} (schedule_key key, entry) rest y behind) [
        | inl same ↦ hit (subst (λ (e : Keyed). has_uid other e.0 ≡ true) (sym same) of_y)
        | inr there ↦
            hit (between_uid r.0 (schedule_key key) y.0 other (run_below done so_far (schedule_key key, entry) rest at r in_run)
            (next_below done so_far (schedule_key key, entry) rest at y there) of_r of_y)
      ]
    where
      -- the UID of the next entry differs from the UID of the entries in `run`
      hit : has_uid other (schedule_key key) ≡ true → ⊥
      hit h =
          let same : at.uid ≡ key.uid = uid_once at.uid other r.0 (at.of_uid r in_run) of_r ∙ sym ((bytes_eq-Decides key.uid other).0 h) in
          false_true (sym stops ∙ goes_on_by so_far.run key.uid r in_run (λ z among. subst (λ uid. has_uid uid z.0 ≡ true) same (at.of_uid z among)))

  -- when the walk comes to a schedule whose UID isn't the UID of the entries in `run`, it keeps or
  -- drops these entries. After this step, `run` has only the schedule. The step preserves the
  -- invariant
  begins : (done : List Keyed) (so_far : ExcerptSoFar) (key : ScheduleKey) (entry : Entry) (rest : List Keyed)
      → IsAt place all done so_far ((schedule_key key, entry) ∷ rest) → goes_on so_far.run key.uid ≡ false
      → IsAt place all (done ++ so_far.run) (record { kept = kept_after_run place so_far; run = (schedule_key key, entry) ∷ [] }) rest
  begins done so_far key entry rest at stops =
      let ended : IsEnded so_far.run ((schedule_key key, entry) ∷ rest) = ends done so_far key entry rest at stops in
      record {
        whole = at.whole ∙ sym (append_assoc (done ++ so_far.run) ((schedule_key key, entry) ∷ []) rest);
        kept = run_end done so_far.kept so_far.run ((schedule_key key, entry) ∷ rest) at ended;
        uid = key.uid;
        of_uid = search (rules, bytes_eq-Decides);
        apart = both_ended done so_far.run ((schedule_key key, entry) ∷ rest) (search (rules, at.apart, Contains-append_right)) ended;
      }

  -- the invariant holds for some list `done` of entries that the walk has passed
  abbrev Goes : ExcerptSoFar → List Keyed → Type 0
  Goes so_far rest = (now : List Keyed) × IsAt place all now so_far rest

  schedule_more : (done : List Keyed) (so_far : ExcerptSoFar) (key : ScheduleKey) (entry : Entry) (rest : List Keyed)
      → IsAt place all done so_far ((schedule_key key, entry) ∷ rest) → Goes (with_entry_of place so_far (schedule_key key) entry) rest
  schedule_more done so_far key entry rest at = by (goes_on so_far.run key.uid) refl
    where
      by : (b : Bool) → goes_on so_far.run key.uid ≡ b
          → Goes (cond b (record { kept = so_far.kept; run = so_far.run ++ (schedule_key key, entry) ∷ [] })
          (record { kept = kept_after_run place so_far; run = (schedule_key key, entry) ∷ [] })) rest
      by true goes = (done, joins done so_far key entry rest at goes)
      by false stops = (done ++ so_far.run, begins done so_far key entry rest at stops)

  -- when the walk reaches a TIPLOC or an association, the field `run` is empty
  no_run : (done : List Keyed) (so_far : ExcerptSoFar) (key : Key) (entry : Entry) (rest : List Keyed) → ((uid : List ℕ) → ¬ (has_uid uid key ≡ true))
      → IsAt place all done so_far ((key, entry) ∷ rest) → (r : Keyed) → ¬ Contains so_far.run r
  no_run done so_far key entry rest never at r among =
      let is = above_uid r.0 key at.uid (run_below done so_far (key, entry) rest at r among) (at.of_uid r among) in
      never is.0 is.1

  other_more : (done : List Keyed) (so_far : ExcerptSoFar) (key : Key) (entry : Entry) (rest : List Keyed) → ((uid : List ℕ) → ¬ (has_uid uid key ≡ true))
      → is_needed place all key ≡ is_here place key → IsAt place all done so_far ((key, entry) ∷ rest)
      → Goes (cond (is_here place key) (record { kept = kept_after_run place so_far ++ (key, entry) ∷ []; run = [] })
      (record { kept = kept_after_run place so_far; run = [] })) rest
  other_more done so_far key entry rest never same at = by (is_here place key) refl
    where
      now : List Keyed
      now = (done ++ so_far.run) ++ (key, entry) ∷ []

      none : (r : Keyed) → ¬ Contains so_far.run r
      none = no_run done so_far key entry rest never at

      before : kept_after_run place so_far ≡ filter (λ (e : Keyed). is_needed place all e.0) (done ++ so_far.run)
      before = run_end done so_far.kept so_far.run ((key, entry) ∷ rest) at (λ r y other in_run behind of_r of_y. none r in_run)

      with_last : (b : Bool) → is_here place key ≡ b → filter (λ (e : Keyed). is_needed place all e.0) ((done ++ so_far.run) ++ (key, entry) ∷ [])
          ≡ kept_after_run place so_far ++ cond b ((key, entry) ∷ []) []
      with_last b h =
          filter-append (λ (e : Keyed). is_needed place all e.0) (done ++ so_far.run) ((key, entry) ∷ [])
          ∙ (λ i. filter (λ (e : Keyed). is_needed place all e.0) (done ++ so_far.run) ++ cond ((same ∙ h) i) ((key, entry) ∷ []) [])
          ∙ ap (λ (xs : List Keyed). xs ++ cond b ((key, entry) ∷ []) []) (sym before)

      there : (kept : List Keyed) → kept ≡ filter (λ (e : Keyed). is_needed place all e.0) ((done ++ so_far.run) ++ (key, entry) ∷ [])
          → IsAt place all ((done ++ so_far.run) ++ (key, entry) ∷ []) (record { kept = kept; run = [] }) rest
      there kept is = record {
        whole = search (rules, append_assoc, append-nil);
        kept = is;
        uid = [];
        of_uid = λ r among. absurd (nil-Contains r among);
        apart = both_ended (done ++ so_far.run) ((key, entry) ∷ []) rest
            (both_ended done so_far.run rest (search (rules, at.apart, Contains-append_right, cons-Contains)) (search (rules, none)))
            (λ z y other last behind of_z of_y.
            never other (subst (λ (e : Keyed). has_uid other e.0 ≡ true) (sym (Contains-single {A = Keyed} (key, entry) z last)) of_z));
      }

      by : (b : Bool) → is_here place key ≡ b
          → Goes (cond b (record { kept = kept_after_run place so_far ++ (key, entry) ∷ []; run = [] })
          (record { kept = kept_after_run place so_far; run = [] })) rest
      by true h = (now, there (kept_after_run place so_far ++ (key, entry) ∷ []) (sym (with_last true h)))
      by false h = (now, there (kept_after_run place so_far) (sym (with_last false h ∙ append-nil (kept_after_run place so_far))))

  one_more : (done : List Keyed) (so_far : ExcerptSoFar) (key : Key) (entry : Entry) (rest : List Keyed)
      → IsAt place all done so_far ((key, entry) ∷ rest) → Goes (with_entry_of place so_far key entry) rest
  one_more done so_far (schedule_key key) entry rest at = schedule_more done so_far key entry rest at
  one_more done so_far key entry rest at = other_more done so_far key entry rest (λ uid h. false_true h) refl at

  -- ---- at the end of a walk, the kept entries are exactly the entries whose keys the docker needs

  from_here : (rest done : List Keyed) (so_far : ExcerptSoFar) → IsAt place all done so_far rest
      → kept_from place so_far rest ≡ filter (λ (entry : Keyed). is_needed place all entry.0) all
  from_here [] done so_far at =
      run_end done so_far.kept so_far.run [] at (λ r y other in_run behind of_r of_y. nil-Contains y behind)
      ∙ ap (filter (λ (entry : Keyed). is_needed place all entry.0)) (sym (at.whole ∙ append-nil (done ++ so_far.run)))
  from_here (x ∷ rest) done so_far at =
      let next = one_more done so_far x.0 x.1 rest at in
      from_here rest next.0 (next_kept place so_far x) next.1

  at_first : IsAt place all [] nothing_kept all
  at_first = search (rules, nil-Contains)

  -- a walk over all entries keeps the entries whose keys the docker of the place needs
  pub walk_keeps : kept_after_run place (kept_so_far place all) ≡ filter (λ (entry : Keyed). is_needed place all entry.0) all
  walk_keeps = from_here all [] nothing_kept at_first

-- the result of a walk over a state's entries in key order is an excerpt of the state
pub walk_is_excerpt : (place : List ℕ) (state : State) → AreAscending state.entries → IsExcerptState place state (excerpt_for place state)
walk_is_excerpt place state up = search (rules, walk_keeps, later_of, passing_is_excerpt)

-- the excerpt of a valid state is valid
pub walk_valid : (place : List ℕ) (state : State) → IsValid state → IsValid (excerpt_for place state)
walk_valid place state valid = excerpt_valid place state (excerpt_for place state) valid (walk_is_excerpt place state valid.entries.1)

-- a valid state and its excerpt for a place have the same docker for the place
pub walk_docker : (place : List ℕ) (state : State) (day : ℕ) → IsValid state
    → HaveOneDocker (live_table state) (live_table (excerpt_for place state)) place day
walk_docker place state day valid = excerpt_docker place _ _ (walk_is_excerpt place state valid.entries.1).live day
