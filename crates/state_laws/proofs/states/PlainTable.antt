-- Lemmas on the plain table of a set of files with distinct moments. At each key, the table has the
-- body of the last entry that the files' changes make. Only the last full extract and the files
-- after it count.
use Rattle.cif_laws.proofs.Common.{cond, ◌≡◌, List, Contains, ◌⊎◌, ◌∷◌, subst, inl, inr, ap, sym, ◌∙◌, Bool, true, false, refl, ℕ, map, ◌++◌, ◌<◌, Some, None}
use Rattle.cif_laws.proofs.Common.{common_steps, arith, rules, [], fold, ◌==◌, ◌||◌, Option, ◌↔◌, find, option_and_then, AllByRecursion, flat_map, list_any}
use Rattle.cif_laws.proofs.Common.{Ordering, Less, Equal, Greater, is_eq, nat_cmp, ordering_then, on, ordering_reverse, tied_itself, lt-ltb, eqb-true, eq-eqb}
use Rattle.cif_laws.proofs.Common.{Key, Change, changes, IsBelow, bytes_cmp, IsStrictlyAscending, IsAtMost, stamp_cmp, file_stamp_of, moment_of, moment_cmp}
use Rattle.cif_laws.proofs.Common.{file_stamp_cmp, ledger_item_of, IsFull, FileStamp, LedgerItem, IsFloor, IsKept, Entry, key_cmp, body_of, Table, after_change}
use Rattle.cif_laws.proofs.Common.{after_files, from_last_full, State, live_table, entry_of, IsEntryOf}
use Rattle.docker_model.specs.state.Table.{after_file, is_full, IsInMomentOrder}
use Rattle.cif_laws.proofs.orders.Orders.{same_key, other_key, file_stamp_total, key_total}
use Rattle.cif_laws.proofs.lists.Membership.{Contains-cons, cons-Contains-first, cons-Contains, below_by_recursion}
use Rattle.cif_laws.proofs.lists.Membership.{nil-Contains, Contains-map, map-Contains, flat_map-Contains, Contains-flat_map}
use Rattle.cif_laws.proofs.orders.Ascending.{irreflexive}
use Rattle.cif_laws.proofs.lists.Later.{AllLater, later_append_all, later_map_weaker}
use Rattle.cif_laws.proofs.lists.AllOf.{all_append, all_map, all_weaker}
use Rattle.cif_laws.proofs.files.ChangeOrder.{Apart, changes_apart}
use Rattle.cif_laws.proofs.orders.AtMost.{less_not_greater, at_most_trans}
use Rattle.state_laws.proofs.indexes.CallsTest.{any_back}

-- ---- after the entries of a list are applied, the table has the body of each key's last entry

-- a key with its entry
abbrev pub Keyed : Type 0
Keyed = Key × Entry

-- the table after one more entry is applied: at the entry's key it has the body that the entry's op
-- puts, if any
abbrev pub step : Table → Keyed → Table
step table entry key = cond (is_eq (key_cmp entry.0 key)) (body_of entry.1.op) (table key)

-- if two entries have the same key, the second has the greater stamp
abbrev pub Ascends : Keyed → Keyed → Type 0
Ascends first second = first.0 ≡ second.0 → IsBelow stamp_cmp first.1.stamp second.1.stamp

-- no entry in the list has this key, so the entries leave the table unchanged at this key
abbrev pub NoneThere : List Keyed → Table → Key → Type 0
NoneThere entries table key = ((entry : Entry) → ¬ Contains entries (key, entry)) × (fold step table entries key ≡ table key)

-- the list has entries for this key, and one of them has the greatest stamp of them all. After all
-- entries of the list are applied, the table has the body of this entry at the key
abbrev pub LastThere : List Keyed → Table → Key → Type 0
LastThere entries table key =
    (entry : Entry) × Contains entries (key, entry) × (fold step table entries key ≡ body_of entry.op)
    × ((other : Entry) → Contains entries (key, other) → (other ≡ entry) ⊎ IsBelow stamp_cmp other.stamp entry.stamp)

first_alone : (entry : Keyed) (entries : List Keyed) (table : Table) (key : Key) (b : Bool) → is_eq (key_cmp entry.0 key) ≡ b
    → NoneThere entries (step table entry) key → NoneThere (entry ∷ entries) table key ⊎ LastThere (entry ∷ entries) table key
first_alone entry entries table key true h none =
    let same : entry ≡ (key, entry.1) = (λ i. (same_key _ key h i, entry.1)) in
    inr (
      entry.1,
      subst (Contains (entry ∷ entries)) same (cons-Contains-first _ entries),
      none.1 ∙ (λ i. cond (h i) (body_of entry.1.op) (table key)),
      λ other among. elim (Contains-cons _ entries _ among) [ inl e ↦ inl (sym (ap (λ (pair : Keyed). pair.1) e)) | inr inside ↦ absurd (none.0 other inside) ],
    )
first_alone entry entries table key false h none =
    inl (
      λ other among. elim (Contains-cons entry _ (key, other) among) [
        | inl e ↦ other_key _ key h (ap (λ (pair : Keyed). pair.0) e)
        | inr inside ↦ none.0 other inside
      ],
      none.1 ∙ (λ i. cond (h i) (body_of entry.1.op) (table key)),
    )

not_first : (entry : Keyed) (entries : List Keyed) (table : Table) (key : Key) → AllByRecursion (Ascends entry) entries
    → LastThere entries (step table entry) key → LastThere (entry ∷ entries) table key
not_first entry entries table key above last = (
  last.0,
  cons-Contains _ _ _ last.1,
  last.2,
  λ other among. elim (Contains-cons _ _ _ among) [
    | inl e ↦
        let below = below_by_recursion _ _ _ above last.1 (ap (λ (pair : Keyed). pair.0) e) in
        inr (subst (λ (pair : Keyed). IsBelow stamp_cmp pair.1.stamp last.0.stamp) e below)
    | inr inside ↦ last.3 other inside
  ],
)

-- after all entries are applied, the table at each key is unchanged, or it has the body of the
-- key's last entry. This entry has the greatest stamp of the key's entries
pub last_there : (entries : List Keyed) (table : Table) (key : Key) → AllLater Ascends entries → NoneThere entries table key ⊎ LastThere entries table key
last_there [] table key up = inl (λ entry among. nil-Contains (key, entry) among, refl)
last_there (entry ∷ entries) table key up = grind (arith, first_alone, not_first, (last_there entries (step table entry) key up.1))

-- ---- applying changes of files to a table equals applying the entries that the changes make

-- the entry that a change of a file makes, with its key
abbrev pub entry_of_change : List (List ℕ) → Change → Keyed
entry_of_change file change = (change.key, entry_of file change)

-- the entries that the changes of a file make
abbrev pub entries_of : List (List ℕ) → List Keyed
entries_of file = map (entry_of_change file) (changes file)

-- the entries that the changes of files make, file by file
abbrev pub entries_along : List (List (List ℕ)) → List Keyed
entries_along files = flat_map entries_of files

-- applying changes of a file to a table equals applying the entries that these changes make
pub fold_entries : (file : List (List ℕ)) (table : Table) (cs : List Change) → fold after_change table cs ≡ fold step table (map (entry_of_change file) cs)
fold_entries = grind (common_steps, arith)

fold_append : (table : Table) (xs ys : List Keyed) → fold step table (xs ++ ys) ≡ fold step (fold step table xs) ys
fold_append = grind (common_steps, arith)

-- applying the changes of files to a table equals applying the entries that these changes make
pub after_files_is : (table : Table) (files : List (List (List ℕ))) → after_files table files ≡ fold step table (entries_along files)
after_files_is table [] = refl
after_files_is table (file ∷ files) =
    after_files_is (after_file table file) files
    ∙ (λ i. fold step (fold_entries file table (changes file) i) (entries_along files))
    ∙ sym (fold_append table (entries_of file) (entries_along files))

number_below : (m n : ℕ) → m < n → nat_cmp m n ≡ Less
number_below m n below = λ i. cond (lt-ltb m n below i) Less (cond (m == n) Equal Greater)

-- if two entries come from one file and have the same key, the later entry has the greater stamp
pub within_file : (file : List (List ℕ)) (first second : Change) → Apart first second → Ascends (entry_of_change file first) (entry_of_change file second)
within_file file first second (inl below) same = (λ i. ordering_then (tied_itself file_stamp_total (file_stamp_of file) i) (number_below _ _ below i))
within_file file first second (inr apart) same = absurd (apart same)

-- the moment of the entry's file is after the moment of this file
abbrev IsLaterThan : List (List ℕ) → Keyed → Type 0
IsLaterThan file entry = IsBelow moment_cmp (moment_of file) entry.1.stamp.file.moment

later_entries : (file later : List (List ℕ)) → IsBelow (on moment_of moment_cmp) file later → (cs : List Change) → AllByRecursion (IsLaterThan file)
    (map (entry_of_change later) cs)
later_entries file later below [] = tt
later_entries file later below (change ∷ cs) = (below, later_entries file later below cs)

later_along : (file : List (List ℕ)) (files : List (List (List ℕ))) → AllByRecursion (IsBelow (on moment_of moment_cmp) file) files
    → AllByRecursion (IsLaterThan file) (entries_along files)
later_along file [] all = tt
later_along file (later ∷ files) all = grind (arith, all_append, later_entries, (later_along file files all.1))

-- if files are in moment order, then of two entries for the same key, the later entry has the
-- greater stamp
pub entries_ascend : (files : List (List (List ℕ))) → IsStrictlyAscending (on moment_of moment_cmp) files → AllLater Ascends (entries_along files)
entries_ascend [] up = tt
entries_ascend (file ∷ files) up =
    later_append_all Ascends (entries_of file) (entries_along files)
    (later_map_weaker (entry_of_change file) Apart Ascends (within_file file) (changes file) (changes_apart 1 file))
    (entries_ascend files up.1)
    (all_map (entry_of_change file) (λ x. AllByRecursion (Ascends x) (entries_along files)) (changes file)
    (each (changes file)))
  where
    each : (cs : List Change) → AllByRecursion (λ change. AllByRecursion (Ascends (entry_of_change file change)) (entries_along files)) cs
    each [] = tt
    each (change ∷ cs) = (
      search (rules, all_weaker, later_along),
      each cs,
    )

-- ---- only the last full extract and the files after it count

abbrev CmpStamps : List (List ℕ) → List (List ℕ) → Ordering
CmpStamps first second = file_stamp_cmp (file_stamp_of first) (file_stamp_of second)

-- of two files, the file with the earlier moment has the lower file stamp
stamp_below : (first second : List (List ℕ)) → IsBelow (on moment_of moment_cmp) first second → CmpStamps first second ≡ Less
stamp_below first second below = λ i. ordering_then (below i) (bytes_cmp (file_stamp_of first).reference (file_stamp_of second).reference)

or_false : (a b : Bool) → (a || b) ≡ false → (a ≡ false) × (b ≡ false)
or_false = search rules

none_is : (files : List (List (List ℕ))) → list_any is_full files ≡ false → (file : List (List ℕ)) → Contains files file → is_full file ≡ false
none_is [] h file among = absurd (nil-Contains file among)
none_is (first ∷ files) h file among =
    let parts = or_false (is_full first) (list_any is_full files) h in
    elim (Contains-cons first files file among) [ inl same ↦ subst (λ f. is_full f ≡ false) same parts.0 | inr inside ↦ (none_is files parts.1 file) inside ]

abbrev Ascending : List (List (List ℕ)) → Type 0
Ascending files = IsStrictlyAscending (on moment_of moment_cmp) files

-- no full extract among the files is newer than this file
abbrev NoneAbove : List (List (List ℕ)) → List (List ℕ) → Type 0
NoneAbove files file = (other : List (List ℕ)) → Contains files other → is_full other ≡ true → ¬ (CmpStamps other file ≡ Greater)

-- some full extract among the files is newer than this file
abbrev SomeAbove : List (List (List ℕ)) → List (List ℕ) → Type 0
SomeAbove files file = (other : List (List ℕ)) × Contains files other × (is_full other ≡ true) × (CmpStamps file other ≡ Less)

-- the file counts: it is one of the files, and no full extract among the files is newer than it
abbrev KeptThere : List (List (List ℕ)) → List (List ℕ) → Type 0
KeptThere files file = Contains files file × NoneAbove files file

none_above_head : (first : List (List ℕ)) (files : List (List (List ℕ))) (file : List (List ℕ)) → AllByRecursion (IsBelow (on moment_of moment_cmp) first) files
    → Contains files file → NoneAbove files file → NoneAbove (first ∷ files) file
none_above_head first files file above among none other there full = elim (Contains-cons first files other there) [
  | inl same ↦
      let below = stamp_below first file (below_by_recursion (IsBelow (on moment_of moment_cmp) first) files file above among) in
      less_not_greater (CmpStamps other file) (subst (λ f. CmpStamps f file ≡ Less) same below)
  | inr inside ↦ none other inside full
]

-- if no file after the first file is a full extract, every file counts
all_kept : (first : List (List ℕ)) (files : List (List (List ℕ))) (file : List (List ℕ)) → AllByRecursion (IsBelow (on moment_of moment_cmp) first) files
    → list_any is_full files ≡ false → Contains (first ∷ files) file → NoneAbove (first ∷ files) file
all_kept first files file above none among other there full = by (Contains-cons first files other there) (Contains-cons first files file among)
  where
    by : (first ≡ other) ⊎ Contains files other → (first ≡ file) ⊎ Contains files file → ¬ (CmpStamps other file ≡ Greater)
    by (inr inside) here = absurd (let told = none_is files none other inside in cc)
    by (inl same) (inl same_file) =
        let tied : CmpStamps other file ≡ Equal = subst (λ f. CmpStamps other f ≡ Equal) (sym same ∙ same_file)
        (tied_itself file_stamp_total (file_stamp_of other)) in
        λ greater. cc
    by (inl same) (inr inside) =
        let below = stamp_below first file (below_by_recursion (IsBelow (on moment_of moment_cmp) first) files file above inside) in
        less_not_greater (CmpStamps other file) (subst (λ f. CmpStamps f file ≡ Less) same below)

kept_in : (files : List (List (List ℕ))) → Ascending files → (file : List (List ℕ)) → Contains (from_last_full files) file → KeptThere files file
kept_in [] up file among = absurd (nil-Contains file among)
kept_in (first ∷ files) up file among = by (list_any is_full files) refl (kept_in files up.1 file)
  where
    by : (b : Bool) → list_any is_full files ≡ b → (Contains (from_last_full files) file → KeptThere files file) → KeptThere (first ∷ files) file
    by true h rest = search (rules, cons-Contains, none_above_head, up.0)
    by false h rest = search (rules, all_kept, up.0)

kept_or_dropped : (files : List (List (List ℕ))) → Ascending files → (file : List (List ℕ)) → Contains files file → Contains (from_last_full files) file
    ⊎ SomeAbove files file
kept_or_dropped [] up file among = absurd (nil-Contains file among)
kept_or_dropped (first ∷ files) up file among = by (list_any is_full files) refl (kept_or_dropped files up.1 file) (Contains-cons first files file among)
  where
    by : (b : Bool) → list_any is_full files ≡ b → (Contains files file → Contains (from_last_full files) file ⊎ SomeAbove files file)
        → (first ≡ file) ⊎ Contains files file → Contains (cond (list_any is_full files) (from_last_full files) (first ∷ files)) file ⊎ SomeAbove
        (first ∷ files) file
    by false h rest where_ = inl (subst (λ v. Contains (cond v (from_last_full files) (first ∷ files)) file) (sym h) among)
    by true h rest (inl same) =
        let full = any_back is_full files h in
        let below = stamp_below first full.0 (below_by_recursion (IsBelow (on moment_of moment_cmp) first) files full.0 up.0 full.1) in
        inr (full.0, cons-Contains first files full.0 full.1, full.2, subst (λ f. CmpStamps f full.0 ≡ Less) same below)
    by true h rest (inr inside) = search (rules, cons-Contains)

-- if files are in moment order, the last full extract and the files after it are in moment order
pub suffix_ascends : (files : List (List (List ℕ))) → Ascending files → Ascending (from_last_full files)
suffix_ascends [] up = tt
suffix_ascends (first ∷ files) up = grind (arith, (suffix_ascends files up.1))

-- ---- a file isn't below the floor if and only if no full extract is newer than the file

full_item : (file : List (List ℕ)) → is_full file ≡ true → IsFull (ledger_item_of file)
full_item file full = eqb-true (ledger_item_of file).indicator 70 full

kept_by_floor : (files ordered : List (List (List ℕ))) → ((file : List (List ℕ)) → Contains ordered file ↔ Contains files file)
    → (floor : Option FileStamp) → IsFloor (map ledger_item_of files) floor → (file : List (List ℕ)) → KeptThere ordered file
    → IsKept floor (file_stamp_of file)
kept_by_floor files ordered same None is file kept = tt
kept_by_floor files ordered same (Some stamp) is file kept =
    let found = Contains-map ledger_item_of files is.full is.among in
    let full : is_full found.0 ≡ true = eq-eqb (ledger_item_of found.0).indicator 70 (ap (λ (item : LedgerItem). item.indicator) found.2 ∙ is.is_full) in
    let stamp_is : file_stamp_of found.0 ≡ stamp = ap (λ (item : LedgerItem). item.stamp) found.2 ∙ is.stamped in
    subst (λ s. IsAtMost file_stamp_cmp s (file_stamp_of file)) stamp_is (kept.1 found.0 ((same found.0).1 found.1) full)

not_dropped : (files ordered : List (List (List ℕ))) → ((file : List (List ℕ)) → Contains ordered file ↔ Contains files file)
    → (floor : Option FileStamp) → IsFloor (map ledger_item_of files) floor → (file : List (List ℕ)) → IsKept floor (file_stamp_of file)
    → ¬ SomeAbove ordered file
not_dropped files ordered same None is file kept above =
    is (ledger_item_of above.0) (map-Contains _ files _ ((same above.0).0 above.1)) (full_item above.0 above.2)
not_dropped files ordered same (Some stamp) is file kept above =
    let high = is.greatest (ledger_item_of above.0) (map-Contains _ files _ ((same above.0).0 above.1)) (full_item above.0 above.2) in
    at_most_trans file_stamp_total _ stamp _ high kept (file_stamp_total.antisymm (file_stamp_of above.0) (file_stamp_of file) ∙ ap ordering_reverse above.3)

-- ---- the files that count have the entries of the last full extract and the files after it

module _ (files ordered : List (List (List ℕ))) (order : IsInMomentOrder files ordered) (floor : Option FileStamp)
    (is_floor : IsFloor (map ledger_item_of files) floor) where
  -- an entry of a file that counts is among the entries of the last full extract and the files
  -- after it
  pub in_entries : (key : Key) (entry : Entry) → IsEntryOf files floor key entry → Contains (entries_along (from_last_full ordered)) (key, entry)
  in_entries key entry made =
      let there = (order.same made.file).1 made.kept.among in
      let kept : Contains (from_last_full ordered) made.file = (elim (kept_or_dropped ordered order.ascending made.file there) [
        | inl kept ↦ kept
        | inr above ↦ absurd (not_dropped files ordered order.same floor is_floor made.file made.kept.kept above)
      ]) in
      let pair : entry_of_change made.file made.change ≡ (key, entry) = (λ i. (made.key_is i, made.entry_is i)) in
      flat_map-Contains entries_of (from_last_full ordered) made.file (key, entry) kept
      (subst (Contains (entries_of made.file)) pair (map-Contains (entry_of_change made.file) (changes made.file) made.change made.among))

  -- an entry of the last full extract or of a file after it is an entry of a file that counts
  pub out_entries : (key : Key) (entry : Entry) → Contains (entries_along (from_last_full ordered)) (key, entry) → IsEntryOf files floor key entry
  out_entries key entry among =
      let found = Contains-flat_map entries_of (from_last_full ordered) (key, entry) among in
      let change = Contains-map (entry_of_change found.0) (changes found.0) (key, entry) found.2 in
      let kept = kept_in ordered order.ascending found.0 found.1 in
      record {
        file = found.0;
        kept = record { among = (order.same found.0).0 kept.0; kept = kept_by_floor files ordered order.same floor is_floor found.0 kept };
        change = change.0;
        among = change.1;
        key_is = ap (λ (pair : Keyed). pair.0) change.2;
        entry_is = ap (λ (pair : Keyed). pair.1) change.2;
      }

-- ---- a search for a key in a state finds the only entry of the key

-- a search finds an entry for the key in the list
abbrev pub Found : List Keyed → Key → Type 0
Found entries key = (pair : Keyed) × (find (λ entry. is_eq (key_cmp entry.0 key)) entries ≡ Some pair) × Contains entries (key, pair.1)

-- a search for the key finds no entry, since the list has no entry for the key
abbrev pub NotFound : List Keyed → Key → Type 0
NotFound entries key = (find (λ entry. is_eq (key_cmp entry.0 key)) entries ≡ None) × ((entry : Entry) → ¬ Contains entries (key, entry))

-- a search finds an entry for the key, or the list has no entry for the key
pub find_in : (entries : List Keyed) (key : Key) → Found entries key ⊎ NotFound entries key
find_in [] key = inr (refl, λ entry among. nil-Contains _ among)
find_in (first ∷ entries) key = by (is_eq (key_cmp first.0 key)) refl (find_in entries _)
  where
    by : (b : Bool) → is_eq (key_cmp first.0 key) ≡ b → Found entries key ⊎ NotFound entries key → Found (first ∷ entries) key ⊎ NotFound (first ∷ entries) key
    by true h rest =
        let same : first ≡ (key, first.1) = (λ i. (same_key first.0 _ h i, first.1)) in
        search (rules, cons-Contains-first)
    by false h (inl found) = search (rules, cons-Contains)
    by false h (inr none) = inr (
      (λ i. cond (h i) (Some first) (find (λ entry. is_eq (key_cmp entry.0 key)) entries)) ∙ none.0,
      λ entry among. elim (Contains-cons _ entries _ among) [
        | inl e ↦ other_key first.0 _ h (ap (λ (pair : Keyed). pair.0) e)
        | inr inside ↦ none.1 entry inside
      ],
    )

-- a list of entries in key order has at most one entry for each key
pub one_per_key : (entries : List Keyed) → IsStrictlyAscending (on (λ (entry : Keyed). entry.0) key_cmp) entries → (key : Key) (first second : Entry)
    → Contains entries (key, first) → Contains entries (key, second) → first ≡ second
one_per_key [] up key first second in_first in_second = absurd (nil-Contains (key, first) in_first)
one_per_key (entry ∷ entries) up key first second in_first in_second =
    grind (common_steps, arith, below_by_recursion, irreflexive, key_total, (one_per_key entries up.1 key first second))

-- at a key with an entry, the live table has the body that the entry puts, if any
pub live_at : (state : State) (key : Key) (pair : Keyed) → find (λ entry. is_eq (key_cmp entry.0 key)) state.entries ≡ Some pair
    → live_table state key ≡ body_of pair.1.op
live_at state key pair h = λ i. option_and_then (λ (entry : Entry). body_of entry.op) (option_and_then (λ (entry : Keyed). Some entry.1) (h i))

-- at a key without an entry, the live table has no body
pub live_none : (state : State) (key : Key) → find (λ entry. is_eq (key_cmp entry.0 key)) state.entries ≡ None → live_table state key ≡ None
live_none state key h = λ i. option_and_then (λ (entry : Entry). body_of entry.op) (option_and_then (λ (entry : Keyed). Some entry.1) (h i))
