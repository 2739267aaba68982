-- Applying the changes that are kept for a place and a day gives the same table as applying all
-- changes and then thinning the table.
use Rattle.cif_laws.proofs.Common.{arith, append-nil, append_assoc, ◌≡◌, ℕ, List, [], ◌∷◌, ◌++◌, subst, rules, common_steps, refl, ap, sym, ◌∙◌, Bool, true}
use Rattle.cif_laws.proofs.Common.{false, cond, None, map, Option, option_and_then, filter, fold, not, is_eq, tied_itself, IsBelow, IsAtMost, first_record}
use Rattle.cif_laws.proofs.Common.{schedule_body, Key, Body, Act, delete, put, Change, key_cmp, op_of, body_of, Table, empty_table, after_change, as_new}
use Rattle.cif_laws.proofs.Common.{map-append}
use Rattle.docker_laws.specs.NearDay.{runs_near}
use Rattle.cif_laws.proofs.records.Columns.{new_columns}
use Rattle.docker_laws.specs.Thinning.{IsThinning, lines_for, may_matter, thin_body, thinned, thin_act}
use Rattle.docker_laws.specs.Thinning.{thin_change, thin_changes, table_of, AreEnough, HasNoChangeOf, AreAtMost, without}
use Rattle.docker_laws.specs.Excerpt.{IsSublist}
use Rattle.docker_laws.proofs.dockers.Sublists.{sublist_itself, sublist_filter, sublist_onward, sublist_append, sublist_front}
use Rattle.cif_laws.proofs.orders.Orders.{same_key, key_total}
use Rattle.cif_laws.proofs.orders.AtMost.{less_not_greater, at_most_trans}
use Rattle.cif_laws.proofs.lists.Membership.{cons-Contains, cons-Contains-first}

-- whether the change has this key
abbrev pub is_of : Key → Change → Bool
is_of key change = is_eq (key_cmp change.key key)

-- the body at a key after an act, or `None` after a deletion
abbrev pub left_by : Act → Option Body
left_by act = body_of (op_of act)

-- ---- thinning commutes with one change

-- if an act leaves a body at a key, the thin form of the act leaves the thinned form of this body
-- there
thin_left : (place : List ℕ) (day : ℕ) (act : Act) → left_by (thin_act place day act) ≡ option_and_then (thin_body place day) (left_by act)
thin_left = search rules

-- after a change, the table has at the change's key the body that the change leaves, and at any
-- other key the same body as before
after_here : (table : Table) (change : Change) (key : Key) → is_of key change ≡ true → after_change table change key ≡ left_by change.act
after_here table change key h = λ i. cond (h i) (left_by change.act) (table key)

pub after_there : (table : Table) (change : Change) (key : Key) → is_of key change ≡ false → after_change table change key ≡ table key
after_there table change key h = λ i. cond (h i) (left_by change.act) (table key)

-- if two tables have the same body at a key, the two thinned tables also have the same body at this
-- key
left_at : (place : List ℕ) (day : ℕ) (one other : Table) (key : Key) → one key ≡ other key → thinned place day one key ≡ thinned place day other key
left_at place day one other key same = λ i. cond (may_matter place key) (option_and_then (thin_body place day) (same i)) None

none_or : (b : Bool) → ◌≡◌ {A = Option Body} (cond b None None) None
none_or = search rules

module _ (place : List ℕ) (day : ℕ) where
  -- a change to a key that can't matter to the docker of the place leaves the thinned table
  -- unchanged
  step_elsewhere : (table : Table) (change : Change) (key : Key) → may_matter place change.key ≡ false
      → thinned place day (after_change table change) key ≡ thinned place day table key
  step_elsewhere table change key no_matter = by (is_of key change) refl
    where
      nothing : (one : Table) → may_matter place key ≡ false → thinned place day one key ≡ None
      nothing one h = λ i. cond (h i) (option_and_then (thin_body place day) (one key)) None

      by : (b : Bool) → is_of key change ≡ b → thinned place day (after_change table change) key ≡ thinned place day table key
      by true h =
          let none : may_matter place key ≡ false = subst (λ (k : Key). may_matter place k ≡ false) (same_key change.key key h) no_matter in
          nothing (after_change table change) none ∙ sym (nothing table none)
      by false h = left_at place day (after_change table change) table key (after_there table change key h)

  -- thinning commutes with a change whose key may matter to the docker of the place. If `left` is
  -- the thinned table, applying the thin form of the change to `left` gives the thinned form of the
  -- table after the change
  step_kept : (table left : Table) (change : Change) (key : Key) → may_matter place change.key ≡ true → left key ≡ thinned place day table key
      → after_change left (thin_change place day change) key ≡ thinned place day (after_change table change) key
  step_kept table left change key matters same = by (is_of key change) refl
    where
      by : (b : Bool) → is_of key change ≡ b → after_change left (thin_change place day change) key ≡ thinned place day (after_change table change) key
      by true h =
          let here : may_matter place key ≡ true = subst (λ (k : Key). may_matter place k ≡ true) (same_key change.key key h) matters in
          search (rules, after_here, thin_left)
      by false h = search (rules, after_there, left_at)

  -- ---- thinning commutes with all changes of a list

  kept_from : (changes : List Change) (table left : Table) → ((key : Key) → left key ≡ thinned place day table key) → (key : Key)
      → fold after_change left (thin_changes place day changes) key ≡ thinned place day (fold after_change table changes) key
  kept_from [] table left same key = same key
  kept_from (change ∷ changes) table left same key = grind (arith, step_kept, step_elsewhere, (kept_from changes))

  -- applying the thin changes to a thinned table gives the same table as applying all changes to
  -- the table and then thinning the result
  pub thin_over : (table : Table) (changes : List Change) (key : Key)
      → fold after_change (thinned place day table) (thin_changes place day changes) key ≡ thinned place day (fold after_change table changes) key
  thin_over table changes key = kept_from changes table (thinned place day table) (λ k. refl) key

  -- applying the thin changes of a list to the empty table gives the same table as applying all
  -- changes of the list and then thinning the table
  thin_enough : (changes : List Change) → AreEnough place day changes (thin_changes place day changes)
  thin_enough = search (rules, kept_from, none_or)

-- ---- a thinning can be made change by change

-- applying a list of changes with one change appended gives the same table as applying the list and
-- then that change
table_more : (table : Table) (changes : List Change) (change : Change)
    → fold after_change table (changes ++ change ∷ []) ≡ after_change (fold after_change table changes) change
table_more = grind (common_steps, arith)

-- changes to other keys leave the body at a key unchanged
pub untouched : (changes : List Change) (table : Table) (key : Key) → HasNoChangeOf key changes → fold after_change table changes key ≡ table key
untouched [] table key none = refl
untouched (change ∷ changes) table key none = grind (
  arith,
  same_key,
  after_there,
  (none change (cons-Contains-first change changes)),
  (untouched changes (after_change table change) key (λ other among. none other (cons-Contains change changes other among))),
)

-- if all changes to a key are left out, the body at this key is unchanged
without_here : (key : Key) (changes : List Change) (table : Table) → fold after_change table (without key changes) key ≡ table key
without_here key [] table = refl
without_here key (change ∷ changes) table = grind (arith, after_there, (without_here key changes))

-- if all changes to a key pass a test, leaving out the changes that fail it leaves the body at this
-- key unchanged
pub filtered_there : (test : Change → Bool) (key : Key) → ((change : Change) → is_of key change ≡ true → test change ≡ true) → (changes : List Change)
    (one two : Table) → one key ≡ two key → fold after_change one (filter test changes) key ≡ fold after_change two changes key
filtered_there test key passes [] one two same = same
filtered_there test key passes (change ∷ changes) one two same = by (test change) (is_of key change) refl refl (filtered_there test key passes changes)
  where
    by : (b c : Bool) → test change ≡ b → is_of key change ≡ c
        → ((first second : Table) → first key ≡ second key → fold after_change first (filter test changes) key ≡ fold after_change second changes key)
        → fold after_change one (cond b (change ∷ filter test changes) (filter test changes)) key ≡ fold after_change (after_change two change) changes key
    by true c h g rest = rest (after_change one change) (after_change two change) (λ i. cond (is_of key change) (left_by change.act) (same i))
    by false true h g rest = absurd (let bad : false ≡ true = sym h ∙ passes change g in cc)
    by false false h g rest = rest one (after_change two change) (same ∙ sym (after_there two change key g))

-- leaving out the changes to one key leaves the bodies at all other keys unchanged
without_there : (key other : Key) → is_eq (key_cmp key other) ≡ false → (changes : List Change) (one two : Table) → one other ≡ two other
    → fold after_change one (without key changes) other ≡ fold after_change two changes other
without_there key other apart = filtered_there (λ (change : Change). not (is_of key change)) other (λ change h. passes change h (is_of key change) refl)
  where
    passes : (change : Change) → is_of other change ≡ true → (b : Bool) → is_of key change ≡ b → not b ≡ true
    passes change h true g =
        let bad : true ≡ false = sym h ∙ ap (λ (k : Key). is_eq (key_cmp k other)) (same_key change.key key g) ∙ apart in
        absurd (let worse : true ≡ false = bad in cc)
    passes change h false g = refl

module _ (place : List ℕ) (day : ℕ) where
  enough_at_first : AreEnough place day [] []
  enough_at_first key = sym (none_or (may_matter place key))

  module _ (changes kept : List Change) (change : Change) (so_far : AreEnough place day changes kept) where
    all_more : (key : Key) → thinned place day (table_of (changes ++ change ∷ [])) key ≡ thinned place day (after_change (table_of changes) change) key
    all_more key = ap (λ (table : Table). thinned place day table key) (table_more empty_table changes change)

    -- a change to a key that can't matter to the docker of the place may be dropped
    enough_elsewhere : may_matter place change.key ≡ false → AreEnough place day (changes ++ change ∷ []) kept
    enough_elsewhere = search (rules, step_elsewhere, all_more)

    -- after a change whose thin form is a deletion, the thinned table has no body at the key of the
    -- change
    none_left : thin_act place day change.act ≡ delete → (key : Key) → is_of key change ≡ true
        → thinned place day (after_change (table_of changes) change) key ≡ None
    none_left = search (rules, after_here, none_or, thin_left)

    same_elsewhere : (key : Key) → is_of key change ≡ false
        → thinned place day (after_change (table_of changes) change) key ≡ thinned place day (table_of changes) key
    same_elsewhere key h = left_at place day (after_change (table_of changes) change) (table_of changes) key (after_there (table_of changes) change key h)

    -- other changes may be kept if they leave, at the key of the change, the body of the thinned
    -- table, and elsewhere the same bodies as the kept changes
    enough_by : (others : List Change)
        → ((key : Key) → is_of key change ≡ true → table_of others key ≡ thinned place day (after_change (table_of changes) change) key)
        → ((key : Key) → is_of key change ≡ false → table_of others key ≡ table_of kept key) → AreEnough place day (changes ++ change ∷ []) others
    enough_by others here there key = by (is_of key change) refl ∙ sym (all_more key)
      where
        by : (b : Bool) → is_of key change ≡ b → table_of others key ≡ thinned place day (after_change (table_of changes) change) key
        by true h = here key h
        by false h = there key h ∙ so_far key ∙ sym (same_elsewhere key h)

    -- a change whose thin form is a deletion may be dropped if no change to the same key is kept
    enough_dropped : thin_act place day change.act ≡ delete → HasNoChangeOf change.key kept → AreEnough place day (changes ++ change ∷ []) kept
    enough_dropped deletes none = enough_by kept
        (λ key h. untouched kept empty_table key (subst (λ (k : Key). HasNoChangeOf k kept) (same_key change.key key h) none) ∙ sym (none_left deletes key h))
        (λ key h. refl)

    -- after a change whose thin form is a deletion, the kept changes to the same key may be removed
    enough_removed : thin_act place day change.act ≡ delete → AreEnough place day (changes ++ change ∷ []) (without change.key kept)
    enough_removed deletes = enough_by (without change.key kept)
        (λ key h. (λ i. table_of (without (same_key change.key key h i) kept) key) ∙ without_here key kept empty_table ∙ sym (none_left deletes key h))
        (λ key h. without_there change.key key h kept empty_table empty_table refl)

    -- if the thin form of a change is kept, the earlier kept changes to the same key may be removed
    enough_replaced : may_matter place change.key ≡ true
        → AreEnough place day (changes ++ change ∷ []) (without change.key kept ++ thin_change place day change ∷ [])
    enough_replaced matters = enough_by (without change.key kept ++ thin_change place day change ∷ [])
        (λ key h. more key ∙ after_here (table_of (without change.key kept)) (thin_change place day change) key h
        ∙ sym (after_here (table_of kept) (thin_change place day change) key h)
        ∙ step_kept place day (table_of changes) (table_of kept) change key matters (so_far key))
        (λ key h. more key ∙ after_there (table_of (without change.key kept)) (thin_change place day change) key h
        ∙ without_there change.key key h kept empty_table empty_table refl)
      where
        more : (key : Key) → table_of (without change.key kept ++ thin_change place day change ∷ []) key
            ≡ after_change (table_of (without change.key kept)) (thin_change place day change) key
        more key = λ i. table_more empty_table (without change.key kept) (thin_change place day change) i key

-- ---- which thin changes may be kept

-- if one list is a sublist of another, mapping both with the same function gives a sublist of the
-- mapped list
sublist_map : {A B : Type 0} (f : A → B) (xs ys : List A) → IsSublist xs ys → IsSublist (map f xs) (map f ys)
sublist_map f [] ys is = tt
sublist_map f (x ∷ xs) [] is = absurd is
sublist_map {A} f (x ∷ xs) (y ∷ ys) is = grind (arith, (sublist_map f xs ys), (sublist_map f (x ∷ xs) ys))

module _ (place : List ℕ) (day : ℕ) where
  -- the thin forms of all changes whose keys may matter to the docker of the place are a thinning
  pub thinning_of_all : (changes : List Change) → IsThinning place day changes (thin_changes place day changes)
  thinning_of_all = search (rules, sublist_map, sublist_filter, thin_enough)

  -- the empty list is a thinning of the empty list of changes
  pub thinning_at_first : IsThinning place day [] []
  thinning_at_first = record { some = tt; enough = enough_at_first place day }

  module _ (changes kept : List Change) (change : Change) (is : IsThinning place day changes kept) where
    abbrev before : List Change
    before = map (thin_change place day) changes

    -- a sublist of the thin changes stays a sublist if one more thin change is appended to the thin
    -- changes
    still_some : (others : List Change) → IsSublist others kept → IsSublist others (map (thin_change place day) (changes ++ change ∷ []))
    still_some = search (rules, map-append, sublist_onward, sublist_front)

    -- suppose that the same thin change is appended to the thin changes and to a sublist of them.
    -- Then the longer sublist is a sublist of the longer list
    some_more : (others : List Change) → IsSublist others kept
        → IsSublist (others ++ thin_change place day change ∷ []) (map (thin_change place day) (changes ++ change ∷ []))
    some_more = search (rules, map-append, sublist_append, sublist_onward, sublist_itself)

    -- a change to a key that can't matter to the docker of the place may be dropped
    pub thinning_elsewhere : may_matter place change.key ≡ false → IsThinning place day (changes ++ change ∷ []) kept
    thinning_elsewhere = search (rules, still_some, sublist_itself, enough_elsewhere)

    -- if the key of a change may matter to the docker of the place, the thin form of the change may
    -- be kept
    pub thinning_kept : may_matter place change.key ≡ true → IsThinning place day (changes ++ change ∷ []) (kept ++ thin_change place day change ∷ [])
    thinning_kept = search (rules, some_more, sublist_itself, table_more, step_kept, all_more)

    -- a change whose thin form is a deletion may be dropped if no change to the same key is kept
    pub thinning_dropped : thin_act place day change.act ≡ delete → HasNoChangeOf change.key kept → IsThinning place day (changes ++ change ∷ []) kept
    thinning_dropped = search (rules, still_some, sublist_itself, enough_dropped)

    -- after a change whose thin form is a deletion, the kept changes to the same key may be removed
    pub thinning_removed : thin_act place day change.act ≡ delete → IsThinning place day (changes ++ change ∷ []) (without change.key kept)
    thinning_removed = search (rules, still_some, sublist_filter, enough_removed)

    -- if the thin form of a change is kept, the earlier kept changes to the same key may be removed
    pub thinning_replaced : may_matter place change.key ≡ true
        → IsThinning place day (changes ++ change ∷ []) (without change.key kept ++ thin_change place day change ∷ [])
    thinning_replaced = search (rules, some_more, sublist_filter, enough_replaced)

-- a thinning of some changes can be continued with more changes. For each further change whose key
-- may matter to the docker of the place, the thin form of this change is kept
pub thinning_more : (place : List ℕ) (day : ℕ) (all kept more : List Change) → IsThinning place day all kept
    → IsThinning place day (all ++ more) (kept ++ thin_changes place day more)
thinning_more place day all kept [] is = search (rules, append-nil)
thinning_more place day all kept (change ∷ more) is = grind (
  arith,
  append_assoc,
  (thinning_kept place day all kept change is),
  (thinning_elsewhere place day all kept change is),
  (thinning_more place day (all ++ change ∷ []) kept more),
  (thinning_more place day (all ++ change ∷ []) (kept ++ thin_change place day change ∷ []) more),
)

-- ---- the thin form of an act in each case

module _ (place : List ℕ) (day : ℕ) (lines : List (List ℕ)) where
  -- if a schedule runs on no start day near the day, the thin form of its put is a deletion
  pub act_far : runs_near day (first_record lines) ≡ false → thin_act place day (put (schedule_body lines)) ≡ delete
  act_far far = λ i. cond (far i) (put (schedule_body (lines_for place day lines))) delete

-- whether a basic schedule runs on a start day near the day doesn't depend on its transaction
pub near_of_new : (day : ℕ) (line : List ℕ) → runs_near day (as_new line) ≡ runs_near day line
near_of_new = search (rules, new_columns)

-- ---- upper bounds of the keys of the kept changes

-- if a key is above an upper bound of the keys of the kept changes, no kept change has this key
pub none_above : (highest key : Key) (kept : List Change) → AreAtMost highest kept → IsBelow key_cmp highest key → HasNoChangeOf key kept
none_above = search (rules, key_total)

-- if one more change is kept, and its key isn't above the upper bound `highest`, this bound is
-- still an upper bound
pub still_at_most : (highest : Key) (kept : List Change) (change : Change) → AreAtMost highest kept → IsAtMost key_cmp change.key highest
    → AreAtMost highest (kept ++ change ∷ [])
still_at_most = grind (common_steps, arith)

-- if one more change is kept, and its key is above the upper bound `highest`, this key is an upper
-- bound of the keys of all kept changes
pub raised_at_most : (highest : Key) (kept : List Change) (change : Change) → AreAtMost highest kept → IsBelow key_cmp highest change.key
    → AreAtMost change.key (kept ++ change ∷ [])
raised_at_most highest kept change low below = still_at_most _ kept _
    (λ other among. at_most_trans key_total other.key _ change.key (low other among) (less_not_greater _ below))
    (λ greater. let tied = tied_itself key_total change.key in cc)
