-- How a tally changes with each row of a walk.
use Rattle.cif_laws.proofs.Common.{◌≡◌, ℕ, ◌+◌, ◌^◌, ◌<◌, ◌≤◌, List, [], ◌∷◌, ◌++◌, length, take, map, get_or, refl, sym, rules, common_steps, subst, inl, inr}
use Rattle.cif_laws.proofs.Common.{cond, Contains, Some, None, arith, append-nil, length-append, Option, ◌==◌, drop_of_length-le, map-append, length-map}
use Rattle.cif_laws.proofs.Common.{take-append-drop, Contains-append_left, Contains-append_right, Contains-append_cases, filter-append, filter_map-append, Key}
use Rattle.cif_laws.proofs.Common.{tiploc_key, association_key, schedule_key, Body, Op, Entry, key_tag, body_end, Row}
use Rattle.std.proofs.Math.Seq.{take-suc}
use Rattle.std.proofs.lemmas.List.{length-take}
use Rattle.std.proofs.lemmas.List.Sums.{length-filter, count_by-le-length}
use Rattle.cif_laws.proofs.lists.Membership.{cons-Contains-first, Contains-single}
use Rattle.cif_change.specs.declared.key.Key.{Key as Kept}
use Rattle.docker_join.specs.declared.entry.Entry.{Entry as Held}
use Rattle.docker_join.specs.Meaning.{op_meant, row_meant}
use Rattle.docker_state.specs.Live.{put_before, live_rows}
use Rattle.docker_model.specs.lists.KnownText.{IsGreatest, count_of, day_in, end_of, ends_of}
use Rattle.state_lists.specs.Tallies.{AreFew, IsTallyOf, with_day}
use Rattle.state_lists.specs.declared.tally.Tally.{Tally}

-- ---- one more row

-- 1 if the key has the tag, otherwise 0
abbrev one_if : ℕ → Key → ℕ
one_if tag key = cond (key_tag key == tag) 1 0

count_more : (tag : ℕ) (rows : List Row) (key : Key) (body : Body) → count_of tag (rows ++ (key, body) ∷ []) ≡ count_of tag rows + one_if tag key
count_more = search (rules, filter-append, length-append)

ends_more : (rows : List Row) (key : Key) (body : Body) → ends_of (rows ++ (key, body) ∷ []) ≡ with_day (ends_of rows) (end_of key body)
ends_more = search (rules, filter_map-append, append-nil)

-- the lemmas for a correct tally of the rows `rows`, when one more row is counted
module _ (rows : List Row) (tally : Tally) (body : Body) (is : IsTallyOf rows tally) where
  -- the tally is correct with one more row if each count grows by 1 for a key of its kind
  tally_more : (key : Key) (after : Tally) → after.schedules ≡ tally.schedules + one_if 3 key → after.associations ≡ tally.associations + one_if 2 key
      → after.places ≡ tally.places + one_if 1 key → IsGreatest (with_day (ends_of rows) (end_of key body)) after.last
      → IsTallyOf (rows ++ (key, body) ∷ []) after
  tally_more key after threes twos ones last =
      let greatest = subst (λ days. IsGreatest days after.last) (sym (ends_more rows key body)) last in
      search (rules, count_more)

  pub with_place : (key : Key) → ◌≡◌ {A = ℕ} (key_tag key) 1 → IsTallyOf (rows ++ (key, body) ∷ []) (record tally { places = tally.places + 1 })
  with_place (tiploc_key code) told = tally_more (tiploc_key code) _ (omega arith) (omega arith) refl is.last
  with_place _ told = absurd (omega (arith, told))

  pub with_association : (key : Key) → ◌≡◌ {A = ℕ} (key_tag key) 2
      → IsTallyOf (rows ++ (key, body) ∷ []) (record tally { associations = tally.associations + 1 })
  with_association (association_key key) told = tally_more (association_key key) _ (omega arith) refl (omega arith) is.last
  with_association _ told = absurd (omega (arith, told))

  pub with_schedule : (key : Key) → ◌≡◌ {A = ℕ} (key_tag key) 3 → (end last : Option ℕ) → end ≡ day_in (body_end body)
      → ((days : List ℕ) → IsGreatest days tally.last → IsGreatest (with_day days end) last)
      → IsTallyOf (rows ++ (key, body) ∷ []) (record tally { schedules = tally.schedules + 1; last = last })
  with_schedule (schedule_key key) told end last end_is later = tally_more (schedule_key key) _ refl (omega arith) (omega arith)
      (subst (λ e. IsGreatest (with_day (ends_of rows) e) last) end_is (later (ends_of rows) is.last))
  with_schedule (tiploc_key code) told end last end_is later = absurd (omega (arith, told))
  with_schedule (association_key key) told end last end_is later = cc

-- ---- the greater of two days

-- let `one` be the greatest of some days. A day is the greatest of these days and one more day if it
-- is one of them, and neither `one` nor the added day is later
greatest_of : (days : List ℕ) (one other top : ℕ) → IsGreatest days (Some one) → one ≤ top → other ≤ top → Contains (days ++ other ∷ []) top
    → IsGreatest (days ++ other ∷ []) (Some top)
greatest_of days one other top is first second inside = (
  inside,
  λ day among. elim (Contains-append_cases days (other ∷ []) day among) [
    | inl before ↦ let most = is.1 day before in omega arith
    | inr last ↦ let same : other ≡ day = Contains-single other day last in omega arith
  ],
)

-- if the day that is added isn't earlier than the greatest day of the list, the added day is the
-- greatest
pub other_later : (days : List ℕ) (first second : Option ℕ) (one other : ℕ) → first ≡ Some one → second ≡ Some other → one ≤ other
    → IsGreatest days first → IsGreatest (with_day days second) (Some other)
other_later days first second one other first_is second_is below is = subst (λ o. IsGreatest (with_day days o) (Some other)) (sym second_is)
    (greatest_of days one other other (subst (IsGreatest days) first_is is) below (omega arith)
    (Contains-append_right days (other ∷ []) other (cons-Contains-first other [])))

pub one_later : (days : List ℕ) (first second : Option ℕ) (one other : ℕ) → first ≡ Some one → second ≡ Some other → other ≤ one
    → IsGreatest days first → IsGreatest (with_day days second) (Some one)
one_later days first second one other first_is second_is below is = subst (λ o. IsGreatest (with_day days o) (Some one)) (sym second_is)
    (let greatest : IsGreatest days (Some one) = subst (IsGreatest days) first_is is in
    greatest_of days one other one greatest (omega arith) below (Contains-append_left days (other ∷ []) one greatest.0))

pub one_alone : (days : List ℕ) (first second : Option ℕ) (one : ℕ) → first ≡ Some one → second ≡ None
    → IsGreatest days first → IsGreatest (with_day days second) (Some one)
one_alone days first second one first_is second_is is =
    subst (λ o. IsGreatest (with_day days o) (Some one)) (sym second_is) (subst (IsGreatest days) first_is is)

-- ---- the tally of a state's first rows

live_append : (xs ys : List (Key × Entry)) → live_rows (xs ++ ys) ≡ live_rows xs ++ live_rows ys
live_append [] ys = refl
live_append (x ∷ xs) ys = grind (arith, (live_append xs ys))

live_few : (entries : List (Key × Entry)) → length (live_rows entries) ≤ length entries
live_few [] = omega arith
live_few (entry ∷ entries) = grind (arith, (live_few entries))

-- the live rows among the first `i` rows
abbrev pub live_up_to : ℕ → List (Kept × Held) → List Row
live_up_to i rows = live_rows (map row_meant (take i rows))

count_few : (tag i : ℕ) (rows : List (Kept × Held)) → count_of tag (live_up_to i rows) ≤ length rows
count_few = search (rules, length-filter, count_by-le-length, live_few, length-map, length-take)

-- if there are fewer than 2^63 rows, each count in the tally of the first `i` rows is below 2^63
pub are_few : (i : ℕ) (rows : List (Kept × Held)) (tally : Tally) → IsTallyOf (live_up_to i rows) tally → length rows < 2 ^ 63 → AreFew tally
are_few = search (rules, count_few)

-- the live rows among the first `i + 1` rows are the live rows among the first `i` rows, followed
-- by the next row if it is live
pub live_more : (rows : List (Kept × Held)) (i : ℕ) (row : Kept × Held) → i < length rows → row ≡ get_or rows i row
    → live_up_to (i + 1) rows ≡ live_up_to i rows ++ live_rows (row_meant row ∷ [])
live_more = grind (common_steps, arith, take-suc, map-append, live_append)

-- if a tally is correct after a row's key and op are counted, it is also correct after the row is
-- counted
pub with_op : (before : List Row) (row : Kept × Held) (op : Op) (tally : Tally) → op_meant row.1.op ≡ op
    → IsTallyOf (before ++ put_before (row_meant row).0 op []) tally → IsTallyOf (before ++ live_rows (row_meant row ∷ [])) tally
with_op = search rules

pub with_none : (before : List Row) (tally : Tally) → IsTallyOf before tally → IsTallyOf (before ++ []) tally
with_none before tally told = subst (λ (all : List Row). IsTallyOf all tally) (sym (append-nil before)) told

-- after the last row, the tally counts all rows
pub tally_all : (rows : List (Kept × Held)) (i : ℕ) (tally : Tally) → length rows ≤ i → IsTallyOf (live_up_to i rows) tally
    → IsTallyOf (live_rows (map row_meant rows)) tally
tally_all = grind (common_steps, arith, append-nil, drop_of_length-le, take-append-drop)

-- before the first row, the correct tally has only zeros and no last day
pub no_rows : (rows : List (Kept × Held)) → IsTallyOf (live_up_to 0 rows) (record { schedules = 0; associations = 0; places = 0; last = None })
no_rows rows = record { schedules = refl; associations = refl; places = refl; last = refl }
