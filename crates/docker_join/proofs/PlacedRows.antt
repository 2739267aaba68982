-- Joining two tables by placing rows, from the greatest key to the smallest: after each step the placed rows are right.
use Rattle.cif_laws.proofs.Common.{◌≡◌, ℕ, ◌+◌, ◌-◌, ◌<◌, ◌≤◌, List, [], ◌∷◌, ◌++◌, length, get_or, take, drop, refl, ap, sym, rules, common_steps, ◌∙◌, subst}
use Rattle.cif_laws.proofs.Common.{append_assoc, length-append, length-drop, arith, true, false, cond, Some, None, MatchOption, Bool, Option, not, append-nil}
use Rattle.cif_laws.proofs.Common.{get_or-drop, get_or-take, length-take-le, take-append-drop, take_more, take-append_seam, AllByRecursion, recursion_from_All}
use Rattle.cif_laws.proofs.Common.{Ordering, Less, Equal, Greater, is_eq, is_lt, ordering_reverse, IsTotalOrder, tied_itself, key_cmp, IsBelow}
use Rattle.std.proofs.lemmas.List.{get_or-append_right}
use Rattle.std.proofs.lemmas.List.{drop-drop, same_from_push}
use Rattle.std.proofs.lemmas.List.Folds.{find-append}
use Rattle.std.proofs.Math.Seq.{drop-append_seam, take-add}
use Rattle.std.specs.Ordering.{is_gt}
use Rattle.std.specs.Cmp.{alike_right}
use Rattle.docker_model.specs.file.Change as model
use Rattle.cif_laws.proofs.orders.Orders.{key_total, exact_key}
use Rattle.cif_laws.proofs.orders.Ascending.{later_of, ascending_of, below_next}
use Rattle.cif_laws.proofs.lists.AllOf.{all_append, all_front, all_weaker}
use Rattle.cif_laws.proofs.lists.Later.{later_append}
use Rattle.cif_laws.proofs.lists.Membership.{below_by_recursion, each_member}
use Rattle.state_laws.proofs.joins.KeyedRows as keyed
use Rattle.cif_change.specs.declared.key.Key.{Key}
use Rattle.cif_change.specs.Meaning.{key_meant}
use Rattle.docker_join.specs.Rows.{row_cmp, AreAscending, IsJoinOfRows, value_at, picked_value}
use Rattle.docker_join.specs.RowLaws.{value_of, row_of}
use Rattle.docker_join.specs.Placing.{left_rows, is_level_at, IsRunAbove, IsJoinWith, IsPlaced}
use Rattle.docker_join.proofs.Lookup.{by_key, not_back, parts_at}

module _ {E : Type 0} where
  -- Says that the key of each row passes the test.
  abbrev Each : (model.Key → Bool) → List (Key × E) → Type 0
  Each test rows = AllByRecursion (λ row. test (key_meant row.0) ≡ true) rows

  -- if the key of each row passes a test, the rows have no value at a key that fails it
  lacks : (test : model.Key → Bool) (rows : List (Key × E)) (key : model.Key) → Each test rows → test key ≡ false → value_at rows key ≡ None
  lacks test rows key each fails = (elim (value_at rows key) as (λ o. value_at rows key ≡ o → o ≡ None) [
    | None ↦ λ is. refl
    | Some value ↦ λ is. let row = row_of rows key value is in absurd
        (let passes = below_by_recursion _ rows row.0 each row.1 in let same = ap test row.2 in cc)
  ]) refl

  -- suppose that the keys of the first part pass a test, and that the keys of the second part fail it. Then the test of a key shows in which part its value is
  value_split : (test : model.Key → Bool) (xs ys : List (Key × E)) (key : model.Key) (t : Bool) → test key ≡ t → Each test xs
      → Each (λ other. not (test other)) ys → value_at (xs ++ ys) key ≡ cond t (value_at xs key) (value_at ys key)
  value_split test xs ys key true is front back = let none = lacks (λ other. not (test other)) ys key back (ap not is) in search (rules, find-append)
  value_split test xs ys key false is front back = let none = lacks test xs key front is in search (rules, find-append)

  -- if a list of rows ascends, so does its first part
  pub front_ascends : (xs ys : List (Key × E)) → AreAscending (xs ++ ys) → AreAscending xs
  front_ascends [] ys up = tt
  front_ascends (x ∷ xs) ys up = (all_front (IsBelow row_cmp x) xs ys up.0, front_ascends xs ys up.1)

  -- if a list of rows ascends, so does its second part
  behind_ascends : (xs ys : List (Key × E)) → AreAscending (xs ++ ys) → AreAscending ys
  behind_ascends [] ys up = up
  behind_ascends (x ∷ xs) ys up = behind_ascends xs ys up.1

  -- if the ring buffer's rows are `front` followed by `back`, and as many rows remain to be placed as `back` has, then `back` remains to be placed
  parts : (rows front back : List (Key × E)) (m : ℕ) → rows ≡ front ++ back → m ≡ length back
      → (left_rows m rows ≡ back) × (take (length rows - m) rows ≡ front)
  parts = grind (common_steps, arith, length-append, drop-append_seam, take-append_seam)

module _ {E : Type 0} (picked : E → E → E) where
  -- if the keys of two tables pass a test, so do the keys of their join
  join_each : (test : model.Key → Bool) (a c joined : List (Key × E)) → Each test a → Each test c → IsJoinOfRows picked a c joined → Each test joined
  join_each test a c joined each_a each_c is = each_member _ joined (λ row among. (elim (test (key_meant row.0)) as (λ t. test (key_meant row.0) ≡ t
      → t ≡ true) [
        | true ↦ λ passes. refl
        | false ↦ λ fails.
            let none_a = lacks test a (key_meant row.0) each_a fails in
            let none_c = lacks test c (key_meant row.0) each_c fails in
            absurd (let some = value_of joined row is.ascends among in let joins = is.values (key_meant row.0) in cc)
      ]) refl)

  -- suppose that the keys of the first parts of two tables are below the keys of their second parts. Then the join of the tables is the join of the first
  -- parts, followed by the join of the second parts
  joins_append : (test : model.Key → Bool) → ((x y : model.Key) → test x ≡ true → not (test y) ≡ true → key_cmp x y ≡ Less)
      → (a b c d lower upper : List (Key × E)) → Each test a → Each (λ key. not (test key)) b → Each test c → Each (λ key. not (test key)) d
      → IsJoinOfRows picked a c lower → IsJoinOfRows picked b d upper → IsJoinOfRows picked (a ++ b) (c ++ d) (lower ++ upper)
  joins_append test across a b c d lower upper each_a each_b each_c each_d is_lower is_upper = record {
    ascends = ascending_of row_cmp (lower ++ upper) (later_append (IsBelow row_cmp) lower upper (later_of row_cmp lower is_lower.ascends)
        (later_of row_cmp upper is_upper.ascends) (λ x y in_x in_y.
        across (key_meant x.0) (key_meant y.0) (below_by_recursion _ lower x each_lower in_x) (below_by_recursion _ upper y each_upper in_y)));
    values = λ key. by key (test key) refl;
  }
    where
      each_lower : Each test lower
      each_lower = join_each test a c lower each_a each_c is_lower

      each_upper : Each (λ key. not (test key)) upper
      each_upper = join_each (λ key. not (test key)) b d upper each_b each_d is_upper

      by : (key : model.Key) (t : Bool) → test key ≡ t → value_at (lower ++ upper) key ≡ picked_value picked (value_at (a ++ b) key) (value_at (c ++ d) key)
      by key true is = search (
        rules,
        (value_split test lower upper key true is each_lower each_upper),
        (value_split test a b key true is each_a each_b),
        (value_split test c d key true is each_c each_d),
        is_lower.values,
      )
      by key false is = search (
        rules,
        (value_split test lower upper key false is each_lower each_upper),
        (value_split test a b key false is each_a each_b),
        (value_split test c d key false is each_c each_d),
        is_upper.values,
      )

-- whether a key is below the key of a row
abbrev is_under : {E : Type 0} → Key × E → model.Key → Bool
is_under row key = is_lt (key_cmp key (key_meant row.0))

-- a value that is below another is below any value that isn't below this one
under_first : {K : Type 0} {cmp : K → K → Ordering} (total : IsTotalOrder cmp) (x y k : K) → is_lt (cmp x k) ≡ true → not (is_lt (cmp y k)) ≡ true
    → cmp x y ≡ Less
under_first {K} {cmp} total x y k = grind (common_steps, arith, total.trans, total.antisymm, alike_right total)

module _ {E : Type 0} (picked : E → E → E) where
  -- the join of a table and an empty table is the table
  joins_none : (a : List (Key × E)) → AreAscending a → IsJoinOfRows picked a [] a
  joins_none a up = record { ascends = up; values = search rules }

  -- suppose that all rows of a table are above a row. Then this row, followed by the table, is the join of the table with this row
  joins_row : (r : List (Key × E)) (row : Key × E) → AreAscending r → AllByRecursion (IsBelow row_cmp row) r → IsJoinOfRows picked r (row ∷ []) (row ∷ r)
  joins_row r row up above = record {
    ascends = (above, up);
    values = λ key. by key (λ tied. subst (λ k. value_at r k ≡ None) (exact_key (key_meant row.0) key tied) (keyed.value_above key_meant
        (key_meant row.0) r above));
  }
    where
      by : (key : model.Key) → (key_cmp (key_meant row.0) key ≡ Equal → value_at r key ≡ None)
          → value_at (row ∷ r) key ≡ picked_value picked (value_at r key) (value_at (row ∷ []) key)
      by = search (rules, keyed.value_here, keyed.value_behind)

  -- the join of two rows with the same key, followed by the rows above them, is the join of the table and the second row
  joins_level : (r : List (Key × E)) (own row : Key × E) → row_cmp own row ≡ Equal → AreAscending (own ∷ r)
      → IsJoinOfRows picked (own ∷ r) (row ∷ []) ((own.0, picked own.1 row.1) ∷ r)
  joins_level r own row level up = record { ascends = up; values = search (rules, key_total, keyed.value_here, keyed.value_behind, keyed.value_above) }

  -- Suppose that the rows `a` remain after a row was placed before the rows `r`, and that the row is above the rows `a` and below the rows `r`. Suppose also
  -- that the join of the first table's other rows with this row is the placed row, followed by `r`. Then the placed rows are still right
  placed : (old new p a mid r : List (Key × E)) (left m : ℕ) (row top : Key × E) → left_rows left old ≡ a ++ (mid ++ r) → take (length old - left) old ≡ p
      → m ≡ length a → new ≡ top ∷ (r ++ (p ++ a)) → Each (λ key. not (is_under row key)) mid
      → (AreAscending (a ++ (mid ++ r)) → AllByRecursion (λ x. IsBelow row_cmp x row) a × AllByRecursion (IsBelow row_cmp row) r
      × IsJoinOfRows picked (mid ++ r) (row ∷ []) (top ∷ r)) → IsPlaced picked old left row new m
  placed old new p a mid r left m row top own_is p_is size new_is level step = record {
    ascends = λ up. subst AreAscending (sym now.0) (front_ascends a (mid ++ r) (subst AreAscending own_is up));
    joined = λ up first second rest up_rest before. record {
      joins = λ lower is_lower.
          let ready = step (subst AreAscending own_is up) in
          let whole = joins_append picked (is_under row) (λ x y. under_first key_total x y (key_meant row.0)) a (mid ++ r) rest (row ∷ []) lower (top ∷ r)
          (all_weaker _ _ (λ x below. ap is_lt below) a ready.0)
          (all_append _ mid r level (all_weaker _ _ (λ x below. ap not (not_back row x below)) r ready.1))
          (all_weaker _ _ (λ x below. ap is_lt below) rest (below_next row_cmp rest row [] up_rest))
          (ap (λ o. not (is_lt o)) (tied_itself key_total (key_meant row.0)), tt) (subst (λ xs. IsJoinOfRows picked xs rest lower) now.0 is_lower) ready.2 in
          subst (IsJoinOfRows picked first second)
          (append_assoc lower (top ∷ r) (take (length old - left) old) ∙ ap (λ xs. lower ++ (top ∷ (r ++ xs))) p_is ∙ ap (λ xs. lower ++ xs) (sym now.1))
          (before.joins (lower ++ top ∷ r) (subst (λ xs. IsJoinOfRows picked xs (rest ++ row ∷ []) (lower ++ (top ∷ r))) (sym own_is) whole));
    };
  }
    where
      now : (left_rows m new ≡ a) × (take (length new - m) new ≡ top ∷ (r ++ p))
      now = parts new (top ∷ (r ++ p)) a m (new_is ∙ ap (λ xs. top ∷ xs) (sym (append_assoc r p a))) size

above_is : (o : Ordering) → is_gt o ≡ true → o ≡ Greater
above_is = search rules

below_is : (o : Ordering) → is_gt o ≡ false → is_eq o ≡ false → o ≡ Less
below_is = search rules

-- the lemmas on one step, in which the last `run` rows of the ring buffer are moved to its front and then one more row is placed
module _ {E : Type 0} (picked : E → E → E) (old : List (Key × E)) (n left run later : ℕ) (size : n ≡ length old) (left_in : left ≤ n) (row : Key × E)
    (is_run : IsRunAbove (key_meant row.0) old n left run) (turned_rows : List (Key × E)) (turned_is : turned_rows ≡ drop (n - run) old ++ take (n - run) old)
    (later_is : later ≡ left - run) where
  abbrev own : List (Key × E)
  own = left_rows left old

  abbrev p : List (Key × E)
  p = take (length old - left) old

  abbrev r : List (Key × E)
  r = drop later own

  turned_parts : turned_rows ≡ r ++ (p ++ take later own)
  turned_parts =
      let run_in = is_run.within in
      let at : length old - left + later ≡ n - run = omega arith in
      turned_is ∙ sym (λ i. (drop-drop later (length old - left) old ∙ ap (λ k. drop k old) at) i
      ++ (sym (take-add (length old - left) later old) ∙ ap (λ k. take k old) at) i)

  own_size : length own ≡ left
  own_size = length-drop (length old - left) old ∙ omega arith

  pub one_placed : (new : List (Key × E)) → ((d : Key × E) → 0 < later → is_level_at (key_meant row.0) turned_rows n d ≡ false)
      → new ≡ row ∷ turned_rows → IsPlaced picked old left row new later
  one_placed new other new_is = placed picked old new p (take later own) [] r left later row row (sym (take-append-drop later own)) refl
      (let run_in = is_run.within in let from = own_size in sym (length-take-le later own (omega arith)))
      (new_is ∙ ap (λ xs. row ∷ xs) turned_parts) tt (λ up.
      let run_in = is_run.within in
      let from = own_size in
      let gap = parts_at own (key_meant row.0) later (subst AreAscending (take-append-drop later own) up) (omega arith) before after in
      let above : AllByRecursion (IsBelow row_cmp row) r = recursion_from_All _ r (λ k d within.
      rw get_or-drop (turned row (get_or own (later + k) d) (gap.1 (later + k) d (omega arith) (let rest = length-drop later own in omega arith)))) in (
        recursion_from_All _ (take later own) (search (rules, get_or-take, length-take-le)),
        above,
        joins_row picked r row (behind_ascends
            (take later own) r up) above,
      ))
    where
      turned : (a b : Key × E) → row_cmp b a ≡ Greater → row_cmp a b ≡ Less
      turned a b above = key_total.antisymm (key_meant a.0) (key_meant b.0) ∙ ap ordering_reverse above

      before : (d : Key × E) → 0 < later → by_key (key_meant row.0) (get_or own (later - 1) d) ≡ Less
      before d some =
          let run_in = is_run.within in
          let last : get_or turned_rows (n - 1) d ≡ get_or old (n - (run + 1)) d =
          grind (common_steps, arith, get_or-append_right, get_or-take, length-drop) in
          let at : get_or own (later - 1) d ≡ get_or old (n - (run + 1)) d = search (rules, get_or-drop) in
          below_is _ (ap (λ x. is_gt (row_cmp x row)) at ∙ is_run.below d (omega arith)) (ap (λ x. is_eq (row_cmp x row)) (at ∙ sym last) ∙ other d some)

      after : (d : Key × E) → later < length own → by_key (key_meant row.0) (get_or own later d) ≡ Greater
      after d more =
          let run_in = is_run.within in
          let from = own_size in
          search (rules, above_is, get_or-drop, is_run.above)

  pub level_is_placed : (new taken : List (Key × E)) (top : Key × E) → turned_rows ≡ taken ++ top ∷ [] → row_cmp top row ≡ Equal → 0 < later
      → new ≡ (top.0, picked top.1 row.1) ∷ taken → IsPlaced picked old left row new (later - 1)
  level_is_placed new taken top taken_is level some new_is =
      let run_in = is_run.within in
      let from = own_size in
      let a = take (later - 1) own in
      let split : take later own ≡ a ++ get_or own (later - 1) top ∷ [] =
      ap (λ k. take k own) (let one : later ≡ later - 1 + 1 = omega arith in one) ∙ take_more own (later - 1) top (omega arith) in
      let both = same_from_push taken (r ++ (p ++ a)) top (get_or own (later - 1) top) (sym taken_is ∙ turned_parts ∙ ap (λ xs. r ++ (p ++ xs)) split
      ∙ simp append_assoc) in
      let same = exact_key (key_meant top.0) (key_meant row.0) level in
      placed picked old new p a (top ∷ []) r left (later - 1) row (top.0, picked top.1 row.1)
      (sym (take-append-drop later own) ∙ ap (λ xs. xs ++ r) (split ∙ ap (λ x. a ++ x ∷ []) (sym both.1)) ∙ append_assoc a (top ∷ []) r) refl
      (sym (length-take-le (later - 1) own (omega arith))) (new_is ∙ ap (λ xs. (top.0, picked top.1 row.1) ∷ xs) both.0)
      (ap (λ o. not (is_lt o)) level, tt) (λ up.
      let rises = behind_ascends a (top ∷ r) up in (
        subst (λ k. AllByRecursion (λ x. key_cmp (key_meant x.0) k ≡ Less) a) same (below_next row_cmp a top r up),
        subst (λ k. AllByRecursion (λ x. key_cmp k (key_meant x.0) ≡ Less) r) same rises.0,
        joins_level picked r top row level rises,
      ))

-- when no row of the second table remains, the remaining rows of the first table, followed by the placed rows, are the join
pub all_placed : {E : Type 0} (picked : E → E → E) (first second rows rest turned out : List (Key × E)) (n left : ℕ) → n ≡ length rows → rest ≡ []
    → AreAscending (left_rows left rows) → IsJoinWith picked first second left rows rest → out ≡ turned
    → turned ≡ drop (n - left) rows ++ take (n - left) rows → IsJoinOfRows picked first second out
all_placed = search (rules, joins_none)

-- at first all rows of the first table remain, and no row is placed
pub none_yet : {E : Type 0} (picked : E → E → E) (first second rows : List (Key × E)) (left : ℕ) → rows ≡ first → left ≡ length first
    → (left_rows left rows ≡ first) × IsJoinWith picked first second left rows second
none_yet = search (rules, parts, append-nil)

-- if no row could be popped from the second table, the table has no rows left
pub none_popped : {A : Type 0} (P Q : Type 0) (popped : Option A) (rows : List A) (n : ℕ) → ((x : A) → popped ≡ Some x → ⊥) → n ≡ length rows
    → MatchOption popped ((n ≡ 0) × P) (λ _. Q) → rows ≡ []
none_popped = grind (common_steps, arith)
