-- A live table has at most one index of calls and at most one index of associations. It has at most
-- one list of rows for the schedules that call at a place, for the associations at a place, and for
-- the schedules of a UID.
use Rattle.cif_laws.proofs.Common.{◌≡◌, List, ℕ, map, sym, ◌∙◌, Contains, refl, subst, ◌∷◌, ap, Some, [], ◌↔◌, filter, bytes_eq, AllByRecursion, Ordering, Less}
use Rattle.cif_laws.proofs.Common.{Equal, on, ordering_then, IsTotalOrder, then_total, on_total, tied_itself, nat_list_cmp_total, bytes_eq-Decides, Key}
use Rattle.cif_laws.proofs.Common.{association_key, schedule_key, Body, association_body, schedule_body, bytes_cmp, IsBelow, IsStrictlyAscending, key_cmp}
use Rattle.cif_laws.proofs.Common.{Table, Row, AreInKeyOrder}
use Rattle.state_laws.specs.Index.{IsCalling, IsLinked, CallingRow, calling_cmp, LinkedRow, linked_cmp, IsCallingIndex}
use Rattle.state_laws.specs.Index.{IsLinkedIndex, AreCalling, AreLinked, AreOfUid, calling_keys, linked_keys}
use Rattle.cif_laws.proofs.orders.Ascending.{same_list, ascending_of, later_of}
use Rattle.cif_laws.proofs.orders.Orders.{schedule_key_total, association_key_total, key_total}
use Rattle.cif_laws.proofs.lists.Membership.{Contains-map, map-Contains}
use Rattle.cif_laws.proofs.lists.FilteredMembers.{filter_back, filter_forth}
use Rattle.cif_laws.proofs.lists.Later.{AllLater, later_weaker, later_filter, later_map}

-- the order of the index of calls is total
pub calling_total : IsTotalOrder calling_cmp
calling_total = then_total (on_total (λ (r : CallingRow). r.0) nat_list_cmp_total) (on_total (λ (r : CallingRow). r.1) schedule_key_total)

-- the order of the index of associations is total
pub linked_total : IsTotalOrder linked_cmp
linked_total = then_total (on_total (λ (r : LinkedRow). r.0) nat_list_cmp_total) (on_total (λ (r : LinkedRow). r.1) association_key_total)

rows_total : IsTotalOrder (on (λ (row : Row). row.0) key_cmp)
rows_total = on_total (λ (row : Row). row.0) key_total

through : {P Q R : Type 0} → (P ↔ Q) → (R ↔ Q) → (P ↔ R)
through one two = (λ p. two.1 (one.0 p), λ r. one.1 (two.0 r))

-- a table has at most one index of calls
pub one_calling_index : (live : Table) (a b : List CallingRow) → IsCallingIndex live a → IsCallingIndex live b → a ≡ b
one_calling_index live a b one two =
    same_list calling_total a b one.ascending two.ascending (λ row. through (one.members row.0 row.1) (two.members row.0 row.1))

-- a table has at most one index of associations
pub one_linked_index : (live : Table) (a b : List LinkedRow) → IsLinkedIndex live a → IsLinkedIndex live b → a ≡ b
one_linked_index live a b one two = same_list linked_total a b one.ascending two.ascending (λ row. through (one.members row.0 row.1) (two.members row.0 row.1))

-- for each place, the list of rows for the schedules that call at the place is unique
pub one_calling : (live : Table) (place : List ℕ) (a b : List Row) → AreCalling live place a → AreCalling live place b → a ≡ b
one_calling live place a b one two = same_list rows_total a b one.ascending two.ascending (λ row. through (one.members row.0 row.1) (two.members row.0 row.1))

-- for each place, the list of rows for its associations is unique
pub one_linked : (live : Table) (place : List ℕ) (a b : List Row) → AreLinked live place a → AreLinked live place b → a ≡ b
one_linked live place a b one two = same_list rows_total a b one.ascending two.ascending (λ row. through (one.members row.0 row.1) (two.members row.0 row.1))

-- for each UID, the list of rows for its schedules is unique
pub one_of_uid : (live : Table) (uid : List ℕ) (a b : List Row) → AreOfUid live uid a → AreOfUid live uid b → a ≡ b
one_of_uid live uid a b one two = same_list rows_total a b one.ascending two.ascending (λ row. through (one.members row.0 row.1) (two.members row.0 row.1))

-- ---- an index determines the rows for a place

-- the keys in the index rows for one place are strictly ascending
at_place_ascends : {K : Type 0} (cmp : K → K → Ordering) (wrap : K → Key) → ((a b : K) → cmp a b ≡ Less → key_cmp (wrap a) (wrap b) ≡ Less)
    → (place : List ℕ) (index : List (List ℕ × K))
    → AllLater (λ (a b : List ℕ × K). ordering_then (bytes_cmp a.0 b.0) (cmp a.1 b.1) ≡ Less) index
    → IsStrictlyAscending key_cmp (map (λ (r : List ℕ × K). wrap r.1) (filter (λ (r : List ℕ × K). bytes_eq r.0 place) index))
at_place_ascends {K} cmp wrap to place index up = ascending_of _ (map (λ (r : List ℕ × K). wrap r.1) (filter (λ (r : List ℕ × K). bytes_eq r.0 place) index))
    (later_map _ (λ (r : List ℕ × K). wrap r.1) _ (later_weaker (λ (a b : List ℕ × K). ordering_then (bytes_cmp a.0 b.0) (cmp a.1 b.1) ≡ Less) _
    (filter (λ (r : List ℕ × K). bytes_eq r.0 place) index) (λ a b in_a in_b below. to a.1 b.1 (behind a b in_a in_b below))
    (later_filter _ (λ r. bytes_eq r.0 place) _ up)))
  where
    behind : (a b : List ℕ × K) → Contains (filter (λ (r : List ℕ × K). bytes_eq r.0 place) index) a
        → Contains (filter (λ (r : List ℕ × K). bytes_eq r.0 place) index) b → ordering_then (bytes_cmp a.0 b.0) (cmp a.1 b.1) ≡ Less → cmp a.1 b.1 ≡ Less
    behind a b in_a in_b below =
        let one : a.0 ≡ place = (bytes_eq-Decides a.0 place).0 (filter_back (λ (r : List ℕ × K). bytes_eq r.0 place) _ a in_a).1 in
        let two : b.0 ≡ place = (bytes_eq-Decides b.0 place).0 (filter_back _ index _ in_b).1 in
        let level : bytes_cmp a.0 b.0 ≡ Equal = (λ i. bytes_cmp (one i) (two i)) ∙ tied_itself nat_list_cmp_total place in
        sym (λ i. ordering_then (level i) (cmp a.1 b.1)) ∙ below

-- a key is among the keys that an index lists for a place if and only if the index has a row with
-- this place and this key
found_at : {K : Type 0} (wrap : K → Key) (place : List ℕ) (index : List (List ℕ × K)) (key : Key)
    → Contains (map (λ (r : List ℕ × K). wrap r.1) (filter (λ (r : List ℕ × K). bytes_eq r.0 place) index)) key
    ↔ ((k : K) × Contains index (place, k) × (wrap k ≡ key))
found_at {K} wrap place index key = (
  λ among.
      let found = Contains-map _ _ _ among in
      let passed = filter_back _ _ _ found.1 in
      let here : found.0.0 ≡ place = (bytes_eq-Decides found.0.0 place).0 passed.1 in
      (found.0.1, subst (Contains index) (λ i. (here i, found.0.1)) passed.0, found.2),
  λ made. subst (Contains (map (λ (r : List ℕ × K). wrap r.1) (filter (λ (r : List ℕ × K). bytes_eq r.0 place) index))) made.2 (map-Contains _ _ _
      (filter_forth _ _ _ made.1 ((bytes_eq-Decides place place).1 refl))),
)

order_of_keys : (rows : List Row) → IsStrictlyAscending key_cmp (map (λ (row : Row). row.0) rows) → AreInKeyOrder rows
order_of_keys [] up = tt
order_of_keys (row ∷ rows) up = (above rows up.0, order_of_keys rows up.1)
  where
    above : (others : List Row) → AllByRecursion (IsBelow key_cmp row.0) (map (λ (r : Row). r.0) others)
        → AllByRecursion (IsBelow (on (λ (r : Row). r.0) key_cmp) row) others
    above [] all = tt
    above (other ∷ others) all = (all.0, above others all.1)

module _ (live : Table) (place : List ℕ) where
  -- suppose that live rows have the keys that an index lists for a place. Then the index determines
  -- which rows they are
  by_index : {K V : Type 0} (wrap : K → Key) (put : V → Body) (Made : K → V → Type 0) (index : List (List ℕ × K)) (rows : List Row)
      → ((k : K) → Contains index (place, k) ↔ ((v : V) × Made k v)) → ((k : K) (v : V) → Made k v → live (wrap k) ≡ Some (put v))
      → map (λ (row : Row). row.0) rows ≡ map (λ (r : List ℕ × K). wrap r.1) (filter (λ (r : List ℕ × K). bytes_eq r.0 place) index)
      → ((key : Key) (body : Body) → Contains rows (key, body) → live key ≡ Some body) → (key : Key) (body : Body)
      → Contains rows (key, body) ↔ ((k : K) × (v : V) × (key ≡ wrap k) × (body ≡ put v) × Made k v)
  by_index wrap put Made index rows members lives keys each key body = (
    λ among.
        let found = (found_at wrap place index key).0 (subst (λ ks. Contains ks key) keys (map-Contains _ _ _ among)) in
        let made = (members found.0).0 found.1 in
        let body_is : Some body ≡ Some (put made.0) = sym (each key body among) ∙ ap live (sym found.2) ∙ lives found.0 made.0 made.1 in
        (found.0, made.0, sym found.2, (let e : body ≡ put made.0 = cc in e), made.1),
    λ told.
        let in_index : Contains index (place, told.0) = (members told.0).1 (told.1, told.4) in
        let in_keys : Contains (map (λ (row : Row). row.0) rows) (wrap told.0) = subst (λ ks. Contains ks (wrap told.0)) (sym keys)
        ((found_at wrap place index (wrap told.0)).1 (told.0, in_index, refl)) in
        let row = Contains-map _ _ _ in_keys in
        let body_is : Some row.0.1 ≡ Some (put told.1) = sym (each row.0.0 row.0.1 row.1) ∙ ap live row.2 ∙ lives told.0 told.1 told.4 in
        let same : row.0.1 ≡ body = (let e : row.0.1 ≡ put told.1 = cc in e) ∙ sym told.3 in
        subst (Contains rows) (λ i. ((row.2 ∙ sym told.2) i, same i)) row.1,
  )

  -- if live rows have the keys that the index of calls lists for a place, they are the rows of the
  -- schedules that call at the place
  pub calling_by_index : (index : List CallingRow) (rows : List Row) → IsCallingIndex live index → map (λ (row : Row). row.0) rows ≡ calling_keys index place
      → ((key : Key) (body : Body) → Contains rows (key, body) → live key ≡ Some body) → AreCalling live place rows
  calling_by_index index rows is keys each = record {
    ascending = order_of_keys _ (subst (IsStrictlyAscending key_cmp) (sym keys) (at_place_ascends _ _ (λ a b below. below) _ _ (later_of _ _ is.ascending)));
    members = by_index schedule_key schedule_body (IsCalling live place) index rows (is.members place) (λ k v made. made.is_live) keys each;
  }

  -- if live rows have the keys that the index of associations lists for a place, they are the rows
  -- of the associations at the place
  pub linked_by_index : (index : List LinkedRow) (rows : List Row) → IsLinkedIndex live index → map (λ (row : Row). row.0) rows ≡ linked_keys index place
      → ((key : Key) (body : Body) → Contains rows (key, body) → live key ≡ Some body) → AreLinked live place rows
  linked_by_index index rows is keys each = record {
    ascending = order_of_keys _ (subst (IsStrictlyAscending key_cmp) (sym keys) (at_place_ascends _ _ (λ a b below. below) _ _ (later_of _ _ is.ascending)));
    members = by_index association_key association_body (IsLinked live place) index rows (is.members place) (λ k v made. made.is_live) keys each;
  }
