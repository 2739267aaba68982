-- The memory that is enough for the index of some items is also enough for the index of rows that come from these items, one row for each key.
use Rattle.cif_laws.proofs.Common.{◌≡◌, ℕ, ◌+◌, ◌≤◌, List, [], ◌∷◌, ◌++◌, length, refl, ap, sym, ◌∙◌, subst, inl, inr, ◌⊎◌, Contains, None, arith, rules, Less}
use Rattle.cif_laws.proofs.Common.{Equal, on, tied_itself, Vec, length-append, append_assoc, Contains-append_left, Contains-append_right, Contains-append_cases}
use Rattle.cif_laws.proofs.Common.{Key, Op, body_of, key_cmp, IsBelow, AreAscending}
use Rattle.cif_laws.proofs.lists.Membership.{Contains-cons, cons-Contains, cons-Contains-first, nil-Contains, below_by_recursion, Contains-map}
use Rattle.cif_laws.proofs.orders.Orders.{key_total}
use Rattle.state_index.specs.NamedPlaces.{call_places, link_places}
use Rattle.state_index.specs.declared.index.Index.{Index}
use Rattle.state_index.specs.declared.posting.Posting.{Posting}
use Rattle.state_index.specs.Spots.{Places}
use Rattle.state_index.specs.Rooms.{Item, ComeFrom, HasRoomAt, HasRoomFor, items_of, places_in}
use Rattle.state_index.proofs.Positions.{Keyed}
use Rattle.state_index.proofs.RowPlaces.{no_calls, no_links}

-- ---- the places of items

module _ (places : Places) where
  -- the places of two lists of items, one after the other
  pub places_append : (first second : List Item) → places_in places (first ++ second) ≡ places_in places first ++ places_in places second
  places_append [] second = refl
  places_append (item ∷ first) second = grind (arith, append_assoc, (places_append first second))

  -- a place that items name is a place of some item
  pub named_by : (items : List Item) (place : List ℕ) → Contains (places_in places items) place
      → (item : Item) × Contains items item × Contains (places item.0 item.1) place
  named_by [] place among = absurd (nil-Contains place among)
  named_by (item ∷ items) place among = by (named_by items place) (Contains-append_cases (places item.0 item.1) (places_in places items) place among)
    where
      by : (Contains (places_in places items) place → (other : Item) × Contains items other × Contains (places other.0 other.1) place)
          → Contains (places item.0 item.1) place ⊎ Contains (places_in places items) place
          → (other : Item) × Contains (item ∷ items) other × Contains (places other.0 other.1) place
      by rest (inl here) = (item, cons-Contains-first item items, here)
      by rest (inr behind) = let found = rest behind in (found.0, cons-Contains item items found.0 found.1, found.2)

  -- items name each place of each item
  pub names_it : (items : List Item) (item : Item) (place : List ℕ) → Contains items item → Contains (places item.0 item.1) place
      → Contains (places_in places items) place
  names_it [] item place among here = absurd (nil-Contains _ among)
  names_it (first ∷ items) item place among here = by (λ inside. names_it items _ place inside here) (Contains-cons _ items _ among)
    where
      by : (Contains items item → Contains (places_in places items) place) → (first ≡ item) ⊎ Contains items item
          → Contains (places_in places (first ∷ items)) place
      by rest (inl same) = Contains-append_left (places first.0 first.1) (places_in places items) place
          (subst (λ (i : Item). Contains (places i.0 i.1) place) (sym same) here)
      by rest (inr inside) = Contains-append_right (places first.0 first.1) (places_in places items) place (rest inside)

-- ---- counts

-- the sum of a count over items. For example, the count may be the number of an item's places
abbrev total : (Key → Op → ℕ) → List Item → ℕ
total count [] = 0
total count (item ∷ items) = count item.0 item.1 + total count items

places_total : (places : Places) (items : List Item) → length (places_in places items) ≡ total (λ key op. length (places key op)) items
places_total places [] = refl
places_total places (item ∷ items) =
    let rest = places_total places items in
    let both = length-append (places item.0 item.1) (places_in places items) in
    omega arith

total-append : (count : Key → Op → ℕ) (first second : List Item) → total count (first ++ second) ≡ total count first + total count second
total-append count [] second = omega arith
total-append count (item ∷ first) second = let rest = total-append count first second in omega arith

-- a list that has an element is the concatenation of a front, the element and a back
cut_at : (items : List Item) (item : Item) → Contains items item → (front : List Item) × (back : List Item) × (items ≡ front ++ (item ∷ back))
cut_at [] item among = absurd (nil-Contains item among)
cut_at (first ∷ items) item among = by (cut_at items item) (Contains-cons first items item among)
  where
    by : (Contains items item → (front : List Item) × (back : List Item) × (items ≡ front ++ (item ∷ back))) → (first ≡ item) ⊎ Contains items item
        → (front : List Item) × (back : List Item) × (first ∷ items ≡ front ++ (item ∷ back))
    by rest (inl same) = ([], items, (λ i. same i ∷ items))
    by rest (inr inside) = let found = rest inside in (first ∷ found.0, found.1, (λ i. first ∷ found.2 i))

-- Says that some item has the row's key and at least the row's count.
abbrev IsCovered : (Key → Op → ℕ) → List Item → Keyed → Type 0
IsCovered count items row = (op : Op) × Contains {X = Item} items (row.0, op) × (count row.0 row.1.op ≤ count row.0 op)

-- suppose that no two rows have the same key, and that for each row some item has its key and at least its count. Then the total of the count over the rows is
-- at most its total over the items
fewer : (count : Key → Op → ℕ) (rows : List Keyed) → AreAscending rows → (items : List Item)
    → ((row : Keyed) → Contains rows row → IsCovered count items row) → total count (items_of rows) ≤ total count items
fewer count [] up items covered = omega arith
fewer count (row ∷ rows) up items covered =
    by (fewer count rows up.1) (cut_at items (row.0, (covered row (cons-Contains-first row rows)).0) (covered row (cons-Contains-first row rows)).1)
  where
    op : Op
    op = (covered row (cons-Contains-first row rows)).0

    other_key : (next : Keyed) → Contains rows next → ¬ (row.0 ≡ next.0)
    other_key next inside same =
        let below : key_cmp row.0 next.0 ≡ Less = below_by_recursion (IsBelow (on (λ (r : Keyed). r.0) key_cmp) row) rows next up.0 inside in
        let level : key_cmp row.0 next.0 ≡ Equal = sym (ap (key_cmp row.0) same) ∙ tied_itself key_total row.0 in
        let bad : Less ≡ Equal = sym below ∙ level in cc

    by : ((others : List Item) → ((next : Keyed) → Contains rows next → IsCovered count others next) → total count (items_of rows) ≤ total count others)
        → (front : List Item) × (back : List Item) × (items ≡ front ++ ((row.0, op) ∷ back)) → total count (items_of (row ∷ rows)) ≤ total count items
    by rest (front, back, whole) =
        let without = rest (front ++ back) there in
        let both = total-append count front back in
        let all = total-append count front ((row.0, op) ∷ back) in
        let same : total count items ≡ total count (front ++ ((row.0, op) ∷ back)) = ap (total count) whole in
        let few : count row.0 row.1.op ≤ count row.0 op = (covered row (cons-Contains-first row rows)).2 in
        omega arith
      where
        cases : (next : Keyed) → Contains rows next → (o : Op) → (◌≡◌ {A = Item} (row.0, op) (next.0, o)) ⊎ Contains {X = Item} back (next.0, o)
            → Contains {X = Item} (front ++ back) (next.0, o)
        cases next inside o (inl same) = absurd (other_key next inside (ap (λ (p : Item). p.0) same))
        cases next inside o (inr behind) = Contains-append_right front back (next.0, o) behind

        place : (next : Keyed) → Contains rows next → (o : Op) → Contains {X = Item} front (next.0, o) ⊎ Contains {X = Item} ((row.0, op) ∷ back) (next.0, o)
            → Contains {X = Item} (front ++ back) (next.0, o)
        place next inside o (inl before) = Contains-append_left front back (next.0, o) before
        place next inside o (inr behind) = cases next inside o (Contains-cons (row.0, op) back (next.0, o) behind)

        there : (next : Keyed) → Contains rows next → IsCovered count (front ++ back) next
        there next inside =
            let covers = covered next (cons-Contains row rows next inside) in (
              covers.0,
              place next inside covers.0 (Contains-append_cases front ((row.0, op) ∷ back) (next.0, covers.0)
                  (subst (λ (zs : List Item). Contains {X = Item} zs (next.0, covers.0)) whole covers.1)),
              covers.2,
            )

-- ---- links

-- the association in a row has at most one place
few_links : (key : Key) (op : Op) → length (link_places key op) ≤ 1
few_links = search rules

-- there are at most as many places of associations as items
pub links_few : (items : List Item) → length (places_in link_places items) ≤ length items
links_few [] = omega arith
links_few (item ∷ items) =
    let one = few_links item.0 item.1 in
    let rest = links_few items in
    let both = length-append (link_places item.0 item.1) (places_in link_places items) in
    omega arith

-- ---- rows that come from items

ones : (items : List Item) → total (λ key op. 1) items ≡ length items
ones [] = refl
ones (item ∷ items) = let rest = ones items in omega arith

few_rows : (items : List Item) (rows : List Keyed) → AreAscending rows → ComeFrom items rows → length (items_of rows) ≤ length items
few_rows items rows up come =
    let few = fewer (λ key op. 1) rows up items (λ row among. let from = come row among in (from.0, from.1, (omega arith))) in
    let one = ones (items_of rows) in
    let two = ones items in
    omega arith

module _ (places : Places) (none : (key : Key) (op : Op) → body_of op ≡ None → places key op ≡ []) (items : List Item) (rows : List Keyed)
    (up : AreAscending rows) (come : ComeFrom items rows) where
  few_places : (row : Keyed) (op : Op) → (row.1.op ≡ op) ⊎ (body_of row.1.op ≡ None) → length (places row.0 row.1.op) ≤ length (places row.0 op)
  few_places = search rules

  its_place : (row : Keyed) (op : Op) (place : List ℕ) → (row.1.op ≡ op) ⊎ (body_of row.1.op ≡ None) → Contains (places row.0 row.1.op) place
      → Contains (places row.0 op) place
  its_place = search (rules, nil-Contains)

  room_at : (names : List (List ℕ)) (postings : Vec Posting) → HasRoomAt places items names postings → HasRoomAt places (items_of rows) names postings
  room_at names postings room = record {
    all = λ place among.
        let found = named_by places (items_of rows) place among in
        let row = Contains-map {B = Item} (λ (r : Keyed). (r.0, r.1.op)) rows found.0 found.1 in
        let from = come row.0 row.1 in
        room.all place (names_it places items (row.0.0, from.0) place from.1
        (its_place row.0 from.0 place from.2
        (subst (λ (i : Item). Contains (places i.0 i.1) place) (sym row.2) found.2)));
    room = (
        let few = fewer (λ key op. length (places key op)) rows up items
        (λ row among. let from = come row among in (from.0, from.1, few_places row from.0 from.2)) in
        let one = places_total places (items_of rows) in
        let two = places_total places items in
        let all = room.room in
        omega arith
        );
  }

-- memory that is enough for the items is enough for rows that come from the items
pub room_for : (items : List Item) (rows : List Keyed) → AreAscending rows → ComeFrom items rows → (index : Index) → HasRoomFor items index
    → HasRoomFor (items_of rows) index
room_for items rows up come index room = record {
  named = room.named;
  few_places = room.few_places;
  few_rows = (let few = few_rows items rows up come in let all = room.few_rows in omega arith);
  calls = room_at call_places no_calls items rows up come index.places.items index.calls room.calls;
  links = room_at link_places no_links items rows up come index.places.items index.links room.links;
}
