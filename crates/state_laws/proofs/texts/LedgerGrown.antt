-- A ledger with a good item appended is still a ledger. An item is good if it is well formed, is
-- above all items of the ledger, and doesn't raise the floor.
use Rattle.cif_laws.proofs.Common.{subst, List, [], ◌∷◌, ◌++◌, refl, sym, inl, inr, arith, All, Contains, Some, None, rules, Option, AllByRecursion}
use Rattle.cif_laws.proofs.Common.{All-from_recursion, recursion_from_All, Contains-append_cases, Contains-append_left, Contains-append_right, IsBelow}
use Rattle.cif_laws.proofs.Common.{IsAtMost, IsStrictlyAscending, LedgerItem, file_stamp_cmp, ledger_item_cmp, FileStamp, IsFloor, IsKept, IsFull, IsGoodItem}
use Rattle.cif_laws.proofs.Common.{IsLedger, IsAboveItems, RaisesFloor}
use Rattle.cif_laws.proofs.orders.Orders.{file_stamp_total}
use Rattle.cif_laws.proofs.lists.Membership.{below_by_recursion, Contains-single as in_single, nil-Contains}
use Rattle.cif_laws.proofs.orders.AtMost.{at_most_itself, at_most_trans, at_most_or}
use Rattle.cif_laws.proofs.lists.AllOf.{all_append, all_weaker}
use Rattle.cif_laws.proofs.lists.Decisions.{nat_decided}
use Rattle.cif_laws.proofs.orders.Ascending.{ascending_last}

-- if one item is below another, its file stamp is at most the other item's file stamp
pub stamps_below : (first second : LedgerItem) → IsBelow ledger_item_cmp first second → IsAtMost file_stamp_cmp first.stamp second.stamp
stamps_below = search rules

-- in this module, `item` is a well-formed item that is above all items of the ledger and doesn't
-- raise the floor
module _ (ledger : List LedgerItem) (item : LedgerItem) (is : IsLedger ledger) (good : IsGoodItem item) (above : IsAboveItems ledger item)
    (floor : ¬ RaisesFloor ledger item) where
  above_each : AllByRecursion (λ earlier. IsBelow ledger_item_cmp earlier item) ledger
  above_each = recursion_from_All (λ earlier. IsBelow ledger_item_cmp earlier item) ledger above

  at_most_last : (other : LedgerItem) → Contains ledger other → IsAtMost file_stamp_cmp other.stamp item.stamp
  at_most_last other among = stamps_below other item (below_by_recursion (λ earlier. IsBelow ledger_item_cmp earlier item) ledger other above_each among)

  each_good : All IsGoodItem (ledger ++ item ∷ [])
  each_good = All-from_recursion IsGoodItem (ledger ++ item ∷ []) (all_append _ _ _ (recursion_from_All IsGoodItem ledger is.each) (good, tt))

  each_ascends : IsStrictlyAscending ledger_item_cmp (ledger ++ item ∷ [])
  each_ascends = ascending_last ledger_item_cmp ledger item is.ascending above_each

  -- if the item isn't for a full extract, appending it leaves the floor unchanged
  same_floor : ¬ IsFull item → (at : Option FileStamp) → IsFloor ledger at → IsFloor (ledger ++ item ∷ []) at
  same_floor other None none = λ it among full. elim (Contains-append_cases ledger (item ∷ []) it among) [
    | inl inside ↦ none it inside full
    | inr last ↦ other (subst IsFull (sym (in_single item it last)) full)
  ]
  same_floor other (Some stamp) greatest = record {
    full = greatest.full;
    among = Contains-append_left ledger (item ∷ []) greatest.full greatest.among;
    is_full = greatest.is_full;
    stamped = greatest.stamped;
    greatest = λ it among full. elim (Contains-append_cases ledger (item ∷ []) it among) [
      | inl inside ↦ greatest.greatest it inside full
      | inr last ↦ absurd (other (subst IsFull (sym (in_single item it last)) full))
    ];
  }

  kept_last : (at : Option FileStamp) → IsFloor ledger at → IsKept at item.stamp
  kept_last = search (rules, at_most_last)

  -- if the item is for a full extract, the floor after the item is appended is the item's file
  -- stamp
  floor_at_last : IsFull item → IsFloor (ledger ++ item ∷ []) (Some item.stamp)
  floor_at_last full = record {
    full = item;
    among = Contains-append_right ledger (item ∷ []) item (0, omega arith, refl);
    is_full = full;
    stamped = refl;
    greatest = λ it among is_full. elim (Contains-append_cases ledger (item ∷ []) it among) [
      | inl inside ↦ at_most_last it inside
      | inr last ↦ subst (λ i. IsAtMost file_stamp_cmp i.stamp item.stamp) (in_single item it last) (at_most_itself file_stamp_total item.stamp)
    ];
  }

kept_each : (ledger : List LedgerItem) (item : LedgerItem) → IsStrictlyAscending ledger_item_cmp ledger → ¬ RaisesFloor ledger item → IsFull item
    → AllByRecursion (λ (it : LedgerItem). IsAtMost file_stamp_cmp item.stamp it.stamp) ledger
kept_each [] item up floor full = tt
kept_each (first ∷ ledger) item up floor full = (
  low,
  all_weaker _ (λ (it : LedgerItem). IsAtMost file_stamp_cmp item.stamp it.stamp)
      (λ it below. at_most_trans file_stamp_total _ first.stamp _ low (stamps_below first _ below)) ledger up.0,
)
  where
    low : IsAtMost file_stamp_cmp item.stamp first.stamp
    low = elim (at_most_or file_stamp_total _ first.stamp) [ inl most ↦ most | inr below ↦ absurd (floor (full, below)) ]

-- a ledger with a good item appended is still a ledger
pub one_item_more : (ledger : List LedgerItem) (item : LedgerItem) → IsLedger ledger → IsGoodItem item → IsAboveItems ledger item → ¬ RaisesFloor ledger item
    → IsLedger (ledger ++ item ∷ [])
one_item_more ledger item is good above floor = elim (nat_decided _ 70) [
  | inl full ↦ record {
    each = each_good ledger item is good above floor;
    ascending = each_ascends ledger item is good above floor;
    floor = Some item.stamp;
    is_floor = floor_at_last ledger item is good above floor full;
    kept = All-from_recursion (λ (it : LedgerItem). IsAtMost file_stamp_cmp item.stamp it.stamp) (ledger ++ item ∷ [])
        (all_append _ ledger _ (kept_each ledger _ is.ascending floor full) (at_most_itself file_stamp_total item.stamp, tt));
  }
  | inr other ↦ record {
    each = each_good ledger item is good above floor;
    ascending = each_ascends ledger item is good above floor;
    floor = is.floor;
    is_floor = same_floor ledger _ is good above floor other is.floor is.is_floor;
    kept = All-from_recursion (λ (it : LedgerItem). IsKept is.floor it.stamp) (ledger ++ item ∷ [])
        (search (rules, all_append, recursion_from_All, kept_last));
  }
]

-- the empty list of items is a ledger
pub no_items : IsLedger []
no_items = record {
  each = All-from_recursion IsGoodItem [] tt;
  ascending = tt;
  floor = None;
  is_floor = λ item among. absurd (nil-Contains item among);
  kept = All-from_recursion (λ (it : LedgerItem). IsKept None it.stamp) [] tt;
}
