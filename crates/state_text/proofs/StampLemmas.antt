-- Lemmas on how stamps are judged, by searching a ledger.
use Rattle.cif_laws.proofs.Common.{◌≡◌, ℕ, ◌+◌, ◌<◌, List, [], ◌∷◌, length, get_or, map, refl, ap, ◌∙◌, subst, inl, inr, arith, true, false, Contains, rules}
use Rattle.cif_laws.proofs.Common.{IsTrue, ◌↔◌, IsNonDecreasingBy, IsPartitionPoint, ordering_index, is_lt, tied_itself, Ordering, Less, Equal, Greater}
use Rattle.cif_laws.proofs.Common.{cases_lt, searchable_from_sorted, last_day, FileStamp, Stamp, LedgerItem, file_stamp_cmp, ledger_item_cmp, IsAtMost}
use Rattle.cif_laws.proofs.Common.{IsGoodItem, IsLedger, IsStampIn}
use Rattle.std.proofs.lemmas.List.Elements.{Contains-get_or}
use Rattle.cif_laws.proofs.orders.Ascending.{later_of}
use Rattle.cif_laws.proofs.orders.Orders.{file_stamp_total, exact_file_stamp}
use Rattle.cif_laws.proofs.lists.Later.{pairs_from_later}
use Rattle.cif_laws.proofs.lists.Membership.{Contains-map, map-Contains}
use Rattle.docker_join.proofs.MeantOrder.{meant_ascending}
use Rattle.state_laws.proofs.texts.LedgerGrown.{stamps_below}
use Rattle.state_text.specs.PartsSoFar.{file_stamps}

-- compares an item's stamp with a file's stamp
abbrev pub stamp_order : {A : Type 0} → (A → LedgerItem) → FileStamp → A → Ordering
stamp_order item file x = file_stamp_cmp (item x).stamp file

not_less : (a b : FileStamp) → IsAtMost file_stamp_cmp a b → is_lt (file_stamp_cmp b a) ≡ false
not_less = search (rules, file_stamp_total)

-- the comparison of a ledger's stamps with a given stamp is non-decreasing along the ledger
pub stamps_rise : {A : Type 0} (item : A → LedgerItem) (items : List A) (file : FileStamp) → IsLedger (map item items)
    → IsNonDecreasingBy (λ x. ordering_index (stamp_order item file x)) items
stamps_rise item items file is = searchable_from_sorted file_stamp_total (λ x. (item x).stamp) items file (λ k d low below.
    not_less (item (get_or items k d)).stamp (item (get_or items (k + 1) d)).stamp (stamps_below (item (get_or items k d)) _ (pairs_from_later _ items
    (later_of _ items (meant_ascending item ledger_item_cmp items is.ascending)) k (k + 1) d (omega arith) below)))

-- if an item's stamp equals a file's stamp, the ledger contains this stamp
pub file_found : {A : Type 0} (item : A → LedgerItem) (items : List A) (file : FileStamp) (at : ℕ) → at < length items
    → ((d : A) → stamp_order item file (get_or items at d) ≡ Equal) → IsTrue true ↔ Contains (file_stamps (map item items)) file
file_found {A} item [] file at within tied = absurd (let none : at < length {A = A} [] = within in omega arith)
file_found item (x ∷ items) file at within tied = (
  λ yes. subst (Contains (file_stamps (map item (x ∷ items)))) (exact_file_stamp _ file (tied x)) (map-Contains (λ (it : LedgerItem). it.stamp)
      (map item (x ∷ items)) _ (map-Contains item (x ∷ items) _ (Contains-get_or (x ∷ items) at x within))),
  λ among. refl,
)

-- if the search finds nothing, no item has the file's stamp
pub file_missing : {A : Type 0} (item : A → LedgerItem) (items : List A) (file : FileStamp) (at : ℕ)
    → IsPartitionPoint (λ x. stamp_order item file x ≡ Less) (λ x. stamp_order item file x ≡ Greater) items at
    → IsTrue false ↔ Contains (file_stamps (map item items)) file
file_missing item items file at parts = (
  (λ yes. absurd (let no : false ≡ true = yes in cc)),
  (λ among.
      let found = Contains-map (λ (it : LedgerItem). it.stamp) (map item items) file among in
      let there = Contains-map item items found.0 found.1 in
      let x = there.0 in
      let k = there.1.0 in
      let tied : stamp_order item file (get_or items k x) ≡ Equal = ap (stamp_order item file) there.1.2
      ∙ ap (λ (it : LedgerItem). file_stamp_cmp it.stamp file) there.2 ∙ ap (λ s. file_stamp_cmp s file) found.2 ∙ tied_itself file_stamp_total file in
      absurd (elim (cases_lt k at) [
        | inl before ↦ let below = parts.0 k x (omega arith) before in cc
        | inr after ↦ let above = parts.1 k x after there.1.1 in cc
      ])),
)

-- no file in a ledger has a stamp whose day is after the last day, 31 December 2059
pub day_too_late : (ledger : List LedgerItem) (stamp : Stamp) → IsLedger ledger → last_day < stamp.file.moment.day → ¬ IsStampIn ledger stamp
day_too_late ledger stamp is late in_it =
    let found = Contains-map (λ (it : LedgerItem). it.stamp) ledger stamp.file in_it.in_ledger in
    let good : IsGoodItem found.0 = subst IsGoodItem found.1.2 (is.each found.1.0 found.0 found.1.1) in
    let day = good.day in
    let same = ap (λ (s : FileStamp). s.moment.day) found.2 in
    omega arith
