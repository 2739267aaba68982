-- Lemmas on the search that finds out whether a ledger has all items of a list, apart from the
-- items below the floor.
use Rattle.cif_laws.proofs.Common.{◌≡◌, ◌+◌, ℕ, ◌<◌, ◌≤◌, List, map, Bool, true, length, get_or, subst, arith, rules, Option, ◌↔◌, IsTrue, AllWithin}
use Rattle.cif_laws.proofs.Common.{get_or_default, FileStamp, LedgerItem}
use Rattle.cif_laws.proofs.lists.Membership.{Contains-map}
use Rattle.docker_state.specs.Staging.{HasIfKept, HasKeptItems}

-- the lemmas for looking up each item of a list in the ledger
module _ {A : Type 0} (f : A → LedgerItem) (ledger : List LedgerItem) (floor : Option FileStamp) (items : List A) where
  -- once the search has passed the last item of the list, the ledger has each item of the list that isn't below the floor
  pub has_all : (at : ℕ) → length items ≤ at → AllWithin (λ item. HasIfKept ledger (f item) floor) items 0 at → HasKeptItems ledger (map f items) floor
  has_all at whole each item among kept =
      let found = Contains-map f items item among in
      let here : HasIfKept ledger (f found.0) floor =
      subst (λ (v : A). HasIfKept ledger (f v) floor) found.1.2 (each found.1.0 found.0 (omega arith) (let within = found.1.1 in omega arith)) in
      subst (λ (v : LedgerItem). HasIfKept ledger v floor) found.2 here kept

  -- suppose that the ledger has each of the first n items of the list that isn't below the floor. Suppose too that it has the next item, unless this item is
  -- below the floor. Then the ledger has each of the first n + 1 items that isn't below the floor
  pub one_more_has : (at : ℕ) (item : A) → at < length items → item ≡ get_or items at item → (b : Bool) → IsTrue b ↔ HasIfKept ledger (f item) floor → b ≡ true
      → AllWithin (λ v. HasIfKept ledger (f v) floor) items 0 at → AllWithin (λ v. HasIfKept ledger (f v) floor) items 0 (at + 1)
  one_more_has = search (rules, get_or_default)
