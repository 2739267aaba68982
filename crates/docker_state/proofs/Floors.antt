-- The floor of two ledgers together, given the floor of each.
use Rattle.cif_laws.proofs.Common.{List, ◌++◌, sym, ◌∙◌, inl, inr, ◌⊎◌, Contains, rules, on, Contains-append_left, Contains-append_right, Contains-append_cases}
use Rattle.cif_laws.proofs.Common.{IsAtMost, LedgerItem, file_stamp_cmp, IsFull}
use Rattle.docker_model.specs.state.Order.{IsGreater}
use Rattle.docker_model.specs.state.Stamp as stamps
use Rattle.docker_model.specs.state.Stamp.{HasNoFull, IsGreatestFull}
use Rattle.cif_laws.proofs.orders.Orders.{file_stamp_total}
use Rattle.cif_laws.proofs.orders.AtMost.{at_most_trans}

module _ (left right : List LedgerItem) where
  -- if neither ledger has a full extract, the two ledgers together have no full extract
  pub neither_full : HasNoFull left → HasNoFull right → HasNoFull (left ++ right)
  neither_full one other item among full = elim (Contains-append_cases left right item among) [
    | inl here ↦ one item here full
    | inr here ↦ other item here full
  ]

  -- if only the first ledger has a full extract, the floor of both ledgers together is the floor of the first ledger
  pub left_full : (stamp : stamps.FileStamp) → IsGreatestFull left stamp → HasNoFull right → IsGreatestFull (left ++ right) stamp
  left_full stamp one other = record {
    full = one.full;
    among = Contains-append_left left right one.full one.among;
    is_full = one.is_full;
    stamped = one.stamped;
    greatest = λ item among full. elim (Contains-append_cases left right item among) [
      | inl here ↦ one.greatest item here full
      | inr here ↦ absurd (other item here full)
    ];
  }

  -- if only the second ledger has a full extract, the floor of both ledgers together is the floor of the second ledger
  pub right_full : (stamp : stamps.FileStamp) → HasNoFull left → IsGreatestFull right stamp → IsGreatestFull (left ++ right) stamp
  right_full stamp one other = record {
    full = other.full;
    among = Contains-append_right left right other.full other.among;
    is_full = other.is_full;
    stamped = other.stamped;
    greatest = λ item among full. elim (Contains-append_cases left right item among) [
      | inl here ↦ absurd (one item here full)
      | inr here ↦ other.greatest item here full
    ];
  }

  -- if each ledger has a full extract, the floor of both ledgers together is the greater of their floors
  pub both_full : (first second greater : stamps.FileStamp) → IsGreatestFull left first → IsGreatestFull right second
      → IsGreater file_stamp_cmp first second greater
      → IsGreatestFull (left ++ right) greater
  both_full first second greater one other is = elim is.among [
    | inl same ↦ record {
      full = one.full;
      among = Contains-append_left left right one.full one.among;
      is_full = one.is_full;
      stamped = one.stamped ∙ sym same;
      greatest = λ item among full. up item full (Contains-append_cases left right item among);
    }
    | inr same ↦ record {
      full = other.full;
      among = Contains-append_right left right other.full other.among;
      is_full = other.is_full;
      stamped = other.stamped ∙ sym same;
      greatest = λ item among full. up item full (Contains-append_cases left right item among);
    }
  ]
    where
      up : (item : LedgerItem) → IsFull item → Contains left item ⊎ Contains right item → IsAtMost file_stamp_cmp item.stamp greater
      up item full (inl here) = at_most_trans file_stamp_total item.stamp first greater (one.greatest item here full) is.first
      up item full (inr here) = at_most_trans file_stamp_total item.stamp second greater (other.greatest item here full) is.second

-- if `c` is the greater of `a` and `b` by the values of `f`, then `f c` is the greater of `f a` and `f b`
pub greater_meant : {A B : Type 0} (f : A → B) (cmp : _) (a b c : A) → IsGreater (on f cmp) a b c → IsGreater cmp (f a) (f b) (f c)
greater_meant = search rules
