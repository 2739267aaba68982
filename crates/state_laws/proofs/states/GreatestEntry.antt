-- The greatest entry for a key in a list. Each key that has an entry has a greatest entry.
use Rattle.cif_laws.proofs.Common.{List, Contains, ◌≡◌, ◌∷◌, subst, inl, inr, ◌⊎◌, ap, refl, true, false, rules, [], is_eq, Key, IsAtMost, Entry, entry_cmp}
use Rattle.cif_laws.proofs.Common.{key_cmp}
use Rattle.cif_laws.proofs.orders.Orders.{entry_total, same_key, other_key}
use Rattle.cif_laws.proofs.lists.Membership.{Contains-cons, cons-Contains, cons-Contains-first, nil-Contains}
use Rattle.cif_laws.proofs.orders.AtMost.{at_most_trans, at_most_or, at_most_below, at_most_itself}
use Rattle.state_laws.proofs.states.PlainTable.{Keyed}

-- ---- each key that has an entry has a greatest entry

-- no entry in the list has the key
abbrev pub NoEntry : List Keyed → Key → Type 0
NoEntry entries key = (entry : Entry) → ¬ Contains entries (key, entry)

-- the list has a greatest entry for the key
abbrev pub GreatestEntry : List Keyed → Key → Type 0
GreatestEntry entries key = (entry : Entry) × Contains entries (key, entry) × ((other : Entry) → Contains entries (key, other) → IsAtMost entry_cmp other entry)

-- an entry is the greatest for a key if it is at least the first entry and all other entries
greatest_of : (first : Keyed) (entries : List Keyed) (key : Key) (best : Entry) → Contains (first ∷ entries) (key, best) → IsAtMost entry_cmp first.1 best
    → ((other : Entry) → Contains entries (key, other) → IsAtMost entry_cmp other best) → GreatestEntry (first ∷ entries) key
greatest_of first entries key best there top others = (
  best,
  there,
  λ other among. elim (Contains-cons first entries (key, other) among) [
    | inl e ↦ subst (λ v. IsAtMost entry_cmp v best) (ap (λ (pair : Keyed). pair.1) e) top
    | inr inside ↦ others other inside
  ],
)

-- a list whose first entry has the key has a greatest entry for the key
greater_of : (first : Keyed) (entries : List Keyed) (key : Key) → first.0 ≡ key → NoEntry entries key ⊎ GreatestEntry entries key
    → GreatestEntry (first ∷ entries) key
greater_of first entries key same (inl none) = greatest_of first entries key first.1
    (subst (Contains (first ∷ entries)) (λ i. (same i, first.1)) (cons-Contains-first first entries)) (at_most_itself entry_total first.1)
    (λ other inside. absurd (none other inside))
greater_of first entries key same (inr best) = elim (at_most_or entry_total _ best.0) [
  | inl low ↦ greatest_of first entries key best.0 (cons-Contains _ entries _ best.1) low best.2
  | inr high ↦ greatest_of first entries key first.1 (subst (Contains (first ∷ entries)) (λ i. (same i, first.1)) (cons-Contains-first first entries))
      (at_most_itself entry_total first.1)
      (λ other inside. at_most_trans entry_total _ best.0 _ (best.2 other inside) (at_most_below entry_cmp _ first.1 high))
]

still : (first : Keyed) (entries : List Keyed) (key : Key) → ¬ (first.0 ≡ key) → NoEntry entries key ⊎ GreatestEntry entries key → NoEntry (first ∷ entries) key
    ⊎ GreatestEntry (first ∷ entries) key
still first entries key apart (inl none) = inl (λ entry among. elim (Contains-cons _ _ _ among) [
  | inl e ↦ apart (ap (λ (pair : Keyed). pair.0) e)
  | inr inside ↦ none entry inside
])
still first entries key apart (inr best) = inr (best.0, cons-Contains _ _ _ best.1, search rules)

-- a list has no entry for a key, or has a greatest entry for the key
pub greatest_in : (entries : List Keyed) (key : Key) → NoEntry entries key ⊎ GreatestEntry entries key
greatest_in [] key = inl (λ entry among. nil-Contains (key, entry) among)
greatest_in (first ∷ entries) key =
    (elim (is_eq (key_cmp first.0 key)) as (λ b. is_eq (key_cmp first.0 key) ≡ b → NoEntry (first ∷ entries) key ⊎ GreatestEntry (first ∷ entries) key) [
      | true ↦ λ h. inr (greater_of first entries key (same_key first.0 key h) (greatest_in entries key))
      | false ↦ λ h. still first entries key (other_key first.0 key h) (greatest_in entries key)
    ]) refl
