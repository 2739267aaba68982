-- Decidable facts. A fact is decidable if there is a proof of the fact or of its negation.
use Rattle.cif_laws.proofs.Common.{◌≡◌, ℕ, suc, ◌<◌, ◌≤◌, List, ◌∷◌, subst, inl, rules, [], ◌⊎◌, Bool, true, nat_le, All, None, Some, inr, refl, ap, ◌∙◌}
use Rattle.cif_laws.proofs.Common.{Option, AllByRecursion, Ordering, Less, Equal, IsTotalOrder, tied_itself, leb_tells, eqb_tells, All-from_recursion}
use Rattle.cif_laws.proofs.Common.{recursion_from_All, Kind}
use Rattle.std.proofs.lemmas.Map.Lookups.{CmpEqualImpliesEq}
use Rattle.std.proofs.lemmas.Option.{none-some}

-- the fact is decidable: there is a proof of the fact or of its negation
abbrev pub Decided : Type 0 → Type 0
Decided P = P ⊎ ¬ P

-- the conjunction of two decidable facts is decidable
pub both_decided : {P Q : Type 0} → Decided P → Decided Q → Decided (P × Q)
both_decided = search rules

-- the disjunction of two decidable facts is decidable
pub either_decided : {P Q : Type 0} → Decided P → Decided Q → Decided (P ⊎ Q)
either_decided = search rules

-- the negation of a decidable fact is decidable
pub not_decided : {P : Type 0} → Decided P → Decided (¬ P)
not_decided = search rules

-- a fact that is equivalent to a decidable fact is decidable
pub decided_along : {P Q : Type 0} → (P → Q) → (Q → P) → Decided P → Decided Q
decided_along = search rules

-- it is decidable whether a test passes
pub bool_decided : (b : Bool) → Decided (b ≡ true)
bool_decided = search rules

-- it is decidable whether two numbers are equal
pub nat_decided : (a b : ℕ) → Decided (a ≡ b)
nat_decided = search (rules, eqb_tells)

-- it is decidable whether a number is at most another
pub le_decided : (a b : ℕ) → Decided (a ≤ b)
le_decided = search (rules, leb_tells, nat_le)

-- it is decidable whether a number is below another
pub lt_decided : (a b : ℕ) → Decided (a < b)
lt_decided a b = le_decided (suc a) b

-- if a property is decidable for each value, it is decidable whether all elements of a list have
-- the property
pub all_decided : {A : Type 0} (P : A → Type 0) → ((x : A) → Decided (P x)) → (xs : List A) → Decided (AllByRecursion P xs)
all_decided P test [] = inl tt
all_decided P test (x ∷ xs) = both_decided (test x) (all_decided P test xs)

-- like `all_decided`, for `All`
pub All_decided : {A : Type 0} (P : A → Type 0) → ((x : A) → Decided (P x)) → (xs : List A) → Decided (All P xs)
All_decided P test xs = decided_along (All-from_recursion P xs) (recursion_from_All P xs) (all_decided P test xs)

-- it is decidable whether the result of a comparison is `Less`
pub less_decided : (o : Ordering) → Decided (o ≡ Less)
less_decided = search rules

-- it is decidable whether the result of a comparison is `Equal`
pub equal_decided : (o : Ordering) → Decided (o ≡ Equal)
equal_decided = search rules

-- in a total order that distinguishes different values, it is decidable whether two values are
-- equal
pub same_decided : {A : Type 0} {cmp : A → A → Ordering} → IsTotalOrder cmp → CmpEqualImpliesEq cmp → (a b : A) → Decided (a ≡ b)
same_decided {A} {cmp} total exact a b = decided_along (exact a b) (λ same. subst (λ x. cmp a x ≡ Equal) same (tied_itself total a)) (equal_decided _)

-- it is decidable whether an option is `None`
pub none_decided : {A : Type 0} (o : Option A) → Decided (o ≡ None)
none_decided = search rules

-- it is decidable whether an option is `Some`
pub some_decided : {A : Type 0} (o : Option A) → Decided ((x : A) × (o ≡ Some x))
some_decided None = inr (λ is. none-some is.0 is.1)
some_decided (Some x) = inl (x, refl)

-- it is decidable whether an option has a value that passes a test
pub passes_decided : {A : Type 0} (o : Option A) (test : A → Bool) → Decided ((x : A) × (o ≡ Some x) × (test x ≡ true))
passes_decided None test = inr (λ is. none-some is.0 is.1)
passes_decided (Some x) test = decided_along (λ h. (x, refl, h)) (λ is. let same : x ≡ is.0 = cc in ap test same ∙ is.2) (bool_decided (test x))

-- it is decidable whether two kinds of record are equal
pub kind_decided : (first second : Option Kind) → Decided (first ≡ second)
kind_decided = search (rules, decided_along, nat_decided)
