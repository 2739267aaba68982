-- The best element of a list can be computed element by element. Of the elements that pass a test,
-- the best element is the one that comes first in an order.
use Rattle.cif_laws.proofs.Common.{◌≡◌, List, [], ◌∷◌, ◌++◌, refl, sym, ◌∙◌, subst, inl, inr, Some, None, Bool, true, false, cond, common_steps, arith, Option}
use Rattle.cif_laws.proofs.Common.{Ordering, Less, Equal, Greater, is_lt, IsTotalOrder, Contains-append_right, Contains-append_cases, IsAtMost}
use Rattle.docker_laws.specs.Best.{IsBest, better, with_one_more}
use Rattle.cif_laws.proofs.lists.Membership.{nil-Contains, Contains-single, single-Contains}
use Rattle.cif_laws.proofs.orders.AtMost.{at_most_trans, at_most_itself, at_most_below}

module _ {A : Type 0} {cmp : A → A → Ordering} (total : IsTotalOrder cmp) (test : A → Bool) where
  -- the empty list has no best element
  pub best_of_none : IsBest cmp test [] None
  best_of_none = λ z among. absurd (nil-Contains z among)

  -- appending an element that fails the test leaves the best element unchanged
  fails : (xs : List A) (x : A) (found : Option A) → test x ≡ false → IsBest cmp test xs found → IsBest cmp test (xs ++ x ∷ []) found
  fails = grind (common_steps, arith)

  -- if a list has no best element, an appended element that passes the test is the best element
  first_one : (xs : List A) (x : A) → test x ≡ true → IsBest cmp test xs None → IsBest cmp test (xs ++ x ∷ []) (Some x)
  first_one xs x h none = (
    Contains-append_right xs (x ∷ []) x (single-Contains x x refl),
    h,
    λ z among passes. elim (Contains-append_cases xs (x ∷ []) z among) [
      | inl here ↦ absurd (let bad : true ≡ false = sym passes ∙ none z here in cc)
      | inr last ↦ subst (IsAtMost cmp x) (Contains-single x z last) (at_most_itself total x)
    ],
  )

  -- an appended element that passes the test and comes before the best element is the new best
  -- element
  comes_before : (xs : List A) (x b : A) → test x ≡ true → cmp x b ≡ Less → IsBest cmp test xs (Some b) → IsBest cmp test (xs ++ x ∷ []) (Some x)
  comes_before xs x b h below best = (
    Contains-append_right xs (x ∷ []) x (single-Contains x x refl),
    h,
    λ z among passes. elim (Contains-append_cases xs (x ∷ []) z among) [
      | inl here ↦ at_most_trans total x b z (at_most_below cmp x b below) (best.2 z here passes)
      | inr last ↦ subst (IsAtMost cmp x) (Contains-single x z last) (at_most_itself total x)
    ],
  )

  -- appending an element that doesn't come before the best element leaves the best element
  -- unchanged
  stays : (xs : List A) (x b : A) → ¬ (cmp x b ≡ Less) → IsBest cmp test xs (Some b) → IsBest cmp test (xs ++ x ∷ []) (Some b)
  stays = grind (common_steps, arith)

  -- `with_one_more` computes the best element of the list after an element is appended
  pub best_more : (xs : List A) (x : A) (found : Option A) → IsBest cmp test xs found → IsBest cmp test (xs ++ x ∷ []) (with_one_more cmp test found x)
  best_more xs x found best = by (test x) refl found best
    where
      by : (t : Bool) → test x ≡ t → (so_far : Option A) → IsBest cmp test xs so_far → IsBest cmp test (xs ++ x ∷ []) (cond t (better cmp so_far x) so_far)
      by false h so_far is = fails xs x so_far h is
      by true h None none = first_one xs x h none
      by true h (Some b) is = (elim (cmp x b) as (λ o. cmp x b ≡ o → IsBest cmp test (xs ++ x ∷ []) (cond (is_lt o) (Some x) (Some b))) [
        | Less ↦ λ e. comes_before xs x b h e is
        | Equal ↦ λ e. stays xs x b (λ less. let bad : Equal ≡ Less = sym e ∙ less in cc) is
        | Greater ↦ λ e. stays xs x b (λ less. let bad : Greater ≡ Less = sym e ∙ less in cc) is
      ]) refl
