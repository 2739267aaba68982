-- How the best schedule or association changes when one more value is compared with it.
use Rattle.cif_laws.proofs.Common.{◌≡◌, Bool, true, false, cond, ap, sym, ◌∙◌, Some, rules, Option, Ordering}
use Rattle.docker_laws.specs.Best.{better, with_one_more}
use Rattle.train_choice.specs.Ranked.{is_better}

module _ {A : Type 0} (cmp : A → A → Ordering) (more : A) where
  -- whether a value is better than the best value so far, if this best value is given by an equation
  pub told_better : (found shown : Option A) (is : Bool) → shown ≡ found → is ≡ is_better cmp more shown → is_better cmp more found ≡ is
  told_better found shown is same told = ap (is_better cmp more) (sym same) ∙ sym told

  -- a value that isn't better than the best value so far leaves the best value unchanged
  pub best_stays : (found : Option A) → is_better cmp more found ≡ false → found ≡ better cmp found more
  best_stays = search rules

  -- a value that is better than the best value so far becomes the best value
  pub best_goes : (found : Option A) → is_better cmp more found ≡ true → Some more ≡ better cmp found more
  best_goes = search rules

  -- a value that isn't better than the best value so far leaves the best value unchanged, whether
  -- or not the new value passes the test
  pub not_better : (test : A → Bool) (found : Option A) → is_better cmp more found ≡ false → found ≡ with_one_more cmp test found more
  not_better = search (rules, best_stays)

  -- a value that fails the test leaves the best value unchanged
  pub not_passing : (test : A → Bool) (found : Option A) → test more ≡ false → found ≡ with_one_more cmp test found more
  not_passing test found is = λ i. cond (sym is i) (better cmp found more) found

  -- a value that passes the test, and is better than the best value so far, becomes the best value
  pub passes_better : (test : A → Bool) (found : Option A) → is_better cmp more found ≡ true → test more ≡ true
      → Some more ≡ with_one_more cmp test found more
  passes_better test found is passes = best_goes found is ∙ (λ i. cond (sym passes i) (better cmp found more) found)
