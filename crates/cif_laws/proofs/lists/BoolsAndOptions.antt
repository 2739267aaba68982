-- Facts about tests and about optional values.
use Rattle.cif_laws.proofs.Common.{◌≡◌, Bool, true, false, ◌⊎◌, Some, None, rules, cond, ◌&&◌, ◌||◌, Option, is_none, option_and_then, is_some}

-- if `a && b` is true, so are `a` and `b`
pub both : (a b : Bool) → (a && b) ≡ true → (a ≡ true) × (b ≡ true)
both = search rules

-- if `a || b` is true, `a` or `b` is true
pub either : (a b : Bool) → (a || b) ≡ true → (a ≡ true) ⊎ (b ≡ true)
either = search rules

-- an option that passes `is_none` is `None`
pub none_by_test : {A : Type 0} (o : Option A) → is_none o ≡ true → o ≡ None
none_by_test = search rules

-- an option that is `None` passes `is_none`
pub test_by_none : {A : Type 0} (o : Option A) → o ≡ None → is_none o ≡ true
test_by_none o none = λ i. is_none (none i)

-- if `a` and `b` are true, so is `a && b`
pub and_true : (a b : Bool) → a ≡ true → b ≡ true → (a && b) ≡ true
and_true = search rules

-- if `option_and_then f o` is `Some y`, then `o` is `Some x` and `f x` is `Some y`, for some `x`
pub then_some : {A B : Type 0} (f : A → Option B) (o : Option A) (y : B) → option_and_then f o ≡ Some y → (x : A) × (o ≡ Some x) × (f x ≡ Some y)
then_some = search rules

-- `option_and_then` with `Some` is the identity
pub some_then : {A : Type 0} (o : Option A) → option_and_then (λ x. Some x) o ≡ o
some_then = search rules

-- an option that passes `is_some` has a value
pub some_by_test : {A : Type 0} (o : Option A) → is_some o ≡ true → (x : A) × (o ≡ Some x)
some_by_test = search rules

-- `true` isn't `false`
pub true_is_not : true ≡ false → ⊥
true_is_not same = cc

-- anything follows if `None` equals `Some x`
pub none_some : {A B : Type 0} (x : A) → None ≡ Some x → B
none_some x same = absurd cc

-- if `cond b o None` is `Some y`, then `b` is true and `o` is `Some y`
pub when_some : {A : Type 0} (b : Bool) (o : Option A) (y : A) → cond b o None ≡ Some y → (b ≡ true) × (o ≡ Some y)
when_some = search rules

-- suppose that `cond (a && b) o None` is `None`, although `a` is true and `o` is `Some y`. Then `b`
-- is false
pub when_unsound : {A : Type 0} (a b : Bool) (o : Option A) (y : A) → cond (a && b) o None ≡ None → a ≡ true → o ≡ Some y → b ≡ false
when_unsound = search rules

-- if `cond b s g` is false and `g` is true, `s` is false
pub cond_false : (b s g : Bool) → cond b s g ≡ false → g ≡ true → s ≡ false
cond_false = search rules

-- if `s` and `g` are true, so is `cond b s g`
pub cond_true : (b s g : Bool) → s ≡ true → g ≡ true → cond b s g ≡ true
cond_true = search rules
