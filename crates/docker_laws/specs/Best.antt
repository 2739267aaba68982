-- The best element of a list. Of the elements that pass a test, the best element is the first in an
-- order.
use Rattle.std.specs.Prelude.{◌≡◌, Bool, true, false, if◌then◌else◌, List, Option, Some, None, Contains}
use Rattle.std.specs.declared.cmp.Ordering.{Ordering}
use Rattle.std.specs.Ordering.{is_lt}
use Rattle.docker_model.specs.state.Order.{IsAtMost}

-- the option has the best element of the list: this element passes the test, and no other element
-- that passes the test comes before it. The option is `None` if no element passes the test
abbrev pub IsBest : {A : Type 0} → (A → A → Ordering) → (A → Bool) → List A → Option A → Type 0
IsBest {A} cmp test xs None = (z : A) → Contains xs z → test z ≡ false
IsBest {A} cmp test xs (Some x) = Contains xs x × (test x ≡ true) × ((z : A) → Contains xs z → test z ≡ true → IsAtMost cmp x z)

-- the best element of a list with `x` appended, where `x` passes the test. The result is `x` if the
-- list without `x` had no best element, or if `x` comes before that element. Otherwise the result
-- is the best element of the list without `x`
abbrev pub better : {A : Type 0} → (A → A → Ordering) → Option A → A → Option A
better cmp None x = Some x
better cmp (Some b) x = if is_lt (cmp x b) then Some x else Some b

-- the best element of a list with `x` appended. If `x` passes the test, the result is computed by
-- `better`. Otherwise the result is the best element of the list without `x`
abbrev pub with_one_more : {A : Type 0} → (A → A → Ordering) → (A → Bool) → Option A → A → Option A
with_one_more cmp test found x = if test x then better cmp found x else found
