-- A scheduled time that is present isn't blank, so `scheduled_time` isn't `None`.
use Rattle.cif_laws.proofs.Common.{◌≡◌, ℕ, List, Some, None, true, false, cond, rules, eqb-true, is_blank, is_present_time, half_minutes, scheduled_time}
use Rattle.cif_laws.proofs.lists.BoolsAndOptions.{both}

-- a scheduled time that is present isn't blank
pub present_not_blank : (field : List ℕ) → is_present_time field ≡ true → is_blank field ≡ false
present_not_blank = search (rules, both, eqb-true)

-- if a scheduled time is present, `scheduled_time` is its number of half minutes
pub time_there : (field : List ℕ) → is_present_time field ≡ true → scheduled_time field ≡ Some (half_minutes field)
time_there field is = (λ i. cond (present_not_blank field is i) None (Some (half_minutes field)))
