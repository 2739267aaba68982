-- The schedule of the example file is a schedule.
use Rattle.cif_laws.proofs.Common.{◌≡◌, ℕ, List, [], ◌∷◌, length, refl, inl, inr, true, lit≤, rules, list_all, All-from_recursion, AllPass-from_list_all}
use Rattle.cif_laws.proofs.Common.{IsRecord, is_printable, HasGoodFields, IsSchedule, IsJourney, IsWithinJourney}
use Rattle.cif_laws.proofs.records.Builders.{f2_basic, f2_origin, f2_terminus, f2_schedule}

-- 80 bytes are a record if all of them are printable
pub record_by_test : (bytes : List ℕ) → length bytes ≡ 80 → list_all is_printable bytes ≡ true → IsRecord bytes
record_by_test bytes size printable = (size, AllPass-from_list_all is_printable bytes printable)

-- the example journey is a journey
pub f2_journey : IsJourney (f2_origin ∷ f2_terminus ∷ [])
f2_journey = record {
  first = f2_origin;
  between = [];
  last = f2_terminus;
  whole = refl;
  origin = refl;
  calls = All-from_recursion IsWithinJourney [] tt;
  terminus = refl;
}

-- the example schedule is a schedule
pub f2_is_schedule : IsSchedule f2_schedule
f2_is_schedule = record {
  basic = f2_basic;
  extra = [];
  journey = f2_origin ∷ f2_terminus ∷ [];
  whole = refl;
  records = search (rules, f2_schedule, record_by_test, f2_basic, f2_origin, f2_terminus);
  kind = refl;
  fields = refl;
  details = inl refl;
  journey_or_none = inl f2_journey;
  sound = inr (record { fields = All-from_recursion HasGoodFields (f2_origin ∷ f2_terminus ∷ []) (refl, (refl, tt)); falls = lit≤ tt });
}
