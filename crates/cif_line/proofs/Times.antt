-- Lemmas on times of day and on the fields from which times are read.
use Rattle.cif_laws.proofs.Common.{◌≡◌, ℕ, List, [], ◌∷◌, true, false, cond, Bool, Some, rules, common_steps, None, Option, refl, length, ◌<◌, arith, codes}
use Rattle.cif_laws.proofs.Common.{◌==◌, ◌||◌, slice_index, IfSome, bytes_eq, ltb-true, lt-ltb, two_digits, is_blank, is_clock, is_present_time, half_minutes}
use Rattle.cif_laws.proofs.Common.{is_scheduled_time, scheduled_time}
use Rattle.cif_laws.proofs.lists.BoolsAndOptions.{both}
use Rattle.cif_laws.proofs.records.ScheduledTimes.{present_not_blank}
use Rattle.cif_line.specs.declared.time_field.TimeField.{TimeField}
use Rattle.cif_line.specs.TimeRead.{ReadsTime}
use Rattle.cif_line.specs.CallRead.{half_minutes_or_none, number_meant}

-- a field of four bytes is blank if and only if it is four spaces
pub four_spaces : (field : List ℕ) → length field ≡ 4 → bytes_eq field (codes "    ") ≡ is_blank field
four_spaces (a ∷ b ∷ c ∷ d ∷ []) size = refl
four_spaces _ size = absurd (omega arith)

-- a field of five bytes is blank if and only if it is five spaces
pub five_spaces : (field : List ℕ) → length field ≡ 5 → bytes_eq field (codes "     ") ≡ is_blank field
five_spaces (a ∷ b ∷ c ∷ d ∷ e ∷ []) size = refl
five_spaces _ size = absurd (omega arith)

-- the hour of a time HHMM is below 24
pub hour_bound : (field : List ℕ) → is_clock field ≡ true → two_digits field 0 < 24
hour_bound = search (rules, ltb-true, both)

-- the minute of a time HHMM is below 60
pub minute_bound : (field : List ℕ) → is_clock field ≡ true → two_digits field 2 < 60
minute_bound = search (rules, ltb-true, both)

-- a scheduled time that isn't blank begins with a time HHMM
pub clock_of_present : (field : List ℕ) → is_present_time field ≡ true → is_clock field ≡ true
clock_of_present field there = (both (is_clock field) ((slice_index field 4 == 72) || (slice_index field 4 == 32)) there).0

-- the lemmas on the bounds of a time's hour and minute
pub ruleset clock_bounds = (hour_bound, minute_bound, clock_of_present)

-- the lemma that says that a field with a time isn't blank
pub ruleset scheduled_times = (present_not_blank)

-- if at least one of two tests passes, and the second fails, the first passes
blank_if : (blank present : Bool) → (blank || present) ≡ true → present ≡ false → blank ≡ true
blank_if = search rules

-- a time in half minutes since midnight is below 2880, the number of half minutes in a day
half_minutes_bound : (field : List ℕ) → is_present_time field ≡ true → half_minutes field < 2880
half_minutes_bound = grind (common_steps, arith, hour_bound, minute_bound, clock_of_present)

-- the reader of a good field stores the time's half minutes, or 65535 if the field is blank. The
-- stored number stands for the field's scheduled time
pub told_read : (field : List ℕ) (told : ℕ) → is_scheduled_time field ≡ true → told ≡ half_minutes_or_none field
    → number_meant told ≡ scheduled_time field
told_read = grind (common_steps, arith, lt-ltb, half_minutes_bound, present_not_blank, blank_if)

-- a time that is read from a field has the half minutes that the definition computes from the field
pub present_read : (field shown : List ℕ) (read : TimeField) (time : Option ℕ) → ReadsTime field read → field ≡ shown
    → time ≡ cond read.is_time (Some read.half_minutes) None → IfSome time (λ t. t ≡ half_minutes shown)
present_read = search rules
