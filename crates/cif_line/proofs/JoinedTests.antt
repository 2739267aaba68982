-- The tests of a record's checked fields, joined by AND into a single test.
use Rattle.cif_laws.proofs.Common.{◌≡◌, ℕ, List, Bool, true, false, cond, [], ◌∷◌, Some, None, refl, sym, ◌∙◌, ◌&&◌, arith, rules, not, option_map, find}
use Rattle.cif_laws.proofs.Common.{Option, ◌↔◌, columns, origin_location, intermediate_location, is_present_time, is_scheduled_time, is_public_time}
use Rattle.cif_laws.proofs.Common.{CheckedField, checked, checked_fields, is_tiploc}
use Rattle.cif_laws.proofs.lists.BoolsAndOptions.{both, and_true}
use Rattle.cif_line.specs.View.{bad_field_of}
use Rattle.cif_line.proofs.Leftmost.{first_bad, behind_good}

-- whether a checked field is good in a line
abbrev pub is_good_in : List ℕ → CheckedField → Bool
is_good_in line field = field.is_good (columns field.first field.last line)

-- a first test and the tests of a list of fields, joined by AND from the left
abbrev pub joined : List ℕ → Bool → List CheckedField → Bool
joined line before [] = before
joined line before (field ∷ fields) = joined line (before && is_good_in line field) fields

-- the first column of the first field in a list that isn't good in the line, or `None` if all are
-- good
abbrev pub first_bad_of : List ℕ → List CheckedField → Option ℕ
first_bad_of line fields = option_map (λ (field : CheckedField). field.first) (find (λ field. not (is_good_in line field)) fields)

-- if the joined test passes, so does the first test, and no field of the list is bad
pub none_if_joined : (line : List ℕ) (before : Bool) (fields : List CheckedField) → joined line before fields ≡ true
    → (before ≡ true) × (first_bad_of line fields ≡ None)
none_if_joined line before [] pass = (pass, refl)
none_if_joined line before (field ∷ fields) pass =
    let rest : ((before && is_good_in line field) ≡ true) × (first_bad_of line fields ≡ None) =
    none_if_joined line (before && is_good_in line field) fields pass in
    let two : (before ≡ true) × (is_good_in line field ≡ true) = both before (is_good_in line field) rest.0 in (
      two.0,
      (λ i. option_map (λ (f : CheckedField). f.first) (cond (not (two.1 i)) (Some field) (find (λ f. not (is_good_in line f)) fields))) ∙ rest.1,
    )

-- if no field of the list is bad and the first test passes, the joined test passes
pub joined_if_none : (line : List ℕ) (before : Bool) (fields : List CheckedField) → first_bad_of line fields ≡ None → before ≡ true
    → joined line before fields ≡ true
joined_if_none line before [] none there = there
joined_if_none line before (field ∷ fields) none there = grind (arith, and_true, (joined_if_none line (before && is_good_in line field) fields))

-- the joined test of a list of fields passes if and only if no field is bad
passes_if_none : (line : List ℕ) (fields : List CheckedField) (test : Bool) → test ≡ joined line true fields
    → test ≡ true ↔ (first_bad_of line fields ≡ None)
passes_if_none line fields test is = (λ pass. (none_if_joined line true fields (sym is ∙ pass)).1, λ none. is ∙ joined_if_none line true fields none refl)

regrouped : (t a d p m n : Bool) → (t && ((((a && d) && p) && m) && n)) ≡ (((((t && a) && d) && p) && m) && n)
regrouped = search rules

-- the tests of all five times of an intermediate location, joined by AND from the left
abbrev pub times_joined : List ℕ → Bool
times_joined line =
    (((is_scheduled_time (columns 11 15 line) && is_scheduled_time (columns 16 20 line)) && is_scheduled_time (columns 21 25 line))
    && is_public_time (columns 26 29 line))
    && is_public_time (columns 30 33 line)

-- the joined test of an intermediate location passes if and only if no field is bad
pub call_tests : (line : List ℕ) (tiploc times test : Bool) → (tiploc && times) ≡ test → tiploc ≡ is_tiploc (columns 3 9 line)
    → times ≡ times_joined line → test ≡ true ↔ (bad_field_of intermediate_location line ≡ None)
call_tests line t s test joins tiploc times =
    passes_if_none line (checked_fields intermediate_location line) test (sym joins ∙ (λ i. tiploc i && times i)
    ∙ regrouped (is_tiploc (columns 3 9 line)) _ _ _ _ _)

-- the joined test of an origin or a terminus passes if and only if no field is bad
pub end_tests : (line : List ℕ) (tiploc time public test : Bool) → ((tiploc && time) && public) ≡ test → tiploc ≡ is_tiploc (columns 3 9 line)
    → time ≡ is_present_time (columns 11 15 line) → public ≡ is_public_time (columns 16 19 line)
    → test ≡ true ↔ (bad_field_of origin_location line ≡ None)
end_tests = search (rules, passes_if_none)

-- if an intermediate location has a bad field, and all its checked fields except the last are good,
-- the leftmost bad field is at column 30
pub call_last_bad : (line : List ℕ) → ¬ (bad_field_of intermediate_location line ≡ None) → is_tiploc (columns 3 9 line) ≡ true
    → is_scheduled_time (columns 11 15 line) ≡ true → is_scheduled_time (columns 16 20 line) ≡ true → is_scheduled_time (columns 21 25 line) ≡ true
    → is_public_time (columns 26 29 line) ≡ true → bad_field_of intermediate_location line ≡ Some 30
unfolding first_bad
call_last_bad line bad tiploc arrival departure pass public_arrival = by (is_public_time (columns 30 33 line)) refl
  where
    by : (good : Bool) → is_public_time (columns 30 33 line) ≡ good → bad_field_of intermediate_location line ≡ Some 30
    by true good =
        absurd (bad (none_if_joined line true (checked_fields intermediate_location line)
        (λ i. ((((tiploc i && arrival i) && departure i) && pass i) && public_arrival i) && good i)).1)
    by false last =
        behind_good line
        (checked 3 9 is_tiploc ∷ checked 11 15 is_scheduled_time ∷ checked 16 20 is_scheduled_time ∷ checked 21 25 is_scheduled_time
        ∷ checked 26 29 is_public_time ∷ []) (checked 30 33 is_public_time) []
        (tiploc, (arrival, (departure, (pass, (public_arrival, tt))))) last

-- if the joined test of an intermediate location passes, its three scheduled times are good
pub times_good : (line : List ℕ) (tiploc times : Bool) → (tiploc && times) ≡ true → times ≡ times_joined line
    → (is_scheduled_time (columns 11 15 line) ≡ true) × (is_scheduled_time (columns 16 20 line) ≡ true)
    × (is_scheduled_time (columns 21 25 line) ≡ true)
times_good = search (rules, both)
