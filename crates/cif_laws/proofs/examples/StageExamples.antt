-- Worked examples of the stages and the `Place` that a reader reaches in a file, and of the causes
-- of faults.
use Rattle.cif_laws.proofs.Common.{◌≡◌, ℕ, List, [], ◌∷◌, ◌++◌, refl, Some, None, codes, too_many, after_trailer, bad_length, bad_byte, bad_kind, bad_place}
use Rattle.cif_laws.proofs.Common.{bad_field, third_midnight}
use Rattle.cif_laws.specs.ScheduleStage.{after_basic, in_journey, after_journey, stage_of}
use Rattle.cif_laws.specs.FileStage.{before_header, between_units, in_schedule, after_end, next_place, place_at}
use Rattle.cif_laws.specs.RecordCause.{cause_of}
use Rattle.cif_laws.proofs.records.Builders.{wide, no_text, bs, lo, li, zz, f2, f2_header, f2_basic, f2_origin, f2_schedule}

whole_file : place_at f2 ≡ Some after_end
whole_file = refl

behind_basic : place_at (f2_header ∷ f2_basic ∷ []) ≡ Some (in_schedule after_basic (f2_basic ∷ []))
behind_basic = refl

behind_schedule : place_at (f2_header ∷ f2_schedule) ≡ Some between_units
behind_schedule = refl

no_header : place_at (f2_basic ∷ []) ≡ None
no_header = refl

whole_schedule : stage_of f2_schedule ≡ Some after_journey
whole_schedule = refl

-- several causes apply to each of these records, and the cause with the lowest rank is reported
over_limit : cause_of 5 5 after_end zz ≡ too_many
over_limit = refl

behind_trailer : cause_of 6 5 after_end (codes "AB") ≡ after_trailer
behind_trailer = refl

short_record : cause_of 6 1 between_units (codes "AB") ≡ bad_length
short_record = refl

tab_is_bad_byte : cause_of 6 1 between_units (wide 19 (codes "TIASHFELD") ++ 9 ∷ wide 60 no_text) ≡ bad_byte 20
tab_is_bad_byte = refl

unknown_kind : cause_of 6 1 between_units (wide 80 (codes "LN")) ≡ bad_kind
unknown_kind = refl

basic_first : cause_of 6 0 before_header f2_basic ≡ bad_place
basic_first = refl

trailer_early : cause_of 6 2 (in_schedule after_basic (f2_basic ∷ [])) zz ≡ bad_place
trailer_early = refl

bad_time : cause_of 6 2 (in_schedule after_basic (f2_basic ∷ [])) (lo (codes "ASHFELD") no_text (codes "2400") no_text no_text no_text) ≡ bad_field 11
bad_time = refl

-- a basic schedule that is a deletion. The two examples after it show that the fields of its
-- journey aren't checked, and that its journey may be missing
abbrev deleted_basic : List ℕ
deleted_basic = bs (codes "D") (codes "C10001") (codes "240610") no_text no_text no_text (codes "P")

deleted_time : next_place (in_schedule after_basic (deleted_basic ∷ [])) (lo (codes "ASHFELD") no_text (codes "2400") no_text no_text no_text)
    ≡ Some (in_schedule in_journey (deleted_basic ∷ lo (codes "ASHFELD") no_text (codes "2400") no_text no_text no_text ∷ []))
deleted_time = refl

deleted_alone : place_at (f2_header ∷ deleted_basic ∷ zz ∷ []) ≡ Some after_end
deleted_alone = refl

-- an intermediate location at COLWELL that the train passes at this time. In the examples below, a
-- schedule passes midnight for the third time at a record that `call_at` makes
abbrev call_at : List ℕ → List ℕ
call_at time = li (codes "COLWELL") no_text no_text no_text time no_text no_text no_text no_text no_text

abbrev two_falls : List (List ℕ)
two_falls = f2_basic ∷ f2_origin ∷ call_at (codes "0800") ∷ call_at (codes "0700") ∷ []

two_falls_pass : place_at (f2_header ∷ two_falls) ≡ Some (in_schedule in_journey two_falls)
two_falls_pass = refl

third_falls : next_place (in_schedule in_journey two_falls) (call_at (codes "0659H")) ≡ None
third_falls = refl

third_cause : cause_of 9 5 (in_schedule in_journey two_falls) (call_at (codes "0659H")) ≡ third_midnight
third_cause = refl

equal_times : next_place (in_schedule in_journey two_falls) (call_at (codes "0700")) ≡ Some (in_schedule in_journey (two_falls ++ call_at (codes "0700") ∷ []))
equal_times = refl
