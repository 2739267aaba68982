-- The example file is a CIF file, and its text has no fault. Two other texts have a fault.
use Rattle.cif_laws.proofs.Common.{◌≡◌, ℕ, List, [], ◌∷◌, ◌++◌, refl, inl, inr, lit≤, ◌<◌, ap, sym, ◌∙◌, rules, All-from_recursion, HasKind, header, kind_of}
use Rattle.cif_laws.proofs.Common.{IsFile, IsUnit, BeginsFile, lines_of, IsFileText, IsFileFault, HoldsOf, FileCause, cause_rank, bad_place, no_end}
use Rattle.docker_model.specs.file.FileFault.{IsOutOfPlace}
use Rattle.cif_laws.proofs.records.Builders.{f2, f2_header, f2_basic, f2_origin, f2_terminus, f2_schedule, zz}
use Rattle.cif_laws.proofs.schedules.WorkedSchedule.{record_by_test, f2_is_schedule}

-- the example file is a CIF file
pub f2_is_file : IsFile f2
f2_is_file = record {
  first = f2_header;
  units = f2_schedule ∷ [];
  last = zz;
  whole = refl;
  header_record = record_by_test f2_header refl refl;
  header_kind = refl;
  header_fields = refl;
  each = All-from_recursion IsUnit (f2_schedule ∷ []) (inr f2_is_schedule, tt);
  trailer_record = record_by_test zz refl refl;
  trailer_kind = refl;
}

-- the example text: the records of the example file, each followed by a line feed
abbrev pub f2_text : List ℕ
f2_text = f2_header ++ 10 ∷ f2_basic ++ 10 ∷ f2_origin ++ 10 ∷ f2_terminus ++ 10 ∷ zz ++ 10 ∷ []

lines_of_f2 : lines_of f2_text ≡ f2
lines_of_f2 = refl

-- the example text is the text of the example file
pub f2_text_is : IsFileText 5 f2_text f2
f2_text_is = record { lines = refl; is = f2_is_file; within = lit≤ tt }

-- the empty list of records is the beginning of some file
pub empty_begins : BeginsFile []
empty_begins = (f2, f2_is_file)

-- the empty list of records isn't a file
pub empty_is_no_file : ¬ IsFile []
empty_is_no_file file = let whole = file.whole in cc

-- the empty text has the fault `no_end`, at record 1, which is missing
pub empty_text_unended : IsFileFault 10 [] (record { number = 1; cause = no_end })
empty_text_unended = inr (record { within = lit≤ tt; begin = empty_begins; unended = empty_is_no_file; number = refl; cause = refl })

-- the first record of a list, or `default` if the list is empty
first_or : List ℕ → List (List ℕ) → List ℕ
first_or default [] = default
first_or default (line ∷ lines) = line

-- a file begins with a header
pub file_begins : (line : List ℕ) (rest : List (List ℕ)) → IsFile (line ∷ rest) → HasKind header line
unfolding first_or
file_begins line rest file = ap kind_of (ap (first_or line) file.whole) ∙ file.header_kind

-- no file begins with a basic schedule
basic_begins_none : ¬ BeginsFile (f2_basic ∷ [])
basic_begins_none begins = let kind = file_begins f2_basic begins.0 begins.1 in cc

basic_out_of_place : IsOutOfPlace [] f2_basic
basic_out_of_place next same begins = let kind = sym same ∙ file_begins next begins.0 begins.1 in cc

basic_is_cause : (other : FileCause) → cause_rank other < 5 → ¬ HoldsOf 10 [] f2_basic other
basic_is_cause = search rules

-- the text with only a basic schedule has the fault `bad_place` at record 1
pub basic_first : IsFileFault 10 (f2_basic ++ 10 ∷ []) (record { number = 1; cause = bad_place })
basic_first = inl (record {
  earlier = [];
  line = f2_basic;
  later = [];
  whole = refl;
  number = refl;
  earlier_within = lit≤ tt;
  earlier_begin = empty_begins;
  here = inr basic_begins_none;
  cause = record { holds = basic_out_of_place; first = basic_is_cause };
})
