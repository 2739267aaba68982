-- Defines what a view requires of its line.
use Rattle.std.specs.Prelude.{◌≡◌, ◌⊎◌, ℕ, List, Option, Some, None, option_map, find, not, true, if◌then◌else◌}
use Rattle.docker_model.specs.records.Record.{Kind, tiploc_insert, tiploc_amend, tiploc_delete, HasKind, columns}
use Rattle.docker_model.specs.records.Clock.{is_blank}
use Rattle.docker_model.specs.records.Field.{CheckedField, checked_fields, HasGoodFields, is_tiploc, is_new_tiploc}

-- Says that the line is a record of this kind and that each of its checked fields is good.
pub record IsGood (kind : Kind) (line : List ℕ) : Type 0 where
  pub has_kind : HasKind kind line
  pub good_fields : HasGoodFields line

-- the first column of the leftmost bad field, if the line is checked as a record of this kind. The
-- result is `None` if every field is good
abbrev pub bad_field_of : Kind → List ℕ → Option ℕ
bad_field_of kind line =
    option_map (λ (field : CheckedField). field.first)
    (find (λ field. not (field.is_good (columns field.first field.last line))) (checked_fields kind line))

-- Says that the line is a TIPLOC insert, amendment or deletion.
abbrev pub IsTiplocRecord : List ℕ → Type 0
IsTiplocRecord line = HasKind tiploc_insert line ⊎ HasKind tiploc_amend line ⊎ HasKind tiploc_delete line

-- Says that the checked fields of a TIPLOC record are good: the code and, in an amendment, the new
-- code.
pub record IsGoodTiploc (line : List ℕ) : Type 0 where
  pub code : is_tiploc (columns 3 9 line) ≡ true
  pub new_code : HasKind tiploc_amend line → is_new_tiploc (columns 73 79 line) ≡ true

-- the new code in a TIPLOC record of this kind, or `None` if the field is blank or the kind isn't
-- an amendment
abbrev pub new_code_of : Option Kind → List ℕ → Option (List ℕ)
new_code_of (Some tiploc_amend) line = if is_blank (columns 73 79 line) then None else Some (columns 73 79 line)
new_code_of _ line = None
