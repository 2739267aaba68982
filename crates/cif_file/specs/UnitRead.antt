-- Records that begin a unit, after the header or after a whole unit. TIPLOC records and
-- associations are whole units by themselves, and make their changes at once.
use Rattle.std.specs.Prelude.{◌≡◌, ℕ, List}
use Rattle.docker_model.specs.records.Record.{Kind, HasKind, IsRecord, tiploc_insert, tiploc_amend, tiploc_delete, association, basic_schedule, trailer}
use Rattle.docker_model.specs.records.Field.{HasGoodFields}
use Rattle.cif_file.specs.declared.keeper.single.Single.{Single}
use Rattle.cif_file.specs.declared.keeper.single.Single.TheVariants.{TiplocInsert, TiplocAmend, TiplocDelete, Association}
use Rattle.cif_file.specs.declared.records.unit.Unit.{Unit}
use Rattle.cif_file.specs.declared.records.unit.Unit.TheVariants as unit

-- the kind of a record that is a unit by itself
abbrev pub kind_of_single : Single → Kind
kind_of_single (TiplocInsert line) = tiploc_insert
kind_of_single (TiplocAmend line) = tiploc_amend
kind_of_single (TiplocDelete line) = tiploc_delete
kind_of_single (Association line) = association

-- the line of a record that is a unit by itself
abbrev pub line_of_single : Single → List ℕ
line_of_single (TiplocInsert line) = line
line_of_single (TiplocAmend line) = line
line_of_single (TiplocDelete line) = line
line_of_single (Association line) = line

-- Says that the line begins this unit, as far as the kind of the line shows.
abbrev pub IsUnitByKind : List ℕ → Unit → Type 0
IsUnitByKind line (unit.Single single) = (line_of_single single ≡ line) × HasKind (kind_of_single single) line
IsUnitByKind line (unit.Schedule view) = (view ≡ line) × HasKind basic_schedule line
IsUnitByKind line unit.Trailer = HasKind trailer line

-- Says that the line is a record whose checked fields are good, and that it begins this unit.
pub record IsUnitOf (line : List ℕ) (unit : Unit) : Type 0 where
  pub is : IsRecord line
  pub good_fields : HasGoodFields line
  pub by_kind : IsUnitByKind line unit

-- Says that some line is a record whose checked fields are good, and that it begins this unit.
pub record IsOfSome (unit : Unit) : Type 0 where
  pub line : List ℕ
  pub of : IsUnitOf line unit
