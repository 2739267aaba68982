-- Lemmas on which unit a record begins, by its kind.
use Rattle.cif_laws.proofs.Common.{◌≡◌, List, ℕ, true, Some, rules, is_some, HasKind, kind_of}
use Rattle.cif_laws.specs.FileStage.{unit_by_kind, between_units}
use Rattle.cif_laws.specs.ScheduleStage.{is_first_line}
use Rattle.cif_file.specs.declared.keeper.single.Single.{Single}
use Rattle.cif_file.specs.declared.records.unit.Unit.{Unit}
use Rattle.cif_file.specs.declared.records.unit.Unit.TheVariants as unit
use Rattle.cif_file.specs.UnitRead.{kind_of_single, line_of_single, IsUnitOf, IsOfSome}
use Rattle.cif_change.proofs.JourneyLemmas.{first_line_is}

-- after a record that is a unit by itself, the reader is between units
pub single_leads : (line : List ℕ) (single : Single) → HasKind (kind_of_single single) line → unit_by_kind (kind_of line) line ≡ Some between_units
single_leads = search rules

-- if a record is read as the beginning of a unit or as the trailer, a record of its kind is allowed
-- after a whole unit
pub unit_begins : (line : List ℕ) (it : Unit) → IsUnitOf line it → is_some (unit_by_kind (kind_of line) line) ≡ true
unit_begins = search (rules, single_leads)

-- a record that is read as a unit by itself has the kind of its view
pub single_has_kind : (it : Unit) (single : Single) → IsOfSome it → it ≡ unit.Single single → HasKind (kind_of_single single) (line_of_single single)
single_has_kind = search rules

-- a record that is read as a basic schedule begins a schedule
pub schedule_is : (it : Unit) (view : List ℕ) → IsOfSome it → it ≡ unit.Schedule view → IsUnitOf view (unit.Schedule view)
schedule_is = search rules

-- a record that begins a schedule can be the first line of a schedule
pub schedule_is_first : (view : List ℕ) → IsUnitOf view (unit.Schedule view) → is_first_line view ≡ true
schedule_is_first view is = first_line_is view is.is is.by_kind.1 is.good_fields
