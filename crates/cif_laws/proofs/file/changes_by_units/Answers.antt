use Rattle.cif_laws.proofs.files.UnitChanges.{changes_by_units, schedule_change}
use Rattle.cif_laws.proofs.file.changes_by_units.Goals as goal

pub returns-clause-units : goal.returns-clause-units
returns-clause-units c = changes_by_units

pub returns-clause-schedule : goal.returns-clause-schedule
returns-clause-schedule c = schedule_change
