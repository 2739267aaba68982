use Rattle.cif_laws.proofs.schedules.ScheduleCauses.{goes_on_or_fault, one_schedule_cause}
use Rattle.cif_laws.proofs.file.schedule_goes_on_or_fault.Goals as goal

pub returns-clause-either : goal.returns-clause-either
returns-clause-either c = goes_on_or_fault

pub returns-clause-one : goal.returns-clause-one
returns-clause-one c = one_schedule_cause
