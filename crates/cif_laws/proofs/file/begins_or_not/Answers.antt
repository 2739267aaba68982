use Rattle.cif_laws.proofs.schedules.ScheduleFronts.{begins_decided, schedule_decided}
use Rattle.cif_laws.proofs.files.FileStages.{begins_file_or_not}
use Rattle.cif_laws.proofs.files.FileCauses.{file_or_not}
use Rattle.cif_laws.proofs.file.begins_or_not.Goals as goal

pub returns-clause-file : goal.returns-clause-file
returns-clause-file c = begins_file_or_not

pub returns-clause-schedule : goal.returns-clause-schedule
returns-clause-schedule c = begins_decided

pub returns-clause-whole_file : goal.returns-clause-whole_file
returns-clause-whole_file c = file_or_not

pub returns-clause-whole_schedule : goal.returns-clause-whole_schedule
returns-clause-whole_schedule c = schedule_decided
