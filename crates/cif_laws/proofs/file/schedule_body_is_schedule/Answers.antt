use Rattle.cif_laws.proofs.files.FileChanges.{kept_schedule, body_of_file}
use Rattle.cif_laws.proofs.file.schedule_body_is_schedule.Goals as goal

pub returns-clause-schedule : goal.returns-clause-schedule
returns-clause-schedule c = λ file change lines is few among puts. kept_schedule _ _ (body_of_file _ is few _ among _ puts)

pub returns-clause-agrees : goal.returns-clause-agrees
returns-clause-agrees c = λ file change body is few among puts. body_of_file file is few change among body puts
