-- The fields of a basic schedule that determine on which days the schedule runs.
use Rattle.docker_laws.proofs.dockers.KeptSchedules.{schedule_first, schedule_last}

pub ruleset schedule_fields = (schedule_first, schedule_last)
