-- The records are a file if and only if the trailer was read.
use Rattle.cif_file.proofs.FrontLemmas.{ended_iff}
use Rattle.cif_file.proofs.records.front.Front.is_ended.Goals as goal

pub returns-in-BeforeHeader : goal.returns-in-BeforeHeader
returns-in-BeforeHeader g c = λ records. ended_iff _ _ _ _ c.in-BeforeHeader.is

pub returns-in-BetweenUnits : goal.returns-in-BetweenUnits
returns-in-BetweenUnits g c = λ records. ended_iff _ _ _ _ c.in-BetweenUnits.is

pub returns-in-InSchedule : goal.returns-in-InSchedule
returns-in-InSchedule g c = λ records. ended_iff _ _ _ _ c.in-InSchedule.is

pub returns-in-AfterEnd : goal.returns-in-AfterEnd
returns-in-AfterEnd g c = λ records. ended_iff _ _ _ _ c.in-AfterEnd.is
