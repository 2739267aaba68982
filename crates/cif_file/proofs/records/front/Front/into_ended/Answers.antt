-- The records are a file if and only if the trailer was read, and the result is then this file.
use Rattle.cif_laws.proofs.Common.{refl, false≢true}
use Rattle.cif_file.proofs.FrontLemmas.{ended_iff, file_ended}
use Rattle.cif_file.proofs.records.front.Front.into_ended.Goals as goal

pub returns-in-BeforeHeader : goal.returns-in-BeforeHeader
returns-in-BeforeHeader g c = λ records has counted is. false≢true ((ended_iff _ _ _ _ c.in-BeforeHeader.is has).1 is)

pub returns-in-BetweenUnits : goal.returns-in-BetweenUnits
returns-in-BetweenUnits g c = λ records has counted is. false≢true ((ended_iff _ _ _ _ c.in-BetweenUnits.is has).1 is)

pub returns-in-InSchedule : goal.returns-in-InSchedule
returns-in-InSchedule g c = λ records has counted is. false≢true ((ended_iff _ _ _ _ c.in-InSchedule.is has).1 is)

pub returns-in-Some : goal.returns-in-Some
returns-in-Some g c = λ records has counted. file_ended _ _ _ _ has c.in-AfterEnd.is c.in-Some.is counted refl
