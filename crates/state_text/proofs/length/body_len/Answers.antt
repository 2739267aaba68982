use Rattle.cif_laws.proofs.Common.{ap}
use Rattle.cif_change.specs.Meaning.{body_meant}
use Rattle.state_text.proofs.LengthLemmas.{schedule_length}
use Rattle.state_text.proofs.length.body_len.Goals as goal

pub returns-in-Schedule-clause-value : goal.returns-in-Schedule-clause-value
returns-in-Schedule-clause-value c = schedule_length _ _ _ _ (ap body_meant c.in-Schedule.is) c.requires c.len.ensures
