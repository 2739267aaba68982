-- A line that is taken is appended to the lines that were taken before.
use Rattle.cif_laws.proofs.Common.{subst, sym}
use Rattle.cif_change.specs.JourneyRead.{HasLines}
use Rattle.cif_change.proofs.JourneyLemmas.{of_ok}
use Rattle.cif_change.proofs.journey.Journey.line.Goals as goal

pub returns-clause-read : goal.returns-clause-read
returns-clause-read c = λ lines has is. of_ok _ c.take.ensures.read is lines (subst (λ journey. HasLines journey lines) (sym c.self.view_is) has)
