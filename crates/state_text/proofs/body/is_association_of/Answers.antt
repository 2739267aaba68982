use Rattle.cif_laws.proofs.Common.{refl, rules}
use Rattle.state_text.proofs.body.is_association_of.Goals as goal

pub returns-in-Ok : goal.returns-in-Ok
returns-in-Ok c = let kind = c.if-not-has_kind.ensures.0 refl in let good = c.in-Ok.ensures.ok.0 refl in search rules
