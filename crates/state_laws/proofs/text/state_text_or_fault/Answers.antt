use Rattle.state_laws.proofs.texts.TextOrFault.{text_or_fault}
use Rattle.state_laws.proofs.text.state_text_or_fault.Goals as goal

pub returns : goal.returns
returns c = text_or_fault
