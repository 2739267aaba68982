use Rattle.cif_laws.proofs.Common.{rules, length-append}
use Rattle.state_text.proofs.length.row_len.Goals as goal

pub returns-clause-value : goal.returns-clause-value
returns-clause-value c = search (rules, length-append)
