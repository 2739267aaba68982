use Rattle.cif_laws.proofs.Common.{rules}
use Rattle.cif_line.proofs.JoinedTests.{call_last_bad}
use Rattle.cif_line.proofs.read.call_fault.Goals as goal

pub returns : goal.returns
returns c =
    call_last_bad c.args.line.now c.requires.bad (search rules) (search rules) (search rules) (search rules) (search rules)
