-- The tactic `auto` proves these goals too. Here they are proved by hand, so that the prover
-- refuses a wrong body without a long search.
use Rattle.cif_laws.proofs.Common.{rules}
use Rattle.cif_line.proofs.Leftmost.{basic_faults}
use Rattle.cif_line.proofs.read.basic_fault.Goals as goal

pub returns-then-not-is_transaction : goal.returns-then-not-is_transaction
returns-then-not-is_transaction c = search (rules, basic_faults)

pub returns-then-not-is_date : goal.returns-then-not-is_date
returns-then-not-is_date c = search (rules, basic_faults)

pub returns-then-not-is_end_date : goal.returns-then-not-is_end_date
returns-then-not-is_end_date c = search (rules, basic_faults)

pub returns-then-not-is_days : goal.returns-then-not-is_days
returns-then-not-is_days c = search (rules, basic_faults)

pub returns-then-not-is_stp_indicator : goal.returns-then-not-is_stp_indicator
returns-then-not-is_stp_indicator c = search (rules, basic_faults)

pub returns : goal.returns
returns c = search (rules, basic_faults)
