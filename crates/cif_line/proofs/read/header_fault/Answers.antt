-- The tactic `auto` proves these goals too. Here they are proved by hand, so that the prover
-- refuses a wrong body without a long search.
use Rattle.cif_laws.proofs.Common.{rules}
use Rattle.cif_line.proofs.Leftmost.{header_faults}
use Rattle.cif_line.proofs.read.header_fault.Goals as goal

pub returns-then-not-is_date_day_first : goal.returns-then-not-is_date_day_first
returns-then-not-is_date_day_first c = search (rules, header_faults)

pub returns-then-not-is_clock : goal.returns-then-not-is_clock
returns-then-not-is_clock c = search (rules, header_faults)

pub returns-then-not-is_update_indicator : goal.returns-then-not-is_update_indicator
returns-then-not-is_update_indicator c = search (rules, header_faults)

pub returns : goal.returns
returns c = search (rules, header_faults)
