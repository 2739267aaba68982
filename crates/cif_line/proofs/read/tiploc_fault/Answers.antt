-- The tactic `auto` proves these goals too. Here they are proved by hand, so that the prover
-- refuses a wrong body without a long search.
use Rattle.cif_laws.proofs.Common.{rules}
use Rattle.cif_line.proofs.Leftmost.{tiploc_faults}
use Rattle.cif_line.proofs.read.tiploc_fault.Goals as goal

pub returns-then-not-is_tiploc : goal.returns-then-not-is_tiploc
returns-then-not-is_tiploc c = search (rules, tiploc_faults)

pub returns-then-not-is_new_tiploc : goal.returns-then-not-is_new_tiploc
returns-then-not-is_new_tiploc c = search (rules, tiploc_faults)

pub returns : goal.returns
returns c = search (rules, tiploc_faults)
