use Rattle.cif_laws.proofs.Common.{◌≡◌, length}
use Rattle.docker_state.specs.Rows.{last_rows}
use Rattle.docker_state.proofs.rows.are_apart.Given as goal

abbrev pub invariant-loop-row : goal.invariant-loop-row
invariant-loop-row l = last_rows l.rest ≡ l.rest → last_rows l.fn.rows ≡ l.fn.rows

abbrev pub decreases-loop-row : goal.decreases-loop-row
decreases-loop-row l = length l.rest
