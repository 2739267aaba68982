use Rattle.cif_laws.proofs.Common.{◌≡◌, map, length}
use Rattle.docker_join.specs.Meaning.{row_meant}
use Rattle.docker_state.specs.Live.{live_rows}
use Rattle.docker_state.proofs.live.LiveIterator.next.Given as goal

abbrev pub invariant-loop-row : goal.invariant-loop-row
invariant-loop-row l = live_rows (map row_meant l.initial.self-inside.rows.now) ≡ live_rows (map row_meant l.self-inside.rows.now)

abbrev pub decreases-loop-row : goal.decreases-loop-row
decreases-loop-row l = length l.self-inside.rows.now
