use Rattle.cif_laws.proofs.Common.{◌≡◌, ◌<◌, false, length, get_or}
use Rattle.cif_change.specs.declared.key.Key.{Key}
use Rattle.docker_join.specs.declared.entry.Entry.{Entry}
use Rattle.docker_state.specs.UidPiece.{is_before}
use Rattle.docker_state.proofs.uid_rows.first_back.Given as goal

abbrev pub invariant-loop-first : goal.invariant-loop-first
invariant-loop-first l = record {
  within : l.first < length l.rows;
  here : (d : Key × Entry) → is_before l.uid (get_or l.rows l.first d) ≡ false;
}

abbrev pub decreases-loop-first : goal.decreases-loop-first
decreases-loop-first l = l.first
