use Rattle.cif_laws.proofs.Common.{◌≡◌, ◌+◌, ◌≤◌, ◌++◌, length, vec_len, vec_capacity, MatchOption, ⊤, option_to_list, into_iter_items}
use Rattle.std.specs.Vec.Iter.{into_iter_len}
use Rattle.docker_state.specs.Rows.{last_rows}
use Rattle.docker_state.proofs.rows.last_rows.Given as goal

abbrev pub invariant-loop-held : goal.invariant-loop-held
invariant-loop-held l = record {
  out : l.rows.items ++ last_rows (option_to_list l.held ++ into_iter_items l.made) ≡ last_rows l.fn.made.items;
  room : vec_len l.rows + (length (option_to_list l.held) + into_iter_len l.made) ≤ vec_capacity l.rows;
  done : MatchOption l.held (into_iter_len l.made ≡ 0) (λ _. ⊤);
}

abbrev pub decreases-loop-held : goal.decreases-loop-held
decreases-loop-held l = length (option_to_list l.held) + into_iter_len l.made
