use Rattle.cif_laws.proofs.Common.{◌≡◌, ◌≤◌, length, map, vec_len, vec_capacity}
use Rattle.cif_change.specs.Meaning.{change_meant}
use Rattle.docker_join.specs.Meaning.{file_stamp_meant, row_meant}
use Rattle.docker_state.specs.Rows.{made_by}
use Rattle.docker_state.proofs.rows.rows_made.Given as goal

abbrev pub invariant-loop-change : goal.invariant-loop-change
invariant-loop-change l = record {
  made : map row_meant l.rows.items ≡ map (made_by (file_stamp_meant l.file)) (map change_meant l.yielded);
  len : vec_len l.rows ≡ length l.yielded;
  room : length l.fn.changes.items ≤ vec_capacity l.rows;
}
