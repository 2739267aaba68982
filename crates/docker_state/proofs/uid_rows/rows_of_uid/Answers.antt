use Rattle.cif_laws.proofs.Common.{List, sym, subst}
use Rattle.cif_change.specs.declared.key.Key.{Key}
use Rattle.docker_join.specs.declared.entry.Entry.{Entry}
use Rattle.docker_join.specs.Rows.{AreAscending}
use Rattle.docker_state.proofs.UidRows.{walk_parts, walk_within, piece_is}
use Rattle.state_index.proofs.Pieces.{behind_ascends}
use Rattle.docker_state.proofs.uid_rows.rows_of_uid.Goals as goal

pub returns : goal.returns
returns c = piece_is _ _ _ _ _ _ c.rows_before.ensures.within c.split_at.ensures.back (walk_within _ _ _ c.rows_up_to.ensures)
    c.split_at-2.ensures.front c.rows_before.ensures.parts (walk_parts _ _ _
    (subst (λ (rows : List (Key × Entry)). AreAscending rows) (sym c.split_at.ensures.back) (behind_ascends _ _ _ c.requires)) c.rows_up_to.ensures)

pub split_at-requires-2 : goal.split_at-requires-2
split_at-requires-2 c = walk_within c.args.uid.now c.split_at.result.1.now c.rows_up_to.result c.rows_up_to.ensures
