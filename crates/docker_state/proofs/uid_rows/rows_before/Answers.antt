use Rattle.cif_laws.proofs.Common.{rules}
use Rattle.std.proofs.lemmas.List.Sorted.{IsPartitionPoint-from_clause}
use Rattle.docker_state.specs.UidPiece.{is_before}
use Rattle.docker_state.proofs.UidRows.{parted_before}
use Rattle.docker_state.proofs.uid_rows.rows_before.Goals as goal

pub returns-else-is_of_uid_at-clause-parts : goal.returns-else-is_of_uid_at-clause-parts
returns-else-is_of_uid_at-clause-parts c =
    IsPartitionPoint-from_clause (is_before c.args.uid.now) c.args.rows.now c.partition_point.result c.partition_point.ensures.partitioned
    (parted_before c.args.uid.now c.args.rows.now c.requires) (λ a r f h. search rules)
