use Rattle.cif_laws.proofs.Common.{rules, sym, subst, IsStrictlyAscending}
use Rattle.std.proofs.lemmas.List.Sorted.{IsPartitionPoint-from_clause}
use Rattle.state_index.specs.PostingOrder.{posting_cmp}
use Rattle.state_index.proofs.PostingPieces.{is_before, is_up_to, parted_before, parted_up_to, piece_is}
use Rattle.state_index.proofs.Pieces.{behind_ascends}
use Rattle.state_index.proofs.place_rows.postings_of.Goals as goal

pub returns : goal.returns
returns c = piece_is _ _ _ _ _ _ c.partition_point.ensures.bound c.split_at.ensures.back c.partition_point-2.ensures.bound c.split_at-2.ensures.front
    (IsPartitionPoint-from_clause (is_before c.args.rank) c.args.postings.now c.partition_point.result c.partition_point.ensures.partitioned
    (parted_before _ _ c.requires) (λ a r f h. search rules))
    (IsPartitionPoint-from_clause (is_up_to c.args.rank) c.split_at.result.1.now c.partition_point-2.result c.partition_point-2.ensures.partitioned
    (parted_up_to _ _ (subst (IsStrictlyAscending posting_cmp) (sym c.split_at.ensures.back) (behind_ascends posting_cmp _ _ c.requires)))
    (λ a r f h. search rules))
