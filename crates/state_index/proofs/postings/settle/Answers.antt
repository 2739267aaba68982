use Rattle.cif_laws.proofs.Common.{List, sym, subst, Contains, rules, IsSorted, is_lt, ◌↔◌, IsStrictlyAscending}
use Rattle.std.proofs.lemmas.List.Sorted.{answers_always}
use Rattle.std.proofs.lemmas.List.MinMax.{ranks_by}
use Rattle.std.proofs.lemmas.List.Filters.{dedup_is}
use Rattle.state_index.specs.declared.posting.Posting.{Posting}
use Rattle.state_index.specs.PostingOrder.{posting_cmp}
use Rattle.state_index.proofs.SortedSpots.{all_sorted, all_there, once_each, posting_equivalence}
use Rattle.state_index.proofs.SortedSpots.{same_members, same_posting}
use Rattle.state_index.proofs.PostingOrders.{is_same_posting, posting_ties, posting_total}
use Rattle.state_index.proofs.postings.settle.Goals as goal
use Rattle.state_index.proofs.postings.settle.Goals.{After-sort_unstable_by}

-- the sorted postings are in order, since the closure returns what `posting_cmp` does
in_order : (c : After-sort_unstable_by) → IsSorted posting_cmp c.sort_unstable_by.new.self.items
in_order c =
    c.sort_unstable_by.ensures.sorted (λ a b. is_lt (posting_cmp a b)) (ranks_by posting_total (λ posting. posting))
    (answers_always _ _ _ (λ f a r g told. search rules))

pub returns-clause-ascending : goal.returns-clause-ascending
returns-clause-ascending c =
    subst (IsStrictlyAscending posting_cmp) (sym (dedup_is is_same_posting c.sort_unstable_by.new.self.items c.dedup.new.self.items c.dedup.ensures.filtered))
    (once_each posting_total posting_ties c.sort_unstable_by.new.self.items (in_order c.before.before))

pub returns-clause-members : goal.returns-clause-members
returns-clause-members c = same_members _ _ _ (all_sorted _ _ c.sort_unstable_by.ensures.permutation)
    (λ posting. subst (λ (all : List Posting). Contains all posting ↔ Contains c.sort_unstable_by.new.self.items posting)
    (sym (dedup_is is_same_posting c.sort_unstable_by.new.self.items c.dedup.new.self.items c.dedup.ensures.filtered))
    (all_there posting_equivalence same_posting _ _))
