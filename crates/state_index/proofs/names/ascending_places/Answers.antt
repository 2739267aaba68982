use Rattle.cif_laws.proofs.Common.{ℕ, List, sym, subst, Contains, bytes_eq, nat_list_cmp_total, bytes_eq-Decides, bytes_cmp, IsStrictlyAscending}
use Rattle.std.proofs.lemmas.Cmp.{nat_list_eq_equiv}
use Rattle.std.proofs.lemmas.List.Filters.{dedup_is}
use Rattle.state_index.proofs.SortedSpots.{once_each, all_there, all_sorted, same_places}
use Rattle.state_index.proofs.names.ascending_places.Goals as goal

pub returns-clause-up : goal.returns-clause-up
returns-clause-up c = subst (IsStrictlyAscending bytes_cmp)
    (sym (dedup_is bytes_eq c.sort_unstable.new.self.items c.dedup.new.self.items c.dedup.ensures.filtered))
    (once_each nat_list_cmp_total same_places _ c.sort_unstable.ensures.sorted)

pub returns-clause-all : goal.returns-clause-all
returns-clause-all c = λ place among. subst (λ (all : List (List ℕ)). Contains all place)
    (sym (dedup_is bytes_eq c.sort_unstable.new.self.items c.dedup.new.self.items c.dedup.ensures.filtered))
    ((all_there nat_list_eq_equiv (λ a b told. (bytes_eq-Decides a b).0 told) _ _).1 ((all_sorted _ _ c.sort_unstable.ensures.permutation _).1 among))
