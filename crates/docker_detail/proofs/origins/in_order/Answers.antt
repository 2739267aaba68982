use Rattle.cif_laws.proofs.Common.{rules, is_lt, docker_line_cmp}
use Rattle.std.proofs.lemmas.List.MinMax.{ranks_by}
use Rattle.std.proofs.lemmas.List.Sorted.{answers_always}
use Rattle.cif_laws.proofs.orders.Orders.{docker_line_total}
use Rattle.docker_detail.specs.Finding.{Detailed}
use Rattle.docker_detail.proofs.InOrder.{firsts_sorted}
use Rattle.docker_detail.proofs.origins.in_order.Goals as goal

pub returns-clause-sorted : goal.returns-clause-sorted
returns-clause-sorted c = firsts_sorted _
    (c.sort_unstable_by.ensures.sorted (λ (a b : Detailed). is_lt (docker_line_cmp a.0 b.0)) (ranks_by docker_line_total (λ (line : Detailed). line.0))
    (answers_always _ _ _ (λ f a r g told. search rules)))
