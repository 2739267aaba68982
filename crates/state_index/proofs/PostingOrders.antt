-- The order of postings: it is total, and it is the order of the numbers that code compares.
use Rattle.cif_laws.proofs.Common.{◌≡◌, ℕ, Bool, ◌+◌, ◌*◌, ◌^◌, ◌<◌, rules, ◌==◌, ◌&&◌, IsTotalOrder, then_total, on_total, nat_cmp_total, ordering_then}
use Rattle.cif_laws.proofs.Common.{nat_cmp}
use Rattle.std.specs.Ordering.{eq_by_cmp}
use Rattle.state_index.specs.declared.posting.Posting.{Posting}
use Rattle.state_index.specs.PostingOrder.{posting_cmp}

-- the order of postings is total
pub posting_total : IsTotalOrder posting_cmp
posting_total = then_total (on_total (λ (m : Posting). m.place) nat_cmp_total) (on_total (λ (m : Posting). m.at) nat_cmp_total)

-- two numbers of 64 bits are in the order of their upper halves, and if these are equal, in the
-- order of their lower halves
pub halves_cmp : (upper lower upper_2 lower_2 : ℕ) → lower < 2 ^ 32 → lower_2 < 2 ^ 32
    → nat_cmp (upper * 2 ^ 32 + lower) (upper_2 * 2 ^ 32 + lower_2) ≡ ordering_then (nat_cmp upper upper_2) (nat_cmp lower lower_2)
halves_cmp = search rules

-- whether two postings have the same place and the same row
abbrev pub is_same_posting : Posting → Posting → Bool
is_same_posting a b = (a.place == b.place) && (a.at == b.at)

-- two postings have the same place and the same row if and only if they compare as equal
pub posting_ties : (a b : Posting) → is_same_posting a b ≡ eq_by_cmp posting_cmp a b
posting_ties = search rules
