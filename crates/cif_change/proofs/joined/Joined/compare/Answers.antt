use Rattle.cif_laws.proofs.Common.{◌≡◌, refl, nat_cmp}
use Rattle.std.proofs.lemmas.Iterator.Consumers.{YieldsList-from_first}
use Rattle.std.proofs.lemmas.Iterator.Search.{cmp_from_yields_List}
use Rattle.cif_change.specs.Joined.{joined_bytes}
use Rattle.cif_change.proofs.joined.Joined.compare.Goals as goal

pub returns : goal.returns
returns c =
    cmp_from_yields_List (λ x y. y ≡ x) _ nat_cmp _ c.cmp.ensures.ran
    (YieldsList-from_first (λ x. x) joined_bytes _ refl)
    (λ it same. YieldsList-from_first (λ x. x) joined_bytes _ (λ i. joined_bytes (same i)))
    (λ x y. refl)
