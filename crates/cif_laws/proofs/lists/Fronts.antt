-- Two prefixes of one list that have the same length are equal.
use Rattle.cif_laws.proofs.Common.{◌≡◌, ℕ, List, ◌++◌, length, ◌∷◌, refl, arith, []}

-- two prefixes of one list that have the same length are equal, and what follows them in the list
-- is equal too
pub same_front : (xs ys more rest : List ℕ) → length xs ≡ length ys → xs ++ more ≡ ys ++ rest → (xs ≡ ys) × (more ≡ rest)
same_front [] [] more rest size same = (refl, same)
same_front [] (y ∷ ys) more rest size same = absurd (omega arith)
same_front (x ∷ xs) [] more rest size same = absurd (omega arith)
same_front (x ∷ xs) (y ∷ ys) more rest size same =
    let whole : x ∷ (xs ++ more) ≡ y ∷ (ys ++ rest) = same in
    let heads : x ≡ y = cc in
    let tails : xs ++ more ≡ ys ++ rest = cc in
    let told = same_front xs ys more rest (omega arith) tails in
    ((λ i. heads i ∷ told.0 i), told.1)
