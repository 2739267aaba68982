-- Packing the seven bytes of a place into one number loses nothing: two places are equal if and only if their numbers are equal.
use Rattle.cif_laws.proofs.Common.{◌≡◌, ◌<◌, ◌+◌, ◌++◌, [], ◌∷◌, ℕ, List, length, get_or, subst, sym, refl, ap, ◌∙◌, arith, common_steps, w64, length-append}
use Rattle.std.specs.Int.{from_le_bytes, to_le_bytes}
use Rattle.std.proofs.lemmas.Nat.{le_bytes_8}
use Rattle.std.proofs.lemmas.List.{append_cancel_right}

-- An element that is read past the end of a list counts as 0, so appending a 0 changes no element that is read.
last_zero : (xs : List ℕ) (i : ℕ) → get_or (xs ++ 0 ∷ []) i 0 ≡ get_or xs i 0
last_zero = grind (common_steps, arith)

-- Unpacking the number into which seven bytes were packed results in these bytes, followed by a 0.
digits : (xs : List ℕ) → length xs ≡ 7 → ((i : ℕ) → get_or xs i 0 < 256)
    → to_le_bytes w64 (from_le_bytes w64 (xs ++ 0 ∷ [])) ≡ xs ++ 0 ∷ []
digits xs len fits = le_bytes_8 (xs ++ 0 ∷ []) _ (length-append xs (0 ∷ []) ∙ ap (λ n. n + 1) len)
    (λ i. subst (λ n. n < 256) (sym (last_zero xs i)) (fits i)) refl

-- If two places are packed into the same number, they are equal.
pub one_place : (xs ys : List ℕ) → length xs ≡ 7 → length ys ≡ 7
    → ((i : ℕ) → get_or xs i 0 < 256) → ((i : ℕ) → get_or ys i 0 < 256)
    → from_le_bytes w64 (xs ++ 0 ∷ []) ≡ from_le_bytes w64 (ys ++ 0 ∷ []) → xs ≡ ys
one_place xs ys len other_len fits other_fits same = append_cancel_right xs ys (0 ∷ [])
    (sym (digits xs len fits) ∙ ap (to_le_bytes w64) same ∙ digits ys other_len other_fits)
