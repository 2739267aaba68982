-- Two lines are equal if and only if their five blocks of sixteen bytes are equal. A block is compared with one lane for each byte.
use Rattle.cif_laws.proofs.Common.{◌≡◌, ℕ, ◌+◌, ◌*◌, ◌%◌, ◌^◌, ◌≤◌, nat_eq, Bool, true, false, cond, not, ◌&&◌, List, rules, [], ◌∷◌, ◌++◌, map, length, take}
use Rattle.cif_laws.proofs.Common.{drop, w8, refl, sym, ap, ◌∙◌, arith, ◌↔◌, IsTrue, eqb-true, nat_tests, drop_all, mask_l, top}
use Rattle.std.proofs.lemmas.Simd.{mask_l-mod, chunk-drop, tops_compared, length-zip2}
use lib.Lanes.{zip2}

-- whether two bytes differ
abbrev differ : ℕ → ℕ → Bool
differ a b = not (nat_eq a b)

-- the lane for two bytes: 255 if they differ, and otherwise 0
abbrev pub lane : ℕ → ℕ → ℕ
lane a b = cond (differ a b) 255 0

-- a binary number whose lowest digit is 1 isn't 0
one_set : (m : ℕ) → nat_eq (1 + 2 * m) 0 ≡ false
one_set m = grind (arith, nat_tests)

-- twice a number is 0 if and only if the number is 0
twice : (m : ℕ) → nat_eq (0 + 2 * m) 0 ≡ nat_eq m 0
twice m = grind (arith, nat_tests)

-- two lists of the same length are equal if their mask of differences is 0. This mask has a bit set for each pair of bytes that differ
none_differs : (xs ys : List ℕ) → length xs ≡ length ys → nat_eq (mask_l (zip2 differ xs ys)) 0 ≡ true → xs ≡ ys
none_differs [] [] even none = refl
none_differs (x ∷ xs) (y ∷ ys) even none = grind (arith, nat_eq, not, eqb-true, twice, one_set, (none_differs xs ys (omega arith)))
none_differs _ _ even none = absurd (omega arith)

-- if two lists are equal, their mask of differences is 0. This mask has a bit set for each pair of bytes that differ
none_of_same : (xs : List ℕ) → nat_eq (mask_l (zip2 differ xs xs)) 0 ≡ true
none_of_same [] = refl
none_of_same (x ∷ xs) = grind (arith, nat_eq, nat_tests, not, twice, (none_of_same xs))

-- the top bits of the lanes form the mask of differences, which has a bit set for each pair of bytes that differ
mask_of_lanes : (xs ys : List ℕ) → length xs ≡ length ys → length xs ≤ 64
    → mask_l (map (top 7) (zip2 lane xs ys)) % 2 ^ 64 ≡ mask_l (zip2 differ xs ys)
mask_of_lanes xs ys even few =
    ap (λ l. mask_l l % 2 ^ 64) (tops_compared w8 differ xs ys) ∙ mask_l-mod (zip2 differ xs ys) 64 (omega (arith, length-zip2 differ xs ys even))

-- two lists of the same length are equal if no lane is set
pub no_lane_differs : (xs ys : List ℕ) → length xs ≡ length ys → length xs ≤ 64
    → nat_eq (mask_l (map (top 7) (zip2 lane xs ys)) % 2 ^ 64) 0 ≡ true → xs ≡ ys
no_lane_differs = search (rules, none_differs, nat_eq, mask_of_lanes)

-- if two lists are equal, no lane is set
pub no_lane_of_same : (xs ys : List ℕ) → length xs ≤ 64 → xs ≡ ys → nat_eq (mask_l (map (top 7) (zip2 lane xs ys)) % 2 ^ 64) 0 ≡ true
no_lane_of_same = search (rules, nat_eq, mask_of_lanes, none_of_same)

-- two lists are equal from an index on if their next sixteen bytes are equal and all bytes after these are equal
same_rest : (xs ys : List ℕ) (at : ℕ) → take 16 (drop at xs) ≡ take 16 (drop at ys) → drop (at + 16) xs ≡ drop (at + 16) ys → drop at xs ≡ drop at ys
same_rest xs ys at block rest = chunk-drop at 16 xs ∙ (λ i. block i ++ rest i) ∙ sym (chunk-drop at 16 ys)

-- a line has no byte after its eightieth
nothing_left : (bytes : List ℕ) → length bytes ≡ 80 → drop 80 bytes ≡ []
nothing_left bytes size = drop_all 80 bytes (let long : length bytes ≤ 80 = omega arith in long)

-- two lines are equal if each of their five blocks is the same in both
same_line : (xs ys : List ℕ) → length xs ≡ 80 → length ys ≡ 80
    → take 16 (drop 0 xs) ≡ take 16 (drop 0 ys) → take 16 (drop 16 xs) ≡ take 16 (drop 16 ys) → take 16 (drop 32 xs) ≡ take 16 (drop 32 ys)
    → take 16 (drop 48 xs) ≡ take 16 (drop 48 ys) → take 16 (drop 64 xs) ≡ take 16 (drop 64 ys) → xs ≡ ys
same_line xs ys left right first second third fourth fifth =
    same_rest xs ys 0 first
    (same_rest xs ys 16 second
    (same_rest xs ys 32 third (same_rest xs ys 48 fourth (same_rest xs ys 64 fifth (nothing_left xs left ∙ sym (nothing_left ys right))))))

-- if five tests joined by AND pass, each of them passes
all_five : (a b c d e : Bool) → ((((a && b) && c) && d) && e) ≡ true → (a ≡ true) × (b ≡ true) × (c ≡ true) × (d ≡ true) × (e ≡ true)
all_five = search rules

-- Says that two lines have the same sixteen bytes from an index on.
abbrev pub IsSameBlock : List ℕ → List ℕ → ℕ → Type 0
IsSameBlock xs ys at = take 16 (drop at xs) ≡ take 16 (drop at ys)

-- two lines are equal if and only if five tests, one for each block, all pass
pub line_told : (xs ys : List ℕ) → length xs ≡ 80 → length ys ≡ 80 → (a b c d e : Bool)
    → (IsTrue a ↔ IsSameBlock xs ys 0) → (IsTrue b ↔ IsSameBlock xs ys 16) → (IsTrue c ↔ IsSameBlock xs ys 32)
    → (IsTrue d ↔ IsSameBlock xs ys 48) → (IsTrue e ↔ IsSameBlock xs ys 64)
    → IsTrue ((((a && b) && c) && d) && e) ↔ (xs ≡ ys)
line_told = search (rules, all_five, same_line)
