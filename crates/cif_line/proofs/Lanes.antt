-- A block of bytes is tested at once, with one lane for each byte. The lemmas show that the result
-- is the same as if each byte were tested by itself.
use Rattle.cif_laws.proofs.Common.{◌≡◌, ℕ, ◌+◌, ◌*◌, ◌%◌, ◌^◌, ◌≤◌, nat_eq, nat_lt, Bool, true, false, cond, not, ◌&&◌, List, rules, [], ◌∷◌, map, length, take}
use Rattle.cif_laws.proofs.Common.{drop, replicate, w8, refl, sym, ap, ◌∙◌, arith, nat_tests, list_all, length-map, drop_all, mask_l, top}
use Rattle.std.proofs.Common.{Fits}
use Rattle.std.proofs.lemmas.Bool.{agree_below, agree_below_at}
use Rattle.std.proofs.lemmas.Simd.{map-map, mask_l-mod, chunk-drop, zip2_of_maps, splat_is_map, zip2_splat}
use Rattle.std.proofs.lemmas.List.Folds.{list_all-append}
use lib.Lanes.{Each1, zip2}

-- a binary number whose lowest digit is 1 isn't 0
one_set : (m : ℕ) → nat_eq (1 + 2 * m) 0 ≡ false
one_set m = grind (arith, nat_tests)

-- twice a number is 0 if and only if the number is 0
twice : (m : ℕ) → nat_eq (0 + 2 * m) 0 ≡ nat_eq m 0
twice m = grind (arith, nat_tests)

-- a mask of lanes is 0 if and only if no lane is set
mask_zero : (p : ℕ → Bool) (xs : List ℕ) → nat_eq (mask_l (map p xs)) 0 ≡ list_all (λ x. not (p x)) xs
mask_zero p [] = refl
mask_zero p (x ∷ xs) = grind (arith, nat_eq, not, one_set, twice, (mask_zero p xs))

-- two tests that agree on each number below 256 agree on each list of bytes
agree_all : (f g : ℕ → Bool) → agree_below f g 256 ≡ true → (xs : List ℕ) → Each1 (Fits w8) xs → list_all f xs ≡ list_all g xs
agree_all f g agree [] fits = refl
agree_all f g agree (x ∷ xs) fits = λ i. agree_below_at f g 256 x agree fits.0.fits i && agree_all f g agree xs fits.1 i

-- the lane of a byte `x`: all bits of the lane are set if the byte is above the limit, and
-- otherwise the lane is 0
unfoldable pub above : ℕ → ℕ → ℕ
above limit x = cond (nat_lt limit x) 255 0

-- Suppose that two operations, each with a constant, compute the value of a lane from the lane's
-- byte. Suppose also that the lane is clear if and only if the byte passes a test. Then no lane is
-- set if and only if all bytes pass the test.
pub no_lane_set : (q : ℕ → Bool) (bytes : List ℕ) (n : ℕ) (f g : ℕ → ℕ → ℕ) (a b : ℕ) → length bytes ≡ n → n ≤ 64 → Each1 (Fits w8) bytes
    → agree_below (λ x. not (top 7 (f a (g x b)))) q 256 ≡ true
    → nat_eq (mask_l (map (top 7) (zip2 f (replicate n a) (zip2 g bytes (replicate n b)))) % 2 ^ 64) 0 ≡ list_all q bytes
no_lane_set q bytes n f g a b long few fits agree =
    let lane : ℕ → ℕ = λ x. f a (g x b) in
    let lanes : zip2 f (replicate n a) (zip2 g bytes (replicate n b)) ≡ map lane bytes =
    zip2_of_maps f (λ x. a) (λ x. g x b) bytes (splat_is_map bytes n a long) (zip2_splat g bytes n b long) in
    ap (λ l. nat_eq (mask_l l % 2 ^ 64) 0) (ap (map (top 7)) lanes ∙ map-map (top 7) lane bytes)
    ∙ ap (λ m. nat_eq m 0) (mask_l-mod (map (λ x. top 7 (lane x)) bytes) 64 (omega (arith, length-map bytes (λ x. top 7 (lane x)))))
    ∙ mask_zero (λ x. top 7 (lane x)) bytes
    ∙ agree_all (λ x. not (top 7 (lane x))) q agree bytes fits

-- ---- a line of 80 bytes, in five blocks

-- five tests joined by AND have the same result whether they are grouped from the left or from the
-- right
five : (a b c d e : Bool) → ((((a && b) && c) && d) && e) ≡ (a && (b && (c && (d && (e && true)))))
five = search rules

-- whether the sixteen bytes that begin at an index pass the test
abbrev pub block_passes : (ℕ → Bool) → List ℕ → ℕ → Bool
block_passes q bytes at = list_all q (take 16 (drop at bytes))

-- all bytes from an index on pass the test if and only if the first sixteen of them pass and all
-- later bytes pass
block_and_rest : (q : ℕ → Bool) (bytes : List ℕ) (at : ℕ) → list_all q (drop at bytes) ≡ (block_passes q bytes at && list_all q (drop (at + 16) bytes))
block_and_rest q bytes at = ap (list_all q) (chunk-drop at 16 bytes) ∙ list_all-append q (take 16 (drop at bytes)) (drop (at + 16) bytes)

-- a line has no byte after its eightieth, so every byte after the eightieth passes the test
nothing_left : (q : ℕ → Bool) (bytes : List ℕ) → length bytes ≡ 80 → list_all q (drop 80 bytes) ≡ true
nothing_left q bytes size = ap (list_all q) (drop_all 80 bytes (let long : length bytes ≤ 80 = omega arith in long))

-- a line passes the test if and only if each of its five blocks of sixteen bytes passes
pub five_blocks : (q : ℕ → Bool) (bytes : List ℕ) → length bytes ≡ 80 →
    ((((block_passes q bytes 0 && block_passes q bytes 16) && block_passes q bytes 32) && block_passes q bytes 48) && block_passes q bytes 64)
    ≡ list_all q bytes
five_blocks q bytes size =
    let passes : ℕ → Bool = block_passes q bytes in
    five (passes 0) (passes 16) (passes 32) (passes 48) (passes 64)
    ∙ (λ i. passes 0 && (passes 16 && (passes 32 && (passes 48 && (passes 64 && sym (nothing_left q bytes size) i)))))
    ∙ (λ i. passes 0 && (passes 16 && (passes 32 && (passes 48 && sym (block_and_rest q bytes 64) i))))
    ∙ (λ i. passes 0 && (passes 16 && (passes 32 && sym (block_and_rest q bytes 48) i)))
    ∙ (λ i. passes 0 && (passes 16 && sym (block_and_rest q bytes 32) i))
    ∙ (λ i. passes 0 && sym (block_and_rest q bytes 16) i)
    ∙ sym (block_and_rest q bytes 0)
