-- The five times of an intermediate location, each read in its own lane of a vector. The lemmas
-- show that each lane tests and reads its field as the definitions say.
use Rattle.cif_laws.proofs.Common.{◌≡◌, ℕ, zero, suc, ◌+◌, ◌-◌, ◌*◌, ◌%◌, ◌^◌, ◌<◌, ◌≤◌, nat_eq, nat_lt, Bool, true, false, cond, ◌&&◌, List, rules}
use Rattle.cif_laws.proofs.Common.{common_steps, [], ◌∷◌, ◌++◌, length, get_or, w8, refl, sym, ap, subst, ◌∙◌, arith, ◌==◌, ◌||◌, nat_le, is_ascii_digit}
use Rattle.cif_laws.proofs.Common.{leb-true, ltb-true, chunk, top, mask_l, columns, is_present_time, is_scheduled_time, is_public_time, half_minutes}
use Rattle.std.proofs.Common.{bit_and, bit_or, Fits}
use Rattle.std.proofs.lemmas.Bool.{agree_below_at}
use Rattle.cif_laws.proofs.lists.BoolsAndOptions.{both}
use Rattle.cif_line.specs.CallRead.{half_minutes_or_none}

-- ---- masks

-- a 16-bit lane of a mask: all its bits are set if the test passes, and none if it fails
abbrev mask : Bool → ℕ
mask b = cond b 65535 0

masks_and : (p q : Bool) → bit_and (mask p) (mask q) ≡ mask (p && q)
masks_and = search rules

masks_or : (p q : Bool) → bit_or (mask p) (mask q) ≡ mask (p || q)
masks_or = search rules

mask_set : (p : Bool) → top 15 (mask p) ≡ p
mask_set = search rules

-- ---- one lane, from its five bytes

-- a byte minus the code of `0`, modulo 2^16: 0 to 9 for a digit, and more for any other byte
abbrev above : ℕ → ℕ
above b = (b + 65488) % 65536

-- the number that two bytes spell if both are digits, computed modulo 2^16
abbrev spells : ℕ → ℕ → ℕ
spells a b = ((above a * 10) % 65536 + above b) % 65536

-- the test that a lane computes of four bytes and an end: four digits, an hour below 24, a minute
-- below 60, then `H` or a space
abbrev time_test : ℕ → ℕ → ℕ → ℕ → Bool → Bool → Bool
time_test a b c d half space =
    (((((nat_le (above a) 9 && nat_le (above b) 9) && nat_le (above c) 9) && nat_le (above d) 9) && nat_lt (spells a b) 24) && nat_lt (spells c d) 60)
    && (half || space)

abbrev blank_test : ℕ → ℕ → ℕ → ℕ → Bool → Bool
blank_test a b c d space =
    (((nat_eq (above a) 65520 && nat_eq (above b) 65520) && nat_eq (above c) 65520) && nat_eq (above d) 65520) && space

-- the mask of the test whether a lane ends in a space. A public time has no last byte, so the lane of
-- a public time always passes
abbrev space_mask : ℕ → Bool → ℕ
space_mask e public = bit_or (mask (e == 32)) (mask public)

-- a lane of a scheduled time ends in a space if and only if its last byte is a space
scheduled_end : (e : ℕ) → space_mask e false ≡ mask (e == 32)
scheduled_end = search (rules, bit_or)

-- each lane of a public time counts as one that ends in a space
public_end : (e : ℕ) → space_mask e true ≡ mask true
public_end = search (rules, bit_or)

-- the test whether four bytes and an end are a time, as a mask: the bitwise AND of the masks of the
-- individual tests
abbrev time_mask : ℕ → ℕ → ℕ → ℕ → ℕ → ℕ → ℕ
time_mask a b c d half space =
    bit_and
    (bit_and
    (bit_and
    (bit_and (bit_and (bit_and (mask (nat_le (above a) 9)) (mask (nat_le (above b) 9))) (mask (nat_le (above c) 9))) (mask (nat_le (above d) 9)))
    (mask (nat_lt (spells a b) 24))) (mask (nat_lt (spells c d) 60)))
    (bit_or half space)

abbrev blank_mask : ℕ → ℕ → ℕ → ℕ → ℕ → ℕ
blank_mask a b c d space =
    bit_and
    (bit_and (bit_and (bit_and (mask (nat_eq (above a) 65520)) (mask (nat_eq (above b) 65520))) (mask (nat_eq (above c) 65520)))
    (mask (nat_eq (above d) 65520)))
    space

-- the half minutes that a lane computes from its five bytes, modulo 2^16. The result is right only
-- if the bytes are a time
abbrev lane_half_minutes : ℕ → ℕ → ℕ → ℕ → ℕ → ℕ
lane_half_minutes a b c d e = (((spells a b * 120) % 65536 + (spells c d * 2) % 65536) % 65536 + cond (top 15 (mask (e == 72))) 1 0) % 65536

five_and : (p q r s t : Bool) → bit_and (bit_and (bit_and (bit_and (mask p) (mask q)) (mask r)) (mask s)) (mask t) ≡ mask ((((p && q) && r) && s) && t)
five_and = search (rules, bit_and, masks_and)

time_masked : (a b c d : ℕ) (half space : Bool) → time_mask a b c d (mask half) (mask space) ≡ mask (time_test a b c d half space)
time_masked = search (rules, bit_and, five_and, nat_lt, masks_or, masks_and)

blank_masked : (a b c d : ℕ) (space : Bool) → blank_mask a b c d (mask space) ≡ mask (blank_test a b c d space)
blank_masked = search (rules, five_and, nat_eq)

-- the top bit of a lane is set if and only if one of the lane's two tests passes
lane_set : (a b c d : ℕ) (half space : Bool)
    → top 15 (bit_or (time_mask a b c d (mask half) (mask space)) (blank_mask a b c d (mask space)))
    ≡ (time_test a b c d half space || blank_test a b c d space)
lane_set = search (rules, bit_or, time_masked, blank_masked, masks_or, mask_set)

-- ---- the tests of a lane equal the tests in the definitions

digit_test : (b : ℕ) → b < 256 → nat_le (above b) 9 ≡ is_ascii_digit b
digit_test b low = agree_below_at (λ x. nat_le (above x) 9) is_ascii_digit 256 b refl low

space_test : (b : ℕ) → b < 256 → nat_eq (above b) 65520 ≡ (b == 32)
space_test b low = agree_below_at (λ x. nat_eq (above x) 65520) (λ x. x == 32) 256 b refl low

digit_low : (b : ℕ) → is_ascii_digit b ≡ true → 48 ≤ b
digit_low b is = leb-true 48 b (both (nat_le 48 b) (nat_le b 57) is).0

digit_high : (b : ℕ) → is_ascii_digit b ≡ true → b ≤ 57
digit_high b is = leb-true b 57 (both (nat_le 48 b) (nat_le b 57) is).1

above_is : (b : ℕ) → is_ascii_digit b ≡ true → above b ≡ b - 48
above_is b is = omega (arith, digit_low b is, digit_high b is)

-- the number that two digits spell is ten times the first digit plus the second
spells_is : (a b : ℕ) → is_ascii_digit a ≡ true → is_ascii_digit b ≡ true → spells a b ≡ 10 * (a - 48) + (b - 48)
spells_is = search (rules, above_is, digit_low, digit_high)

-- a lane combines the tests of a time with AND in a different order from the definition, but the
-- result is the same. If both bytes of the hour are digits, the lane's test of the hour has to
-- equal the definition's test. Otherwise it may differ. The same is true of the minute
in_order : (a b c d h m : Bool) (x y z : Bool) → (a ≡ true → b ≡ true → h ≡ x) → (c ≡ true → d ≡ true → m ≡ y)
    → ((((((a && b) && c) && d) && h) && m) && z) ≡ ((((a && (b && (c && (d && true)))) && x) && y) && z)
in_order = search rules

module _ (a b c d e : ℕ) (la : a < 256) (lb : b < 256) (lc : c < 256) (ld : d < 256) (le : e < 256) where
  time_is : time_test a b c d (e == 72) (e == 32) ≡ is_present_time (a ∷ b ∷ c ∷ d ∷ e ∷ [])
  time_is = search (rules, digit_test, nat_lt, in_order, spells_is)

  regrouped : (p q r s t : Bool) → ((((p && q) && r) && s) && t) ≡ (p && (q && (r && (s && (t && true)))))
  regrouped = search rules

  or_swapped : (p q : Bool) → (p || q) ≡ (q || p)
  or_swapped = search rules

  -- one of a lane's two tests passes if and only if the lane's field is blank or a time
  pub tests_good : (time_test a b c d (e == 72) (e == 32) || blank_test a b c d (e == 32)) ≡ is_scheduled_time (a ∷ b ∷ c ∷ d ∷ e ∷ [])
  tests_good = search (rules, time_is, space_test, regrouped, or_swapped)

  -- the top bit of a lane is set if and only if the lane's field is blank or a time
  pub lane_good :
      top 15 (bit_or (time_mask a b c d (mask (e == 72)) (space_mask e false)) (blank_mask a b c d (space_mask e false)))
      ≡ is_scheduled_time (a ∷ b ∷ c ∷ d ∷ e ∷ [])
  lane_good = search (rules, bit_or, scheduled_end, lane_set, tests_good)

  digits_of : is_present_time (a ∷ b ∷ c ∷ d ∷ e ∷ []) ≡ true
      → (is_ascii_digit a ≡ true) × (is_ascii_digit b ≡ true) × (is_ascii_digit c ≡ true) × (is_ascii_digit d ≡ true)
      × (nat_lt (10 * (a - 48) + (b - 48)) 24 ≡ true) × (nat_lt (10 * (c - 48) + (d - 48)) 60 ≡ true)
  digits_of = search (rules, both, nat_lt)

  half_of : (half : Bool) → ◌≡◌ {A = ℕ} (cond (top 15 (mask half)) 1 0) (cond half 1 0)
  half_of half = λ i. cond (mask_set half i) 1 0

  value_is : is_present_time (a ∷ b ∷ c ∷ d ∷ e ∷ []) ≡ true → lane_half_minutes a b c d e ≡ half_minutes (a ∷ b ∷ c ∷ d ∷ e ∷ [])
  value_is = search (rules, digits_of, spells_is, half_of, ltb-true)

  -- a lane computes the half minutes of its field, or 65535 if the field has no time
  pub lane_told :
      cond (top 15 (time_mask a b c d (mask (e == 72)) (space_mask e false))) (lane_half_minutes a b c d e) 65535
      ≡ half_minutes_or_none (a ∷ b ∷ c ∷ d ∷ e ∷ [])
  lane_told = grind (common_steps, arith, scheduled_end, time_masked, mask_set, time_is, value_is)

-- a field is a public time, HHMM or blank, if and only if the field followed by a space is a
-- scheduled time or blank
public_lane : (a b c d : ℕ) → is_scheduled_time (a ∷ b ∷ c ∷ d ∷ 32 ∷ []) ≡ is_public_time (a ∷ b ∷ c ∷ d ∷ [])
public_lane = search rules

-- the top bit of the lane of a public time is set if and only if the field is blank or a time. The
-- last byte, which is a byte of another field, doesn't matter
public_good : (a b c d e : ℕ) → a < 256 → b < 256 → c < 256 → d < 256
    → top 15 (bit_or (time_mask a b c d (mask (e == 72)) (space_mask e true)) (blank_mask a b c d (space_mask e true)))
    ≡ is_public_time (a ∷ b ∷ c ∷ d ∷ [])
public_good a b c d e la lb lc ld =
    (λ i. top 15 (bit_or (time_mask a b c d (mask (e == 72)) (public_end e i)) (blank_mask a b c d (public_end e i))))
    ∙ lane_set a b c d (e == 72) true
    ∙ by (e == 72)
    ∙ tests_good a b c d 32 la lb lc ld (omega arith)
    ∙ public_lane a b c d
  where
    by : (half : Bool) → (time_test a b c d half true || blank_test a b c d true) ≡ (time_test a b c d false true || blank_test a b c d true)
    by true = refl
    by false = refl

-- ---- eight lanes at once

-- the top bits of all eight lanes are set if and only if the five tests pass, since the last three
-- lanes repeat the first lane
pub eight : (a d p m n : Bool) → nat_eq (mask_l (a ∷ d ∷ p ∷ m ∷ n ∷ a ∷ a ∷ a ∷ []) % 2 ^ 64) 255 ≡ ((((a && d) && p) && m) && n)
eight = search rules

-- ---- the lanes of a line

-- `cells n xs` is the list of the first `n` elements of `xs`, each written out; `head_of` is the
-- first element of a list, or 0 if the list is empty, and `tail_of` is the list without its first
-- element
abbrev head_of : List ℕ → ℕ
head_of [] = 0
head_of (x ∷ xs) = x

abbrev tail_of : List ℕ → List ℕ
tail_of [] = []
tail_of (x ∷ xs) = xs

abbrev cells : ℕ → List ℕ → List ℕ
cells zero xs = []
cells (suc n) xs = head_of xs ∷ cells n (tail_of xs)

cells_are : (n : ℕ) (xs : List ℕ) → length xs ≡ n → cells n xs ≡ xs
cells_are zero [] size = refl
cells_are (suc n) (x ∷ xs) size = ap (λ rest. x ∷ rest) (cells_are n xs (omega arith))
cells_are _ _ size = absurd (omega arith)

-- the byte at an index of the first two blocks of a line, which are columns 1 to 32
abbrev pub picked : List ℕ → ℕ → ℕ
picked line k = get_or (chunk 0 16 line ++ chunk 16 16 line) k 0

-- the first byte of the third block: column 33
abbrev pub last_picked : List ℕ → ℕ
last_picked line = get_or (chunk 32 8 line) 0 0

-- the half minutes that the lane of a scheduled time computes from the loaded bytes at five indexes,
-- or 65535 if these bytes aren't a time
abbrev pub tells : List ℕ → ℕ → ℕ → ℕ → ℕ → ℕ → ℕ
tells line a b c d e =
    cond (top 15 (time_mask (picked line a) (picked line b) (picked line c) (picked line d) (mask (picked line e == 72)) (space_mask (picked line e) false)))
    (lane_half_minutes (picked line a) (picked line b) (picked line c) (picked line d) (picked line e)) 65535

-- whether a lane is set: its four bytes and its end are blank or a time
abbrev pub lane_is_set : ℕ → ℕ → ℕ → ℕ → ℕ → Bool → Bool
lane_is_set a b c d e public =
    top 15 (bit_or (time_mask a b c d (mask (e == 72)) (space_mask e public)) (blank_mask a b c d (space_mask e public)))

-- whether the lane of a scheduled time is set, by the indexes of its five bytes
abbrev pub set_lane : List ℕ → ℕ → ℕ → ℕ → ℕ → ℕ → Bool
set_lane line a b c d e = lane_is_set (picked line a) (picked line b) (picked line c) (picked line d) (picked line e) false

-- whether the lanes of the public arrival and the public departure are set. Both lanes repeat the
-- last byte of lane 0
abbrev pub arrival_lane : List ℕ → Bool
arrival_lane line = lane_is_set (picked line 25) (picked line 26) (picked line 27) (picked line 28) (picked line 14) true

abbrev pub departure_lane : List ℕ → Bool
departure_lane line = lane_is_set (picked line 29) (picked line 30) (picked line 31) (last_picked line) (picked line 14) true

-- Says that each element of a line fits in a byte.
abbrev pub AreBytes : List ℕ → Type 0
AreBytes line = (k : ℕ) → Fits w8 (get_or line k 0)

-- Says that the lanes of a line hold the five times of the line, and test whether they are good.
abbrev pub LanesTold : List ℕ → Type 0
LanesTold line = record {
  arrival_told : tells line 10 11 12 13 14 ≡ half_minutes_or_none (columns 11 15 line);
  departure_told : tells line 15 16 17 18 19 ≡ half_minutes_or_none (columns 16 20 line);
  pass_told : tells line 20 21 22 23 24 ≡ half_minutes_or_none (columns 21 25 line);
  arrival_good : set_lane line 10 11 12 13 14 ≡ is_scheduled_time (columns 11 15 line);
  departure_good : set_lane line 15 16 17 18 19 ≡ is_scheduled_time (columns 16 20 line);
  pass_good : set_lane line 20 21 22 23 24 ≡ is_scheduled_time (columns 21 25 line);
  public_arrival_good : arrival_lane line ≡ is_public_time (columns 26 29 line);
  public_departure_good : departure_lane line ≡ is_public_time (columns 30 33 line);
}

module _ (line : List ℕ) (size : length line ≡ 80) (bytes : AreBytes line) where
  pub lanes_told : LanesTold line
  lanes_told =
      let fits : AreBytes (cells 80 line) = subst AreBytes (sym (cells_are 80 line size)) bytes in
      subst LanesTold (cells_are 80 line size) (record {
        arrival_told = lane_told _ _ _ _ _ (fits 10).fits (fits 11).fits (fits 12).fits (fits 13).fits (fits 14).fits;
        departure_told = lane_told _ _ _ _ _ (fits 15).fits (fits 16).fits (fits 17).fits (fits 18).fits (fits 19).fits;
        pass_told = lane_told _ _ _ _ _ (fits 20).fits (fits 21).fits (fits 22).fits (fits 23).fits (fits 24).fits;
        arrival_good = lane_good _ _ _ _ _ (fits 10).fits (fits 11).fits (fits 12).fits (fits 13).fits (fits 14).fits;
        departure_good = lane_good _ _ _ _ _ (fits 15).fits (fits 16).fits (fits 17).fits (fits 18).fits (fits 19).fits;
        pass_good = lane_good _ _ _ _ _ (fits 20).fits (fits 21).fits (fits 22).fits (fits 23).fits (fits 24).fits;
        public_arrival_good = public_good _ _ _ _ (get_or (cells 80 line) 14 0) (fits 25).fits (fits 26).fits (fits 27).fits (fits 28).fits;
        public_departure_good = public_good _ _ _ _ (get_or (cells 80 line) 14 0) (fits 29).fits (fits 30).fits (fits 31).fits (fits 32).fits;
      })

  -- all eight lanes are set if and only if the five time fields are good
  pub all_set :
      nat_eq
      (mask_l
      (set_lane line 10 11 12 13 14 ∷ set_lane line 15 16 17 18 19 ∷ set_lane line 20 21 22 23 24 ∷ arrival_lane line
      ∷ departure_lane line ∷ set_lane line 10 11 12 13 14 ∷ set_lane line 10 11 12 13 14 ∷ set_lane line 10 11 12 13 14 ∷ [])
      % 2 ^ 64)
      255
      ≡ ((((is_scheduled_time (columns 11 15 line) && is_scheduled_time (columns 16 20 line)) && is_scheduled_time (columns 21 25 line))
      && is_public_time (columns 26 29 line))
      && is_public_time (columns 30 33 line))
  all_set =
      let told = lanes_told in
      search (rules, eight, told.arrival_good, told.departure_good, told.pass_good, told.public_arrival_good, told.public_departure_good)
