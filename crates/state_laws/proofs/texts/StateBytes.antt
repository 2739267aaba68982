-- Decoding bytes as a number, a ledger item, a stamp or a key, and encoding the result again, gives
-- the same bytes. The number of bytes must be the number that such a value has.
use Rattle.cif_laws.proofs.Common.{◌≡◌, ℕ, zero, suc, ◌<◌, ◌^◌, List, [], ◌∷◌, length, get_or, refl, ap, subst, arith, common_steps, rules, slice_index}
use Rattle.cif_laws.proofs.Common.{AllByRecursion, w16, w32, w64, to_be_bytes, from_be_bytes, key_tag, item_bytes, key_bytes, stamp_bytes, item_in, key_in}
use Rattle.cif_laws.proofs.Common.{stamp_in, key_width, IsTag}
use Rattle.std.proofs.lemmas.Nat.{be_bytes_2, be_bytes_4, be_bytes_8}
use Rattle.docker_model.specs.state.StateText.{schedule_key_in}

-- each number in the list is a byte, from 0 to 255
abbrev pub AreBytes : List ℕ → Type 0
AreBytes bytes = AllByRecursion (λ b. b < 256) bytes

-- each element of a list of bytes is below 256, and so is the default 0 past the end
pub small_at : (bytes : List ℕ) → AreBytes bytes → (i : ℕ) → get_or bytes i 0 < 256
small_at = grind (common_steps, arith)

-- the first element of a list, or 0 if the list is empty
abbrev head_of : List ℕ → ℕ
head_of [] = 0
head_of (x ∷ xs) = x

abbrev tail_of : List ℕ → List ℕ
tail_of [] = []
tail_of (x ∷ xs) = xs

abbrev cells : ℕ → List ℕ → List ℕ
cells zero xs = []
cells (suc n) xs = head_of xs ∷ cells n (tail_of xs)

cells_are : (n : ℕ) (xs : List ℕ) → length xs ≡ n → cells n xs ≡ xs
cells_are zero [] size = refl
cells_are zero (x ∷ xs) size = absurd (omega arith)
cells_are (suc n) [] size = absurd (omega arith)
cells_are (suc n) (x ∷ xs) size = ap (λ rest. x ∷ rest) (cells_are n xs (omega arith))

two_bytes : (a b : ℕ) → a < 256 → b < 256 → to_be_bytes w16 (from_be_bytes w16 (a ∷ b ∷ [])) ≡ a ∷ b ∷ []
two_bytes a b low high = be_bytes_2 (a ∷ b ∷ []) _ refl (small_at (a ∷ b ∷ []) (low, (high, tt))) refl

-- decoding four bytes as a number, and encoding the number again, gives the same bytes
pub four_bytes : (bytes : List ℕ) → length bytes ≡ 4 → AreBytes bytes → to_be_bytes w32 (from_be_bytes w32 bytes) ≡ bytes
four_bytes bytes size small = be_bytes_4 bytes _ size (small_at bytes small) refl

-- decoding eight bytes as a number, and encoding the number again, gives the same bytes
pub eight_bytes : (bytes : List ℕ) → length bytes ≡ 8 → AreBytes bytes → to_be_bytes w64 (from_be_bytes w64 bytes) ≡ bytes
eight_bytes bytes size small = be_bytes_8 bytes _ size (small_at bytes small) refl

-- the number that eight bytes encode is below 2^64
pub eight_fit : (bytes : List ℕ) → AreBytes bytes → from_be_bytes w64 bytes < 2 ^ 64
eight_fit = search (rules, small_at)

-- decoding 19 bytes as a ledger item, and encoding the item again, gives the same bytes
pub item_written : (bytes : List ℕ) → length bytes ≡ 19 → AreBytes bytes → item_bytes (item_in bytes) ≡ bytes
item_written = grind (common_steps, arith, cells_are, two_bytes)

-- decoding 15 bytes as a stamp, and encoding the stamp again, gives the same bytes
pub stamp_written : (bytes : List ℕ) → length bytes ≡ 15 → AreBytes bytes → stamp_bytes (stamp_in bytes) ≡ bytes
stamp_written = search (rules, cells_are, two_bytes, four_bytes)

schedule_written : (bytes : List ℕ) → length bytes ≡ 9 → AreBytes bytes → key_bytes (schedule_key_in bytes) ≡ bytes
schedule_written bytes size all = subst (λ xs. AreBytes xs → key_bytes (schedule_key_in xs) ≡ xs) (cells_are 9 bytes size) written all
  where
    written : AreBytes (cells 9 bytes) → key_bytes (schedule_key_in (cells 9 bytes)) ≡ cells 9 bytes
    written small = search rules

-- decoding bytes as the key for a tag, and encoding the key again, gives the same bytes
pub key_written : (tag : ℕ) (bytes : List ℕ) → IsTag tag → length bytes ≡ key_width tag → AreBytes bytes → key_bytes (key_in tag bytes) ≡ bytes
key_written = search (rules, schedule_written)

-- a key that is decoded as a key for a tag has that tag
pub tag_of_key : (tag : ℕ) (bytes : List ℕ) → IsTag tag → key_tag (key_in tag bytes) ≡ tag
tag_of_key = search rules

-- a list of one byte contains only its first byte
pub single : (bytes : List ℕ) → length bytes ≡ 1 → slice_index bytes 0 ∷ [] ≡ bytes
single bytes size = subst (λ xs. slice_index xs 0 ∷ [] ≡ xs) (cells_are 1 bytes size) refl
