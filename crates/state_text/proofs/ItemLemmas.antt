-- Lemmas on how the bytes of a ledger item are read.
use Rattle.cif_laws.proofs.Common.{◌≡◌, ℕ, ◌+◌, ◌<◌, ◌≤◌, List, length, arith, true, length-drop, rules, slice_range, slice_index, ◌==◌, ◌||◌, AllPass, w16}
use Rattle.cif_laws.proofs.Common.{from_be_bytes, length-take-le, is_printable, LedgerItem, IsGoodItem, IsDay, item_in}
use Rattle.cif_laws.proofs.records.GoodFields.{update_letter}

-- a range of n bytes has length n
pub range_length : (bytes : List ℕ) (from n : ℕ) → from + n ≤ length bytes → length (slice_range bytes from (from + n)) ≡ n
range_length = search (rules, length-drop, length-take-le)

-- if the fields read from 19 bytes are good, the ledger item in these bytes has these fields and is
-- good
pub item_told : (bytes : List ℕ) (day minute : ℕ) (reference : List ℕ) (indicator : ℕ) (last : List ℕ) → length bytes ≡ 19
    → day ≡ from_be_bytes w16 (slice_range bytes 0 2) → minute ≡ from_be_bytes w16 (slice_range bytes 2 4) → reference ≡ slice_range bytes 4 11
    → indicator ≡ slice_index bytes 11 → last ≡ slice_range bytes 12 19
    → IsDay day → minute < 1440 → AllPass is_printable reference → ((indicator == 70) || (indicator == 85)) ≡ true → AllPass is_printable last
    → (◌≡◌ {A = LedgerItem} (record
    { stamp = record { moment = record { day = day; minute = minute }; reference = reference }; indicator = indicator; last_reference = last }) (item_in bytes))
    × IsGoodItem (item_in bytes)
item_told = grind (arith, range_length, update_letter)
