-- Worked examples of key order and byte order. In three examples the two orders differ. In the
-- first example, the bytes of the keys lack the tag, which is the byte for the kind of a key. In
-- the second, the low byte of a number comes first. In the third, the keys have UIDs of different
-- lengths, which no record can have.
use Rattle.cif_laws.proofs.Common.{◌≡◌, ℕ, List, ◌∷◌, refl, codes, w16, Less, Greater, Key, tiploc_key, association_key, schedule_key, bytes_cmp, LedgerItem}
use Rattle.cif_laws.proofs.Common.{ledger_item_cmp, key_cmp, key_tag, item_bytes, key_bytes}
use Rattle.std.specs.Int.{to_le_bytes}

abbrev last_tiploc : Key
last_tiploc = tiploc_key (codes "ZZZZZZZ")

abbrev first_schedule : Key
first_schedule = schedule_key (record { uid = codes "A00001"; runs_from = 256; indicator = 80 })

abbrev day_before : Key
day_before = schedule_key (record { uid = codes "A00001"; runs_from = 255; indicator = 80 })

tag_first : key_cmp last_tiploc first_schedule ≡ Less
tag_first = refl

tag_first_in_bytes : bytes_cmp (key_tag last_tiploc ∷ key_bytes last_tiploc) (key_tag first_schedule ∷ key_bytes first_schedule) ≡ Less
tag_first_in_bytes = refl

without_the_tag : bytes_cmp (key_bytes last_tiploc) (key_bytes first_schedule) ≡ Greater
without_the_tag = refl

later_day : key_cmp day_before first_schedule ≡ Less
later_day = refl

later_day_in_bytes : bytes_cmp (key_bytes day_before) (key_bytes first_schedule) ≡ Less
later_day_in_bytes = refl

low_byte_first : bytes_cmp (to_le_bytes w16 255) (to_le_bytes w16 256) ≡ Greater
low_byte_first = refl

-- the key of an association with these two UIDs. If two such keys have UIDs of different lengths,
-- one key can be lower in the order of fields, and the other lower in the order of bytes
abbrev association_of : List ℕ → List ℕ → Key
association_of base associated =
    association_key (record { base = base; associated = associated; start = 0; location = codes "ASHFELD"; suffix = 32; indicator = 80 })

short_by_parts : key_cmp (association_of (codes "A") (codes "C")) (association_of (codes "AB") (codes "A")) ≡ Less
short_by_parts = refl

short_by_bytes : bytes_cmp (key_bytes (association_of (codes "A") (codes "C"))) (key_bytes (association_of (codes "AB") (codes "A"))) ≡ Greater
short_by_bytes = refl

-- a ledger item with this update indicator and this last reference. Of two items with the same file
-- stamp, the update indicators are compared first
abbrev item_of : ℕ → List ℕ → LedgerItem
item_of indicator last =
    record { stamp = record { moment = record { day = 23536; minute = 1260 }; reference = codes "DFROC1A" }; indicator = indicator; last_reference = last }

indicator_before_reference : ledger_item_cmp (item_of 70 (codes "DFROC1Z")) (item_of 85 (codes "DFROC1A")) ≡ Less
indicator_before_reference = refl

indicator_before_reference_in_bytes : bytes_cmp (item_bytes (item_of 70 (codes "DFROC1Z"))) (item_bytes (item_of 85 (codes "DFROC1A"))) ≡ Less
indicator_before_reference_in_bytes = refl
