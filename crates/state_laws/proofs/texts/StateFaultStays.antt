-- Appending bytes to a text preserves three kinds of fault: a bad part, `too_long` and `has_tail`.
use Rattle.cif_laws.proofs.Common.{ℕ, List, ◌++◌, append_assoc, length-append, rules, Format, StateFault, HasBadPart, IsLong}

-- appending bytes to a text preserves the fault of a bad part
pub bad_part_stays : (format : Format) → (limit : ℕ) (text more : List ℕ) (fault : StateFault) → HasBadPart format limit text fault
    → HasBadPart format limit (text ++ more) fault
bad_part_stays = search (rules, append_assoc)

-- appending bytes to a text preserves the fault `too_long`
pub long_stays : (format : Format) → (limit : ℕ) (text more : List ℕ) (fault : StateFault) → IsLong format limit text fault
    → IsLong format limit (text ++ more) fault
long_stays = search (rules, append_assoc, length-append)
