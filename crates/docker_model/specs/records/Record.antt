-- The records of a CIF file, their kinds and their columns. A byte is a number, and columns count
-- from 1.
use Rattle.std.specs.Prelude.{ℕ, Bool, ◌&&◌, nat_le, ◌≡◌, List, length, ◌+◌, not, Option, option_map, position}
use Rattle.std.specs.Prelude.{◌-◌, slice_range, slice_index, [], ◌∷◌, codes, find, Some, true, false}
use Rattle.std.specs.List.{AllPass}
use Rattle.std.specs.Str.{bytes_eq}

-- whether a record may contain this byte: the byte lies between a space and a tilde, both included
abbrev pub is_printable : ℕ → Bool
is_printable b = nat_le 0x20 b && nat_le b 0x7E

-- these bytes are a record: 80 printable bytes
abbrev pub IsRecord : List ℕ → Type 0
IsRecord bytes = (length bytes ≡ 80) × AllPass is_printable bytes

-- these bytes are a text of this length: `n` printable bytes
abbrev pub IsTextOfLength : ℕ → List ℕ → Type 0
IsTextOfLength n bytes = (length bytes ≡ n) × AllPass is_printable bytes

-- the leftmost column whose byte isn't printable, or `None` if all bytes are printable
abbrev pub leftmost_bad_byte : List ℕ → Option ℕ
leftmost_bad_byte bytes = option_map (λ i. i + 1) (position (λ b. not (is_printable b)) bytes)

-- the bytes from column `first` to column `last`, both included. For example, columns 1 to 2 of
-- `BSN` are `BS`. The line must have these columns
abbrev pub columns : ℕ → ℕ → List ℕ → List ℕ
columns first last line = slice_range line (first - 1) last

-- the byte in column `n`, or 0 if the line ends before this column
abbrev pub column : ℕ → List ℕ → ℕ
column n line = slice_index line (n - 1)

-- the kinds of record, named as in the CIF End User Specification
pub data Kind : Type 0 where
  header : Kind
  tiploc_insert : Kind
  tiploc_amend : Kind
  tiploc_delete : Kind
  association : Kind
  basic_schedule : Kind
  extra_details : Kind
  origin_location : Kind
  intermediate_location : Kind
  terminating_location : Kind
  change_en_route : Kind
  trailer : Kind

-- the table of record identities, each with its kind of record. The identity is the first two
-- columns of a record
abbrev pub identities : List (List ℕ × Kind)
identities =
    (codes "HD", header) ∷ (codes "TI", tiploc_insert) ∷ (codes "TA", tiploc_amend) ∷ (codes "TD", tiploc_delete)
    ∷ (codes "AA", association) ∷ (codes "BS", basic_schedule) ∷ (codes "BX", extra_details)
    ∷ (codes "LO", origin_location) ∷ (codes "LI", intermediate_location) ∷ (codes "LT", terminating_location)
    ∷ (codes "CR", change_en_route) ∷ (codes "ZZ", trailer) ∷ []

-- the kind of a record, by its identity in columns 1 and 2, or `None` for an unknown identity
abbrev pub kind_of : List ℕ → Option Kind
kind_of line = option_map (λ pair. pair.1) (find (λ pair. bytes_eq pair.0 (columns 1 2 line)) identities)

-- the record is of this kind
abbrev pub HasKind : Kind → List ℕ → Type 0
HasKind kind line = kind_of line ≡ Some kind

-- whether a record of this kind is a location record: an origin, an intermediate location or a
-- terminus
abbrev pub is_location : Option Kind → Bool
is_location (Some origin_location) = true
is_location (Some intermediate_location) = true
is_location (Some terminating_location) = true
is_location _ = false

-- a list of lines, each a list of bytes, such as the records of a file
abbrev pub Lines : Type 0
Lines = List (List ℕ)
