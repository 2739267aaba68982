-- Location records: an origin, an intermediate location or a terminus.
use Rattle.cif_laws.proofs.Common.{ℕ, List, ◌⊎◌, origin_location, intermediate_location, terminating_location, HasKind}

-- the record is a location record
abbrev pub IsLocation : List ℕ → Type 0
IsLocation line = HasKind origin_location line ⊎ HasKind intermediate_location line ⊎ HasKind terminating_location line
