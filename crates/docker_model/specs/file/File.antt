-- CIF files: a header, then units in any order, then a trailer.
use Rattle.std.specs.Prelude.{ℕ, List, [], ◌∷◌, Bool, true, false, Option, Some, ◌⊎◌, ◌≡◌, ◌++◌, All, IsTrue, ◌≤◌}
use Rattle.std.specs.List.{flat_map}
use Rattle.docker_model.specs.records.Record.{Kind, extra_details, origin_location, intermediate_location, terminating_location, change_en_route, HasKind}
use Rattle.docker_model.specs.records.Record.{column, basic_schedule, IsRecord, tiploc_insert, tiploc_amend, tiploc_delete, association, header, trailer}
use Rattle.docker_model.specs.records.Field.{is_deletion, HasGoodFields}
use Rattle.docker_model.specs.file.Journey.{midnights}

-- the first of these records: the header if they are a file, and the basic schedule if they are a
-- schedule. If there are no records, the result is empty
abbrev pub first_record : List (List ℕ) → List ℕ
first_record [] = []
first_record (line ∷ lines) = line

-- whether a record of this kind may follow the basic schedule within a schedule
abbrev pub follows_basic : Option Kind → Bool
follows_basic (Some extra_details) = true
follows_basic (Some origin_location) = true
follows_basic (Some intermediate_location) = true
follows_basic (Some terminating_location) = true
follows_basic (Some change_en_route) = true
follows_basic _ = false

-- the record is an intermediate location or a change en route
abbrev pub IsWithinJourney : List ℕ → Type 0
IsWithinJourney line = HasKind intermediate_location line ⊎ HasKind change_en_route line

-- these records are a journey: one origin, then any number of intermediate locations and changes en
-- route, then one terminus
pub record IsJourney (lines : List (List ℕ)) : Type 0 where
  pub first : List ℕ
  pub between : List (List ℕ)
  pub last : List ℕ
  pub whole : lines ≡ first ∷ between ++ last ∷ []
  pub origin : HasKind origin_location first
  pub calls : All IsWithinJourney between
  pub terminus : HasKind terminating_location last

-- these records are the extra details of a schedule: no record at all, or one record of extra
-- details
abbrev pub AreExtraDetails : List (List ℕ) → Type 0
AreExtraDetails lines = (lines ≡ []) ⊎ ((line : List ℕ) × (lines ≡ line ∷ []) × HasKind extra_details line)

-- the schedule needs no journey, because its basic schedule is a deletion or a cancellation
abbrev pub MayLackJourney : List ℕ → Type 0
MayLackJourney basic = IsTrue (is_deletion basic) ⊎ (column 80 basic ≡ 67)

-- this journey is sound: the fields of its records are good, and it passes midnight at most twice
pub record IsSoundJourney (lines : List (List ℕ)) : Type 0 where
  pub fields : All HasGoodFields lines
  pub falls : midnights lines ≤ 2

-- these records are a schedule: a basic schedule, at most one record of extra details, and a
-- journey. A deletion or a cancellation may have no journey. In a deletion the fields of the
-- journey aren't checked
pub record IsSchedule (lines : List (List ℕ)) : Type 0 where
  pub basic : List ℕ
  pub extra : List (List ℕ)
  pub journey : List (List ℕ)
  pub whole : lines ≡ basic ∷ extra ++ journey
  pub records : All IsRecord lines
  pub kind : HasKind basic_schedule basic
  pub fields : HasGoodFields basic
  pub details : AreExtraDetails extra
  pub journey_or_none : IsJourney journey ⊎ ((journey ≡ []) × MayLackJourney basic)
  pub sound : IsTrue (is_deletion basic) ⊎ IsSoundJourney journey

-- the record is a unit by itself: a TIPLOC insert, amendment or deletion, or an association
abbrev pub IsSingleKind : List ℕ → Type 0
IsSingleKind line = HasKind tiploc_insert line ⊎ HasKind tiploc_amend line ⊎ HasKind tiploc_delete line ⊎ HasKind association line

-- the unit is a single record with good fields: a TIPLOC insert, amendment or deletion, or an
-- association
abbrev pub IsSingle : List (List ℕ) → Type 0
IsSingle unit = (line : List ℕ) × (unit ≡ line ∷ []) × IsRecord line × IsSingleKind line × HasGoodFields line

-- these records are a unit: a single record or a whole schedule. A file has units between its
-- header and its trailer
abbrev pub IsUnit : List (List ℕ) → Type 0
IsUnit unit = IsSingle unit ⊎ IsSchedule unit

-- these records are a CIF file: a header, then units in any order, then a trailer
pub record IsFile (records : List (List ℕ)) : Type 0 where
  pub first : List ℕ
  pub units : List (List (List ℕ))
  pub last : List ℕ
  pub whole : records ≡ first ∷ flat_map (λ unit. unit) units ++ last ∷ []
  pub header_record : IsRecord first
  pub header_kind : HasKind header first
  pub header_fields : HasGoodFields first
  pub each : All IsUnit units
  pub trailer_record : IsRecord last
  pub trailer_kind : HasKind trailer last

-- the greatest limit that may be set on the number of records in a file
abbrev pub most_records : ℕ
most_records = 4_294_967_294

-- these records are the beginning of some file, which may have any number of records. For example,
-- a header begins a file, and an intermediate location doesn't
abbrev pub BeginsFile : List (List ℕ) → Type 0
BeginsFile records = (rest : List (List ℕ)) × IsFile (records ++ rest)

-- these records are the beginning of some schedule
abbrev pub BeginsSchedule : List (List ℕ) → Type 0
BeginsSchedule lines = (rest : List (List ℕ)) × IsSchedule (lines ++ rest)
