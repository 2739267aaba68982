-- The columns in which a line has its times depend on the line's kind.
use Rattle.cif_laws.proofs.Common.{◌≡◌, ℕ, List, Some, true, rules, origin_location, intermediate_location, terminating_location, HasKind, columns}
use Rattle.cif_laws.proofs.Common.{half_minutes, is_present_time, is_scheduled_time, HasGoodFields, arrival, departure, timed, times_of}
use Rattle.cif_laws.proofs.records.Columns.{good_fields}
use Rattle.cif_laws.proofs.records.ScheduledTimes.{time_there}

-- the departure field of an origin (LO) is a time
pub origin_departure : (line : List ℕ) → HasKind origin_location line → HasGoodFields line → is_present_time (columns 11 15 line) ≡ true
origin_departure line is good = (good_fields origin_location line is good).1.0

-- the arrival field of an intermediate location (LI) is a time or blank
pub call_arrival : (line : List ℕ) → HasKind intermediate_location line → HasGoodFields line → is_scheduled_time (columns 11 15 line) ≡ true
call_arrival line is good = (good_fields intermediate_location line is good).1.0

-- the departure field of an intermediate location (LI) is a time or blank
pub call_departure : (line : List ℕ) → HasKind intermediate_location line → HasGoodFields line → is_scheduled_time (columns 16 20 line) ≡ true
call_departure line is good = (good_fields intermediate_location line is good).1.1.0

-- the pass field of an intermediate location (LI) is a time or blank
pub call_pass : (line : List ℕ) → HasKind intermediate_location line → HasGoodFields line → is_scheduled_time (columns 21 25 line) ≡ true
call_pass line is good = (good_fields intermediate_location line is good).1.1.1.0

-- the arrival field of a terminus (LT) is a time
pub terminus_arrival : (line : List ℕ) → HasKind terminating_location line → HasGoodFields line → is_present_time (columns 11 15 line) ≡ true
terminus_arrival line is good = (good_fields terminating_location line is good).1.0

-- an origin has only a departure
pub origin_time : (line : List ℕ) → HasKind origin_location line → HasGoodFields line
    → timed departure (Some (half_minutes (columns 11 15 line))) ≡ times_of line
origin_time = search (rules, time_there, origin_departure)

-- a terminus has only an arrival
pub terminus_time : (line : List ℕ) → HasKind terminating_location line → HasGoodFields line
    → timed arrival (Some (half_minutes (columns 11 15 line))) ≡ times_of line
terminus_time = search (rules, time_there, terminus_arrival)

-- all facts about the times in a line, as one set of rules
pub ruleset line_times = (origin_departure, call_arrival, call_departure, call_pass, terminus_arrival, origin_time, terminus_time)
