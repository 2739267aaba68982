-- It is decidable whether records are a schedule, and whether they begin some schedule.
use Rattle.cif_laws.proofs.Common.{◌≡◌, ℕ, List, length, true, Some, ◌∷◌, inl, [], IsRecord, Lines, is_printable, Kind, kind_of, HasKind, leftmost_bad_field}
use Rattle.cif_laws.proofs.Common.{HasGoodFields, IsSchedule, BeginsSchedule}
use Rattle.cif_laws.specs.ScheduleStage.{stage_of, may_end}
use Rattle.cif_laws.proofs.schedules.ScheduleStages.{schedule_iff_stage, begins_iff_stage, no_lines_begin}
use Rattle.cif_laws.proofs.lists.Decisions.{Decided, both_decided, bool_decided, nat_decided, All_decided, kind_decided}
use Rattle.cif_laws.proofs.lists.Decisions.{none_decided, some_decided, passes_decided, decided_along}

-- it is decidable whether bytes are a record
pub record_decided : (line : List ℕ) → Decided (IsRecord line)
record_decided line = both_decided (nat_decided (length line) 80) (All_decided (λ b. is_printable b ≡ true) (λ b. bool_decided (is_printable b)) line)

-- it is decidable whether a record has this kind
pub has_kind_decided : (kind : Kind) (line : List ℕ) → Decided (HasKind kind line)
has_kind_decided kind line = kind_decided (kind_of line) (Some kind)

-- it is decidable whether a record has good fields
pub good_fields_decided : (line : List ℕ) → Decided (HasGoodFields line)
good_fields_decided line = none_decided (leftmost_bad_field line)

-- it is decidable whether records are a schedule
pub schedule_decided : (lines : Lines) → Decided (IsSchedule lines)
schedule_decided lines =
    decided_along (λ at. (schedule_iff_stage lines).1 (at.0, record { found = at.1; may = at.2 }))
    (λ is. let whole = (schedule_iff_stage lines).0 is in (whole.0, whole.1.found, whole.1.may))
    (passes_decided (stage_of lines) (λ stage. may_end stage lines))

-- it is decidable whether records begin some schedule
pub begins_decided : (lines : Lines) → Decided (BeginsSchedule lines)
begins_decided [] = inl no_lines_begin
begins_decided (basic ∷ rest) = decided_along (begins_iff_stage basic rest).1 (begins_iff_stage basic rest).0 (some_decided (stage_of (basic ∷ rest)))
