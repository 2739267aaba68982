-- The excerpt of a state for a place, computed by a walk over the state's entries in key order. In
-- this order the schedules of one UID are next to each other. The walk collects them in the field
-- `run`, and then keeps or drops them together.
use Rattle.std.specs.Prelude.{◌≡◌, ℕ, Bool, false, ◌||◌, if◌then◌else◌, List, [], ◌∷◌, ◌++◌, fold, Option, Some, None}
use Rattle.std.specs.List.{filter_map, list_any}
use Rattle.std.specs.Str.{bytes_eq}
use Rattle.docker_model.specs.file.Journey.{calls_at}
use Rattle.docker_model.specs.file.Change.{Key, tiploc_key, association_key, schedule_key, association_body, schedule_body}
use Rattle.docker_model.specs.state.Op.{Op, put_with, Entry}
use Rattle.docker_model.specs.state.State.{State}

-- what a walk has computed after any number of entries. The field `kept` has the entries that are
-- in the excerpt for certain. The field `run` has the entries for the schedules of the current UID.
-- These entries may still be dropped
pub record ExcerptSoFar : Type 0 where
  pub kept : List (Key × Entry)
  pub run : List (Key × Entry)

-- what a walk has computed before its first entry: the fields `kept` and `run` are empty
abbrev pub nothing_kept : ExcerptSoFar
nothing_kept = record { kept = []; run = [] }

-- whether the key is the place's TIPLOC, or an association at the place
abbrev pub is_here : List ℕ → Key → Bool
is_here place (tiploc_key code) = bytes_eq code place
is_here place (association_key key) = bytes_eq key.location place
is_here place (schedule_key key) = false

-- whether the key belongs to a schedule of this UID
abbrev pub has_uid : List ℕ → Key → Bool
has_uid uid (schedule_key key) = bytes_eq key.uid uid
has_uid uid _ = false

-- the UID of the associated train if the op is a put of an association, and otherwise `None`
abbrev pub name_in : Key → Op → Option (List ℕ)
name_in (association_key key) (put_with (association_body line)) = Some key.associated
name_in _ _ = None

-- the UIDs of the associated trains of all associations that are put by these entries
abbrev pub names_in : List (Key × Entry) → List (List ℕ)
names_in entries = filter_map (λ entry. name_in entry.0 entry.1.op) entries

-- whether the op is a put of a schedule that calls at the place
abbrev pub is_call : List ℕ → Op → Bool
is_call place (put_with (schedule_body lines)) = calls_at place lines
is_call place _ = false

-- whether the UID of the collected schedules is one of the UIDs in `names`. If no schedule is
-- collected, the result is false
abbrev pub is_run_named : List (List ℕ) → List (Key × Entry) → Bool
is_run_named names [] = false
is_run_named names (first ∷ run) = list_any (λ name. has_uid name first.0) names

-- whether one of the collected entries is a put of a schedule that calls at the place
abbrev pub is_run_calling : List ℕ → List (Key × Entry) → Bool
is_run_calling place run = list_any (λ entry. is_call place entry.1.op) run

-- whether the docker needs the schedules in `run`. It needs them if their UID belongs to the
-- associated train of a kept association, or if one of these schedules is live and calls at the
-- place
abbrev pub is_run_needed : List ℕ → ExcerptSoFar → Bool
is_run_needed place so_far = is_run_named (names_in so_far.kept) so_far.run || is_run_calling place so_far.run

-- the entries in `kept` after the walk has collected all schedules of a UID in `run`. The entries
-- in `run` are appended if the docker needs them, and dropped otherwise
abbrev pub kept_after_run : List ℕ → ExcerptSoFar → List (Key × Entry)
kept_after_run place so_far = if is_run_needed place so_far then so_far.kept ++ so_far.run else so_far.kept

-- whether the collected schedules have this UID. If no schedule is collected, the result is false
abbrev pub goes_on : List (Key × Entry) → List ℕ → Bool
goes_on [] uid = false
goes_on (first ∷ run) uid = has_uid uid first.0

-- the fields `kept` and `run` after the walk passes one more entry. The entry's key is one
-- argument, and the entry without its key is another
abbrev pub with_entry_of : List ℕ → ExcerptSoFar → Key → Entry → ExcerptSoFar
with_entry_of place so_far (schedule_key key) entry =
    if goes_on so_far.run key.uid then record { kept = so_far.kept; run = so_far.run ++ (schedule_key key, entry) ∷ [] }
    else record { kept = kept_after_run place so_far; run = (schedule_key key, entry) ∷ [] }
with_entry_of place so_far key entry =
    if is_here place key then record { kept = kept_after_run place so_far ++ (key, entry) ∷ []; run = [] }
    else record { kept = kept_after_run place so_far; run = [] }

-- the fields `kept` and `run` after the walk passes one more entry. The argument is the pair of the
-- entry's key and the entry
abbrev pub next_kept : List ℕ → ExcerptSoFar → Key × Entry → ExcerptSoFar
next_kept place so_far entry = with_entry_of place so_far entry.0 entry.1

-- the kept entries at the end of a walk that continues from `so_far` over the entries in `rest`
abbrev pub kept_from : List ℕ → ExcerptSoFar → List (Key × Entry) → List (Key × Entry)
kept_from place so_far rest = kept_after_run place (fold (next_kept place) so_far rest)

-- the fields `kept` and `run` after a walk over these entries
abbrev pub kept_so_far : List ℕ → List (Key × Entry) → ExcerptSoFar
kept_so_far place entries = fold (next_kept place) nothing_kept entries

-- the excerpt of a state for the place, computed by the walk
abbrev pub excerpt_for : List ℕ → State → State
excerpt_for place state = record { horizon = state.horizon; ledger = state.ledger; entries = kept_after_run place (kept_so_far place state.entries) }

-- `kept` and `run` are the fields of a walk that has passed these entries. The flag `needed` says
-- whether the docker needs the schedules in `run`
pub record HasKept (place : List ℕ) (entries kept run : List (Key × Entry)) (needed : Bool) : Type 0 where
  pub so_far : kept_so_far place entries ≡ record { kept = kept; run = run }
  pub is_needed : is_run_needed place (record { kept = kept; run = run }) ≡ needed
