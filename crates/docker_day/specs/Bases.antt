-- The calls of base trains at a place, each with its first event.
use Rattle.std.specs.Prelude.{◌≡◌, ◌==◌, ℕ, List, Option, Some, None, find, option_map, if◌then◌else◌, ⊤}
use Rattle.std.specs.BTreeMap.{BTreeMap, get}
use Rattle.std.specs.Ordering.{nat_cmp}
use Rattle.docker_model.specs.docker.Choice.{Train}
use Rattle.docker_laws.specs.LiveRows.{train_in}
use Rattle.docker_model.specs.state.Row.{Row, AreRowsOf}
use Rattle.docker_model.specs.state.Table.{Table}
use Rattle.train_choice.specs.Occurrences as events
use Rattle.train_choice.specs.Occurrences.{occurrences}
use Rattle.train_choice.specs.EventWalk.{occurrence_meant}
use Rattle.train_choice.specs.declared.walk.Occurrence.{Occurrence}
use Rattle.docker_day.specs.declared.base_calls.BaseCalls.{BaseCalls}
use Rattle.docker_day.specs.Lines.{is_call}

-- the first event of a train's call with this suffix at a place. The result is `None` if there is
-- no train, or if the train has no call with this suffix at the place
abbrev pub first_call : Option Train → List ℕ → ℕ → Option events.Occurrence
first_call None place suffix = None
first_call (Some train) place suffix = find (is_call place suffix) (occurrences train.lines)

-- converts the code's `Occurrence`, if there is one, to the `Occurrence` of the definitions
abbrev pub meant_if : Option Occurrence → Option events.Occurrence
meant_if event = option_map occurrence_meant event

-- says that the stored calls, if there are any, are correct. For each suffix, the stored event is
-- the first event of the call with this suffix that the UID's train makes at the place
abbrev pub AreKnownCalls : Table → List ℕ → ℕ → Option BaseCalls → Type 0
AreKnownCalls live place day None = ⊤
AreKnownCalls live place day (Some known) =
    (suffix : ℕ) (rows : List Row) → AreRowsOf live rows → get nat_cmp known.calls suffix ≡ first_call (train_in rows known.uid day) place suffix

-- the event that is already in a map, or `later` if there is none
abbrev pub kept_or : Option events.Occurrence → Option events.Occurrence → Option events.Occurrence
kept_or None later = later
kept_or (Some event) later = Some event

-- says how one more event of a call changes the map from suffixes to first events. If the map has
-- no event yet for `own`, the event's suffix, the map gets this event for `own`. The events of all
-- other suffixes are unchanged
abbrev pub HasCall : ℕ → BTreeMap ℕ events.Occurrence → events.Occurrence → BTreeMap ℕ events.Occurrence → Type 0
HasCall own before event after =
    (suffix : ℕ) → get nat_cmp after suffix ≡ (if own == suffix then kept_or (get nat_cmp before suffix) (Some event) else get nat_cmp before suffix)

-- says how one more event changes the map from suffixes to first events. If the map already has an
-- event for a suffix, that event is unchanged. Otherwise the map gets the new event for the suffix,
-- provided that the new event is at the place and has this suffix
abbrev pub HasEvent : List ℕ → BTreeMap ℕ events.Occurrence → events.Occurrence → BTreeMap ℕ events.Occurrence → Type 0
HasEvent place before event after =
    (suffix : ℕ) (later : Option events.Occurrence)
    → kept_or (get nat_cmp after suffix) later ≡ kept_or (get nat_cmp before suffix) (if is_call place suffix event then Some event else later)
