-- The event that a note describes. A program passes a note to the history; only proofs see the
-- event.
use Rattle.std.specs.Prelude.{None, Some}
use Rattle.docker_host.specs.History.{Event, looked, opened, unopened, closed, drafted, undrafted, placed, unplaced, dropped}
use Rattle.docker_host.specs.declared.history.Note.{Note}
use Rattle.docker_host.specs.declared.history.Note.TheVariants as note

-- the event that a note describes
abbrev pub event_of : Note → Event
event_of (note.Looked name) = looked name.now
event_of (note.OpenedUnnamed name) = opened name.now None
event_of (note.Opened name bytes) = opened name.now (Some bytes.now)
event_of (note.Unopened name) = unopened name.now
event_of note.ClosedUnnamed = closed None
event_of (note.Closed left) = closed (Some left.now)
event_of (note.Drafted name position) = drafted name.now position.now.at
event_of (note.Undrafted name position) = undrafted name.now position.now.at
event_of (note.PlacedUnnamed name) = placed name.now None
event_of (note.Placed name bytes) = placed name.now (Some bytes.now)
event_of (note.UnplacedUnnamed name) = unplaced name.now None
event_of (note.Unplaced name bytes) = unplaced name.now (Some bytes.now)
event_of (note.Dropped name) = dropped name.now
