-- The files on a shelf. The shelf's history determines them.
use Rattle.std.specs.Prelude.{◌≡◌, ◌≢◌, ℕ, ◌+◌, ◌^◌, ◌-◌, ◌<◌, min, length, take, Bool, false, ⊤, if◌then◌else◌, List, [], ◌∷◌, Option, None, Some, IsSome}
use Rattle.std.specs.Str.{bytes_eq}
use Rattle.docker_host.specs.Standing.{IsStill, Standing}
use Rattle.docker_host.specs.History.{Text, Event, looked, opened, unopened, closed, drafted, undrafted, placed, unplaced, dropped}
use Rattle.docker_host.specs.declared.folder.OpenFault.{OpenFault}
use Rattle.docker_host.specs.declared.folder.OpenFault.TheVariants as opening
use Rattle.docker_host.specs.declared.shelf.Fails.{Fails}
use Rattle.docker_host.specs.declared.shelf.Fails.TheVariants as failing

-- a shelf: its events, oldest first, and its failure count. `fails` are the calls at which it fails,
-- and `room` is the number of bytes for which its drafts have room
pub record ShelfView : Type 0 where
  pub events : List Event
  pub failures : ℕ
  pub fails : Fails
  pub room : ℕ

-- the shelf fails at the same calls as before, and its drafts have the same room
abbrev pub IsSetAs : ShelfView → ShelfView → Type 0
IsSetAs old new = (new.fails ≡ old.fails) × (new.room ≡ old.room)

-- an opened file on a shelf. `left` has the bytes left in the file, and `sound` is the number of
-- bytes that can be read before a read fails. `failures` is the file's failure count. `ended` says
-- whether the file has reported its end, and `passed` says whether it was read after that
pub record ShelfFileView : Type 0 where
  pub left : List ℕ
  pub sound : ℕ
  pub failures : ℕ
  pub ended : Bool
  pub passed : Bool

-- the number of bytes that a read returns if the buffer has the length `room` and the read doesn't
-- fail
abbrev pub read_count : ShelfFileView → ℕ → ℕ
read_count file room = min room (min (min file.sound 100) (length file.left))

-- the text of each file, or `None` if there is no file with that name
abbrev pub Texts : Type 0
Texts = Text → Option Text

-- the texts of a shelf without files
abbrev pub no_texts : Texts
no_texts name = None

-- these files after this text was written to the named file
abbrev pub with_text : Text → Text → Texts → Texts
with_text name text texts other = if bytes_eq name other then Some text else texts other

-- these files after an event. Only the event `placed` changes a file
abbrev pub after_event : Texts → Event → Texts
after_event texts (placed name (Some text)) = with_text name text texts
after_event texts (placed name None) = texts
after_event texts (looked name) = texts
after_event texts (opened name bytes) = texts
after_event texts (unopened name) = texts
after_event texts (closed left) = texts
after_event texts (drafted name look) = texts
after_event texts (undrafted name look) = texts
after_event texts (unplaced name bytes) = texts
after_event texts (dropped name) = texts

-- these files after a list of events
abbrev pub after_events : Texts → List Event → Texts
after_events texts [] = texts
after_events texts (event ∷ events) = after_events (after_event texts event) events

-- if the event is the opening of a file, this file exists and has the text that the event records
abbrev pub IsMet : Texts → Event → Type 0
IsMet texts (opened name bytes) = (bytes ≡ texts name) × IsSome bytes
IsMet texts (placed name bytes) = ⊤
IsMet texts (looked name) = ⊤
IsMet texts (unopened name) = ⊤
IsMet texts (closed left) = ⊤
IsMet texts (drafted name look) = ⊤
IsMet texts (undrafted name look) = ⊤
IsMet texts (unplaced name bytes) = ⊤
IsMet texts (dropped name) = ⊤

-- whenever one of these events is the opening of a file, this file has the text that was last
-- placed under its name
abbrev pub AreMet : Texts → List Event → Type 0
AreMet texts [] = ⊤
AreMet texts (event ∷ events) = IsMet texts event × AreMet (after_event texts event) events

-- these may be the events of a shelf that was empty at first
abbrev pub IsShelfHistory : List Event → Type 0
IsShelfHistory events = AreMet no_texts events

-- the text of the named file after these events on a shelf that was empty at first, or `None` if
-- there is no such file
abbrev pub text_under : List Event → Text → Option Text
text_under events name = after_events no_texts events name

-- what the files of a shelf held that was empty at first. At each position of the history a file
-- holds the text that was last placed under its name
abbrev pub shelf_standing : List Event → Standing
shelf_standing events position name = text_under (take position events) name

-- the number of bytes that can be read from a file before a read fails, if the shelf fails at these
-- calls
abbrev pub sound_of : Fails → ℕ
sound_of (failing.AfterReading sound) = sound
sound_of failing.Never = 2 ^ 64 - 1
sound_of failing.AtOpen = 2 ^ 64 - 1
sound_of failing.AtOpenForMemory = 2 ^ 64 - 1
sound_of failing.AtCreate = 2 ^ 64 - 1
sound_of failing.AtCreateForMemory = 2 ^ 64 - 1
sound_of (failing.AfterWriting room) = 2 ^ 64 - 1
sound_of failing.AtComplete = 2 ^ 64 - 1

-- the number of bytes for which a draft has room, if the shelf fails at these calls. `room` is the
-- room of its drafts otherwise
abbrev pub room_of : ℕ → Fails → ℕ
room_of room (failing.AfterWriting short) = short
room_of room failing.Never = room
room_of room failing.AtOpen = room
room_of room failing.AtOpenForMemory = room
room_of room (failing.AfterReading sound) = room
room_of room failing.AtCreate = room
room_of room failing.AtCreateForMemory = room
room_of room failing.AtComplete = room

-- a shelf opened a file from which `sound` bytes can be read before a read fails
abbrev pub OpensFile : ShelfView → ℕ → Type 0
OpensFile shelf sound = (shelf.fails ≢ failing.AtOpen) × (shelf.fails ≢ failing.AtOpenForMemory)
    × (sound ≡ sound_of shelf.fails)

-- a shelf refused to open the named file for this fault. Unless it is to fail at this call, there is
-- no such file, or memory ran out for the text of the file
abbrev pub RefusesFile : ShelfView → Text → OpenFault → Type 0
RefusesFile shelf name opening.Failed =
    shelf.fails ≢ failing.AtOpen → text_under shelf.events name ≡ None
RefusesFile shelf name opening.Memory =
    (shelf.fails ≢ failing.AtOpen)
    × (shelf.fails ≢ failing.AtOpenForMemory → IsSome (text_under shelf.events name))

-- whether the event puts a text under this name
abbrev pub is_put : Event → Text → Bool
is_put (placed other bytes) name = bytes_eq other name
is_put (looked other) name = false
is_put (opened other bytes) name = false
is_put (unopened other) name = false
is_put (closed left) name = false
is_put (drafted other look) name = false
is_put (undrafted other look) name = false
is_put (unplaced other bytes) name = false
is_put (dropped other) name = false

-- how many events there are once the last of these puts a text under this name. `now` events come
-- before these, and `last` is the result if none of these puts such a text
abbrev pub put_from : (now last : ℕ) → List Event → Text → ℕ
put_from now last [] name = last
put_from now last (event ∷ events) name =
    put_from (now + 1) (if is_put event name then now + 1 else last) events name

-- how many events there are once the last of these puts a text under this name; 0 if none does
abbrev pub last_put : List Event → Text → ℕ
last_put events name = put_from 0 0 events name

-- a shelf refused for this fault to make a draft for the named file, based on the look at this
-- position. Unless it is to fail here, `Failed` means that a text was put under the name since the
-- look, or that the shelf can't count as far as the look. `Memory` means that memory ran out. The
-- file has then held the same bytes since the look
abbrev pub RefusesDraft : ShelfView → Text → ℕ → OpenFault → Type 0
RefusesDraft shelf name look opening.Failed =
    shelf.fails ≢ failing.AtCreate → look < 2 ^ 64 - 1 → look < last_put shelf.events name
RefusesDraft shelf name look opening.Memory =
    (shelf.fails ≢ failing.AtCreate)
    × IsStill (shelf_standing shelf.events) name look (length shelf.events)

-- a shelf made a draft with room for `room` bytes
abbrev pub MakesDraft : ShelfView → ℕ → Type 0
MakesDraft shelf room = (shelf.fails ≢ failing.AtCreate) × (shelf.fails ≢ failing.AtCreateForMemory)
    × (room ≡ room_of shelf.room shelf.fails)
