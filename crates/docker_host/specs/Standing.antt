-- What the files of a folder hold at each position of its history.
use Rattle.std.specs.Prelude.{◌≡◌, ℕ, ◌+◌, ◌≤◌, List, [], ◌∷◌, ⊤}
use Rattle.docker_host.specs.History.{Bytes, Text, Event, looked, opened, unopened, closed, drafted, undrafted, placed, unplaced, dropped}

-- the bytes of the file with each name, at each position of a folder's history: when the event at
-- this position happens, the file holds these bytes. `None` means that there is no file with this
-- name, or that contracts can't say which bytes the file holds
abbrev pub Standing : Type 0
Standing = ℕ → Text → Bytes

-- from the position `look` to the position `now`, the file with this name held the same bytes
abbrev pub IsStill : Standing → Text → ℕ → ℕ → Type 0
IsStill standing name look now =
    (position : ℕ) → look ≤ position → position ≤ now → standing position name ≡ standing look name

-- this event can happen at this position. An opened file holds the bytes that the event records. A
-- draft is made only if the file has held the same bytes since the look on which the draft is
-- based. After a draft replaced a file, the file holds the bytes of the draft
abbrev pub HappensAt : Standing → ℕ → Event → Type 0
HappensAt standing now (opened name bytes) = bytes ≡ standing now name
HappensAt standing now (drafted name look) = IsStill standing name look now
HappensAt standing now (placed name bytes) = standing (now + 1) name ≡ bytes
HappensAt standing now (looked name) = ⊤
HappensAt standing now (unopened name) = ⊤
HappensAt standing now (closed left) = ⊤
HappensAt standing now (undrafted name look) = ⊤
HappensAt standing now (unplaced name bytes) = ⊤
HappensAt standing now (dropped name) = ⊤

-- these events can happen one after another, the first of them at this position
abbrev pub HappenFrom : Standing → ℕ → List Event → Type 0
HappenFrom standing now [] = ⊤
HappenFrom standing now (event ∷ events) =
    HappensAt standing now event × HappenFrom standing (now + 1) events

-- the files of a folder with this history can have held these bytes
abbrev pub IsStandingOf : Standing → List Event → Type 0
IsStandingOf standing history = HappenFrom standing 0 history
