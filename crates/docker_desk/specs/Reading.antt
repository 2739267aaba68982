-- What contracts say about a file that was opened, read and closed.
use Rattle.std.specs.Prelude.{◌≡◌, List, [], ◌∷◌, ◌++◌, Option, Some, None, IfSome}
use Rattle.docker_model.specs.state.StateText.{dks_2}
use Rattle.docker_cmd.specs.Prepared.{ReadsFewOfFile, ReadsFewOfState}
use Rattle.docker_host.specs.History.{Bytes, Event, Text, closed, looked, opened, unopened}

-- the bytes that a file held when it was opened, and the bytes left in it when it was closed
pub record Reading : Type 0 where
  pub held : Bytes
  pub left : Bytes

-- makes a reading from its parts
abbrev pub reading : Bytes → Bytes → Reading
reading held left = record { held = held; left = left }

-- the events of reading the named file: its opening and its closing
abbrev pub events_of : Text → Reading → List Event
events_of name read = opened name read.held ∷ closed read.left ∷ []

-- the events of opening the named file: its opening and its closing, or only the failed opening if
-- the file couldn't be opened
abbrev pub opening_of : Text → Option Reading → List Event
opening_of name (Some read) = events_of name read
opening_of name None = unopened name ∷ []

-- an extract was read no further than the piece that decides whether it is taken
abbrev pub StopsInFile : Reading → Type 0
StopsInFile read = ReadsFewOfFile read.held read.left

-- a state's file was read no further than the piece that decides whether its state is received
abbrev pub StopsInState : Reading → Type 0
StopsInState read = ReadsFewOfState dks_2 read.held read.left

-- either the named file was opened once and closed, and `Stops` and `Ends` hold for the reading, or
-- the file couldn't be opened, and `Ends` holds for `None`. The folder's history has no other new
-- events
pub record OpensOnce (name : Text) (Stops : Reading → Type 0) (Ends : Option Reading → Type 0)
    (old new : List Event) : Type 0 where
  pub read : Option Reading
  pub asked : new ≡ old ++ opening_of name read
  pub stops : IfSome read Stops
  pub ends : Ends read

-- the named file was looked at before an attempt to open it. If the file was opened, it was opened
-- once, read no further than the result needs, and closed, and `Ends` holds for the reading. If the
-- file couldn't be opened, `Ends` holds for `None`. The folder's history has no other new events
pub record LooksAndOpens (name : Text) (Ends : Option Reading → Type 0) (old new : List Event)
    : Type 0 where
  pub read : Option Reading
  pub asked : new ≡ old ++ looked name ∷ opening_of name read
  pub stops : IfSome read StopsInState
  pub ends : Ends read

-- the file was opened, and `Holds` is true of the reading
abbrev pub HasOpened : (Reading → Type 0) → Option Reading → Type 0
HasOpened Holds (Some read) = Holds read
HasOpened Holds None = ⊥
