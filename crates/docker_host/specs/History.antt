-- The events of a folder, oldest first: the calls to the folder, and their results.
use Rattle.std.specs.Prelude.{ℕ, Bool, true, false, List, Option, None, Some}

-- the bytes of a name or of a text
abbrev pub Text : Type 0
Text = List ℕ

-- the bytes of a text; `None` if contracts can't say which bytes they are. For example, contracts
-- can never say which bytes a real file holds
abbrev pub Bytes : Type 0
Bytes = Option Text

-- one event of a folder
pub data Event : Type 0 where
  -- the named file was looked at
  looked : (name : Text) → Event
  -- the named file was opened, and held these bytes at that moment
  opened : (name : Text) (bytes : Bytes) → Event
  -- the named file couldn't be opened
  unopened : (name : Text) → Event
  -- an opened file was closed while these bytes were still unread
  closed : (left : Bytes) → Event
  -- a draft for the named file was made. It is based on the look at this position in the history
  drafted : (name : Text) (look : ℕ) → Event
  -- a draft for the named file, based on the look at this position in the history, couldn't be made
  undrafted : (name : Text) (look : ℕ) → Event
  -- a draft replaced the named file. From then on the file holds these bytes
  placed : (name : Text) (bytes : Bytes) → Event
  -- replacing the named file with a draft that held these bytes failed. The file holds these bytes,
  -- or the bytes that it held before
  unplaced : (name : Text) (bytes : Bytes) → Event
  -- a draft for the named file was discarded
  dropped : (name : Text) → Event

-- the bytes of this text if contracts can say which bytes they are, and otherwise `None`
abbrev pub named_if : Bool → Text → Bytes
named_if true text = Some text
named_if false text = None
