-- The head of a put, which is read in one step: the first parts of the put's entry.
use Rattle.std.specs.Prelude.{◌≡◌, ℕ, ◌≤◌, List, [], length, take, ⊤}
use Rattle.docker_model.specs.file.Change.{tiploc_key, association_key}
use Rattle.docker_model.specs.state.State.{State}
use Rattle.docker_model.specs.state.StatePart.{EntryPart, before_body, before_line, in_entry, part_text, IsPartHere}
use Rattle.state_text.specs.declared.stage.Stage.{Stage}
use Rattle.state_text.specs.Stage.{stage_meant, IsFresh}

-- says that these bytes are all parts of an entry before this part, and that they are good
pub record AreParts (state : State) (bytes : List ℕ) (part : EntryPart) : Type 0 where
  pub here : IsPartHere state part
  pub text : part_text part ≡ bytes

-- says that the parts of an entry before this part are the tag, key, stamp and op of a put
abbrev pub IsBeforeBody : EntryPart → Type 0
IsBeforeBody (before_body key stamp) = ⊤
IsBeforeBody _ = ⊥

-- says that the parts of an entry before this part are the head of a put. For a TIPLOC or an
-- association, the head ends before the body. For a schedule, the head ends before the first line
abbrev pub IsPutHead : EntryPart → Type 0
IsPutHead (before_body (tiploc_key code) stamp) = ⊤
IsPutHead (before_body (association_key key) stamp) = ⊤
IsPutHead (before_line key stamp count lines) = lines ≡ []
IsPutHead _ = ⊥

-- says that the bytes begin with good parts of an entry, and that `Ends` holds for the part that
-- comes next. The pair has the stage before that part, and the length of the good parts in bytes
pub record BeginsWithParts (Ends : EntryPart → Type 0) (count : ℕ) (state : State) (bytes : List ℕ) (head : Stage × ℕ) : Type 0 where
  pub part : EntryPart
  pub ends : Ends part
  pub within : head.1 ≤ length bytes
  pub parts : AreParts state (take head.1 bytes) part
  pub is : stage_meant head.0 state [] ≡ in_entry count state part
  pub fresh : IsFresh head.0 state

-- says that the bytes don't begin with the good parts of an entry that precede a part for which
-- `Ends` holds. For each such part, a part before it is missing, incomplete or bad
abbrev pub BeginsWithNoParts : (EntryPart → Type 0) → State → List ℕ → Type 0
BeginsWithNoParts Ends state bytes = (part : EntryPart) (len : ℕ) → Ends part → ¬ AreParts state (take len bytes) part
