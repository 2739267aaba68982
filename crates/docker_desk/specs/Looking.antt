-- What is true of the look on which a session's next draft is based, and what this draft replaces.
use Rattle.std.specs.Prelude.{◌≡◌, ℕ, ◌+◌, List, ◌∷◌, ◌++◌, length, ◌⊎◌}
use Rattle.docker_model.specs.state.State.{State}
use Rattle.docker_model.specs.state.StateText.{dks_2, state_text}
use Rattle.docker_bytes.specs.SourceRead.{ReadsState}
use Rattle.docker_cmd.specs.Prepared.{most_bytes}
use Rattle.cif_device.specs.Device.{Held}
use Rattle.docker_host.specs.History.{Bytes, Event, Text, closed, looked, opened, placed}
use Rattle.docker_host.specs.Standing.{IsStill, Standing}
use Rattle.docker_desk.specs.SessionViews.{SessionView, Setting}

-- the event at this position is a look at the named file, and the next two events are the opening
-- and the closing of that file. The file held the whole text of a state, which was read
pub record IsBeforeOpening (name : Text) (history : List Event) (look : ℕ) : Type 0 where
  pub earlier : List Event
  pub held : Bytes
  pub left : Bytes
  pub later : List Event
  pub whole : history ≡ earlier ++ looked name ∷ opened name held ∷ closed left ∷ later
  pub number : look ≡ length earlier
  pub state : State
  pub reads : ReadsState dks_2 most_bytes held state

-- the event at this position is a look at the named file, and the event before it is the
-- replacement of that file by a draft
pub record IsAfterPlacing (name : Text) (history : List Event) (look : ℕ) : Type 0 where
  pub earlier : List Event
  pub bytes : Bytes
  pub later : List Event
  pub whole : history ≡ earlier ++ placed name bytes ∷ looked name ∷ later
  pub number : look ≡ length earlier + 1

-- this look directly precedes an opening of the file, whose text was then read, or directly follows
-- the replacement of the file by a draft. So if a draft based on this look replaces a text, the desk
-- has read or written that text, unless the text arrived after the look
abbrev pub IsGoodLook : Text → List Event → ℕ → Type 0
IsGoodLook name history look = IsBeforeOpening name history look ⊎ IsAfterPlacing name history look

-- these are the bytes that the desk last opened and read, or that it last placed itself
abbrev pub IsOwn : Text → List Event → ℕ → Bytes → Type 0
IsOwn name history look bytes =
    ((opening : IsBeforeOpening name history look) × (bytes ≡ opening.held))
    ⊎ ((placing : IsAfterPlacing name history look) × (bytes ≡ placing.bytes))

-- this text is what the desk read right after this look, or what it placed right before the look, as
-- far as contracts can say
abbrev pub IsOwnText : Text → List Event → ℕ → Text → Type 0
IsOwnText name history look text =
    ((opening : IsBeforeOpening name history look) × Held opening.held text)
    ⊎ ((placing : IsAfterPlacing name history look) × Held placing.bytes text)

-- the state's file held the text of this point's state, right after the look of the point or right
-- before it
abbrev pub WasInState : Setting → SessionView → Type 0
WasInState setting point =
    IsOwnText setting.name point.history point.look (state_text dks_2 point.desk.state)

-- a draft is made at this point of a session. The state's file has held the same bytes since the
-- look on which the draft is based. The desk has read these bytes, or has placed them itself.
-- `standing` gives the bytes of each file at each position of the history
pub record ReplacesOwn (standing : Standing) (setting : Setting) (before : SessionView) : Type 0 where
  pub still : IsStill standing setting.name before.look (length before.history)
  pub own : IsOwn setting.name before.history before.look
      (standing (length before.history) setting.name)
