-- The points and the steps of a session.
use Rattle.std.specs.Prelude.{ℕ, Bool, List, Option}
use Rattle.docker_host.specs.History.{Event, Text}
use Rattle.docker_desk.specs.Lines.{LineView}
use Rattle.docker_desk.specs.Requests.{RequestView}
use Rattle.docker_desk.specs.Desk.{DeskView}
use Rattle.docker_desk.specs.Replies.{AnswerView}
use Rattle.docker_desk.specs.declared.session.Session.{Session}
use Rattle.docker_desk.specs.declared.session_words.SessionWords.{SessionWords}

-- what doesn't change in a session: the name of the state's file, whether the desk may write, and
-- whether contracts can say which bytes were written to the folder's drafts
pub record Setting : Type 0 where
  pub name : Text
  pub may_write : Bool
  pub names_bytes : Bool

-- makes a setting from its parts
abbrev pub setting : Text → Bool → Bool → Setting
setting name may_write names_bytes =
    record { name = name; may_write = may_write; names_bytes = names_bytes }

-- the setting of a session with these words
abbrev pub setting_of : SessionWords → Bool → Setting
setting_of words names_bytes = setting words.name.now words.may_write names_bytes

-- a point of a session: what the desk knows, and the position of the look on which the next draft
-- is based. A point also records the folder's history and its failure count
pub record SessionView : Type 0 where
  pub desk : DeskView
  pub look : ℕ
  pub history : List Event
  pub failures : ℕ

-- makes a point from its parts
abbrev pub session_view : DeskView → ℕ → List Event → ℕ → SessionView
session_view desk look history failures =
    record { desk = desk; look = look; history = history; failures = failures }

-- the point of this session on this folder. The functions give the position of a look in the
-- history, the history of a folder, and its failure count
abbrev pub point_of : {T D : Type 0} → (T → ℕ) → (D → List Event) → (D → ℕ) → Session T → D → SessionView
point_of look_of history failures session folder =
    session_view session.desk (look_of session.seen) (history folder) (failures folder)

-- a step of a session: a line, its request if it has one, its answer, and the points before and
-- after the step
pub record Step : Type 0 where
  pub line : LineView
  pub request : Option RequestView
  pub before : SessionView
  pub answer : AnswerView
  pub after : SessionView
