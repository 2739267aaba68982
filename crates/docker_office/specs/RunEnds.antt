-- The result of a run, for each event, each office and each message.
use Rattle.std.specs.Prelude.{◌≡◌, ℕ, ◌<◌, ◌≤◌, ◌↔◌, List, take, slice_index_or, All, ⊤}
use Rattle.docker_model.specs.state.State.{State, live_table}
use Rattle.docker_model.specs.state.Lapse.{IsDayRefused}
use Rattle.docker_model.specs.state.Table.{Table}
use Rattle.docker_model.specs.docker.DockerText.{IsDockerText}
use Rattle.docker_model.specs.state.StateText.{dks_2}
use Rattle.docker_model.specs.run.Run.{RunEvent, take_file, send_state, deliver, reload, horizon_event, Reply, done, Known}
use Rattle.docker_model.specs.run.Run.{Exchange, IsRun, IsReply, IsStateOf, IsMessageOf, office_known, message_known, known_sets}
use Rattle.docker_model.specs.run.Knowledge.{IsGoodEvent, office_state, message_text, sets_of}

-- says that the event has a valid limit: if the event takes a file, the limit is at most
-- 4,294,967,294 records. An event that takes no file has no limit
abbrev pub HasGoodLimit : RunEvent → Type 0
HasGoodLimit (take_file office text limit) = limit ≤ 4_294_967_294
HasGoodLimit (send_state office) = ⊤
HasGoodLimit (deliver office message) = ⊤
HasGoodLimit (reload office message) = ⊤
HasGoodLimit (horizon_event office day) = ⊤

-- says that this is the result of a run of these events at `offices` offices. Messages are in the
-- format `DKS2`, and the limits and horizons of the events are valid
pub record LeavesRun (offices : ℕ) (events : List RunEvent) (exchange : Exchange) : Type 0 where
  pub run : IsRun dks_2 offices events exchange
  pub good : All (IsGoodEvent dks_2) events

-- what an office knows at the end of a run
abbrev pub known_at_end : ℕ → List RunEvent → Exchange → ℕ → Known
known_at_end offices events exchange office = office_known (sets_of offices events exchange) office

-- what the sending office of a message knew when it sent the message
abbrev pub sent_with : ℕ → List RunEvent → Exchange → ℕ → Known
sent_with offices events exchange message = message_known (sets_of offices events exchange) message

-- the event at this index, counted from 0
abbrev pub event_at : List RunEvent → ℕ → RunEvent
event_at events place = slice_index_or events place (send_state 0)

-- the reply at this index, counted from 0
abbrev pub reply_at : List Reply → ℕ → Reply
reply_at replies place = slice_index_or replies place done

-- says that the definitions allow the reply at this index for its event, after the earlier events
-- with their replies
abbrev pub IsReplyAt : ℕ → List RunEvent → List Reply → ℕ → Type 0
IsReplyAt offices events replies place =
    IsReply (known_sets offices (take place events) (take place replies)) (event_at events place) (reply_at replies place)

-- says that the state of this office is the summary of what the office knows
abbrev pub HasSummary : ℕ → List RunEvent → Exchange → ℕ → Type 0
HasSummary offices events exchange office = IsStateOf (known_at_end offices events exchange office) (office_state exchange.states office)

-- says that this message is the text of a summary: the summary of what the sending office knew when
-- it sent the message
abbrev pub TellsSummary : ℕ → List RunEvent → Exchange → ℕ → Type 0
TellsSummary offices events exchange message = IsMessageOf dks_2 (sent_with offices events exchange message) (message_text exchange.messages message)

-- says that an office of some run knows `known` and has the state `state` at the end of the run
pub record EndsWith (known : Known) (state : State) : Type 0 where
  pub offices : ℕ
  pub events : List RunEvent
  pub exchange : Exchange
  pub leaves : LeavesRun offices events exchange
  pub office : ℕ
  pub there : office < offices
  pub knows : known_at_end offices events exchange office ≡ known
  pub has : office_state exchange.states office ≡ state

-- says that the state's docker is the table's docker, for each place and each day that isn't
-- refused under the state's horizon
abbrev pub PrintsAs : State → Table → Type 0
PrintsAs state table =
    (place : List ℕ) (day : ℕ) → ¬ IsDayRefused state.horizon day → (text : List ℕ) → IsDockerText (live_table state) place day text
    ↔ IsDockerText table place day text
