-- The schedule found in a state for a UID and a day, and the bytes that a sink gains when the
-- schedule is printed.
use Rattle.std.specs.Prelude.{◌≡◌, ℕ, List, Option}
use Rattle.cif_device.specs.Device.{Takes, TakesPart}
use Rattle.docker_model.specs.state.State.{State}
use Rattle.docker_model.specs.lists.TrainText.{Stamped, IsFoundFor, IsTrainText, train_text}

-- a UID, a day, and the schedule found for them with its stamp. The schedule is `None` if no
-- schedule runs
pub record Answer : Type 0 where
  pub uid : List ℕ
  pub day : ℕ
  pub found : Option Stamped

-- says that this is the schedule found in the state for the UID and the day
pub record IsAnswerOf (state : State) (uid : List ℕ) (day : ℕ) (answer : Answer) : Type 0 where
  pub uid_is : answer.uid ≡ uid
  pub day_is : answer.day ≡ day
  pub is_found : IsFoundFor state uid day answer.found

-- the text for the UID, the day and the schedule found
abbrev pub text_of : Answer → List ℕ
text_of answer = train_text answer.uid answer.day answer.found

-- says that the sink gained the train text for the state, the UID and the day
pub record PrintsTrain (state : State) (uid : List ℕ) (day : ℕ) (old new : Option (List ℕ)) : Type 0 where
  pub text : List ℕ
  pub is : IsTrainText state uid day text
  pub gained : Takes old text new

-- says that the sink gained a proper prefix of the train text for the state, the UID and the day
pub record PrintsPart (state : State) (uid : List ℕ) (day : ℕ) (old new : Option (List ℕ)) : Type 0 where
  pub text : List ℕ
  pub is : IsTrainText state uid day text
  pub gained : TakesPart old text new
