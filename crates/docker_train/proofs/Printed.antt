-- The text that the code writes equals the train text of the definitions.
use Rattle.cif_laws.proofs.Common.{◌≡◌, ℕ, List, ◌∙◌, Option, ended, State, IsTrainText, Stamped}
use Rattle.docker_model.specs.lists.TrainText.{found_text, train_heading, train_heading_with, train_text}
use Rattle.docker_train.specs.Answer.{Answer, IsAnswerOf, text_of}

-- for a UID and a day, the text that is written for the schedule found in a state is the state's
-- train text
pub printed : (state : State) (uid : List ℕ) (day : ℕ) (answer : Answer) → IsAnswerOf state uid day answer → IsTrainText state uid day (text_of answer)
printed state uid day answer is = (answer.found, is.is_found, λ i. train_text (is.uid_is i) (is.day_is i) answer.found)

-- the heading that is written equals the heading in the definitions
pub heading_is : (uid given : List ℕ) (day told : ℕ) (found : Option Stamped) (shown bytes : List ℕ) → given ≡ uid → told ≡ day → shown ≡ found_text found
    → bytes ≡ ended (train_heading_with given told shown) → bytes ≡ ended (train_heading uid day found)
heading_is uid given day told found shown bytes one two three is = is ∙ (λ i. ended (train_heading_with (one i) (two i) (three i)))
