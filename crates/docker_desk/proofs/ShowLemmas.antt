-- How queries are answered.
use Rattle.cif_laws.proofs.Common.{◌≡◌, ℕ, List, [], Some, IsOk, IsErr, subst, rules, OnOk, Result, ⊤, IsDayRefused, State, live_table}
use Rattle.cif_device.specs.Device.{Takes}
use Rattle.docker_office.specs.declared.fault.OfficeFault.TheVariants as office
use Rattle.docker_desk.specs.Desk.{IsAnswer, IsShown}
use Rattle.docker_desk.specs.Queries.{IsDockerShown}
use Rattle.docker_desk.specs.Replies.{AnswerView, done_with, refused_for}
use Rattle.docker_desk.specs.declared.query.DockerKind.{DockerKind}
use Rattle.docker_desk.specs.declared.query.Query.TheVariants as query

-- if a text was written to a sink that had taken nothing, the sink has taken exactly this text
written_whole : (own text new : List ℕ) → own ≡ [] → Takes (Some own) text (Some new) → new ≡ text
written_whole = search rules

-- suppose that a day isn't refused, and that a text for which `Is` holds was written on an empty
-- page. The answer on this page is right, and so is a refusal if there was no memory for the page
pub answers_on : {E : Type 0} (Is : List ℕ → Type 0) (IsRefused : Type 0) (text own new : List ℕ) (written : Result ⊤ E) (answer : AnswerView) → ¬ IsRefused
    → Is text → own ≡ [] → OnOk written (Takes (Some own) text (Some new)) → (IsOk written → answer ≡ done_with new)
    → (IsErr written → answer ≡ refused_for office.Memory) → IsAnswer Is IsRefused answer
answers_on = search (rules, written_whole)

-- an answer to the query for a docker of this kind, made from the state `own`, is an answer for every
-- state that equals `own`
pub shown_docker : (kind : DockerKind) (own state : State) (place : List ℕ) (day : ℕ) (answer : AnswerView) → own ≡ state
    → IsAnswer (IsDockerShown kind (live_table own) place day) (IsDayRefused own.horizon day) answer → IsShown state (query.Docker kind place day) answer
shown_docker kind own state place day answer same is = subst (λ (s : State). IsShown s (query.Docker kind place day) answer) same is
