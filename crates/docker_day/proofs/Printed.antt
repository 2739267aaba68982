-- The text that the code writes for a docker equals the docker's text in the definitions.
use Rattle.cif_laws.proofs.Common.{◌≡◌, ℕ, List, refl, ◌∙◌, arith, tiploc_key, Table, IsDockerText, heading, description_in, ended}
use Rattle.docker_day.specs.DockerValue.{Docker, head, text_of}
use Rattle.docker_day.specs.Dockers.{IsDockerOf}

head_is : (live : Table) (place : List ℕ) (day : ℕ) → head place day (description_in (live (tiploc_key place))) ≡ heading live place day
unfolding head
head_is live place day = refl

-- the text that is written for the docker of a table, a place and a day is the docker's text in the
-- definitions
pub printed : (live : Table) (place : List ℕ) (day : ℕ) (docker : Docker) → IsDockerOf live place day docker → IsDockerText live place day (text_of docker)
printed = grind (arith, head_is)

-- the heading that is written equals the heading in the definitions
pub heading_is : (place given : List ℕ) (day told : ℕ) (description shown bytes : List ℕ) → given ≡ place → told ≡ day → shown ≡ description
    → bytes ≡ ended (head given told shown) → bytes ≡ ended (head place day description)
heading_is place given day told description shown bytes one two three is = is ∙ (λ i. ended (head (one i) (two i) (three i)))
