-- The text that the code writes for a detailed docker is its text in the definitions.
use Rattle.cif_laws.proofs.Common.{◌≡◌, ℕ, List, [], ◌∷◌, ◌++◌, map, refl, ap, sym, ◌∙◌, AllByRecursion, AllZip, flat_map, zip, recursion_from_All, tiploc_key}
use Rattle.cif_laws.proofs.Common.{Table, IsDetailedText, IsOrigin, detailed_line, padded, DockerLine, description_in, ended, heading, last_line}
use Rattle.docker_day.specs.DockerValue.{head}
use Rattle.docker_detail.specs.DetailedValue.{DetailedDocker, IsDetailedOf, text_of}
use Rattle.docker_detail.specs.Finding.{Detailed}

-- a list of pairs is the list of its first values, zipped with the list of its second values
zipped : (lines : List Detailed) → zip (map (λ (line : Detailed). line.0) lines) (map (λ (line : Detailed). line.1) lines) ≡ lines
zipped [] = refl
zipped (line ∷ lines) = ap (λ (rest : List Detailed). line ∷ rest) (zipped lines)

-- a relation that holds in each pair holds between the first values and the second values
all_zipped : (R : DockerLine → List ℕ → Type 0) (lines : List Detailed) → AllByRecursion (λ (line : Detailed). R line.0 line.1) lines
    → AllZip R (map (λ (line : Detailed). line.0) lines) (map (λ (line : Detailed). line.1) lines)
all_zipped R [] all = tt
all_zipped R (line ∷ lines) all = (all.0, all_zipped R lines all.1)

head_is : (live : Table) (place : List ℕ) (day : ℕ) → head place day (description_in (live (tiploc_key place))) ≡ heading live place day
unfolding head
head_is live place day = refl

-- the text that is written for the detailed docker of a table, a place and a day is its text in the
-- definitions
pub printed : (live : Table) (place : List ℕ) (day : ℕ) (docker : DetailedDocker) → IsDetailedOf live place day docker
    → IsDetailedText live place day (text_of docker)
printed live place day docker is = record {
  lines = map (λ (line : Detailed). line.0) docker.lines;
  docker = is.list;
  origins = map (λ (line : Detailed). line.1) docker.lines;
  come_from = all_zipped (IsOrigin live place day) docker.lines
      (recursion_from_All (λ (line : Detailed). IsOrigin live place day line.0 line.1) docker.lines is.origins);
  text_is = λ i. ended (padded (whole i)) ++ flat_map (λ (line : Detailed). ended (detailed_line line)) (sym (zipped docker.lines) i)
      ++ ended (padded last_line);
}
  where
    whole : head docker.place docker.day docker.description ≡ heading live place day
    whole = (λ i. head (is.place_is i) (is.day_is i) (is.described i)) ∙ head_is live place day

-- the heading that is written is the heading in the definitions
pub heading_is : (place given : List ℕ) (day told : ℕ) (description shown bytes : List ℕ) → given ≡ place → told ≡ day → shown ≡ description
    → bytes ≡ ended (padded (head given told shown)) → bytes ≡ ended (padded (head place day description))
heading_is place given day told description shown bytes one two three is = is ∙ (λ i. ended (padded (head (one i) (two i) (three i))))
