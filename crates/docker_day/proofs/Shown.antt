-- A docker shows columns of a location record. Which columns it shows depends on the record's kind
-- and on the occasion.
use Rattle.cif_laws.proofs.Common.{◌≡◌, ℕ, List, rules, Option, Kind, Occasion, pass, dividing, next_working, spaces}
use Rattle.docker_model.specs.file.Journey.{joining}
use Rattle.docker_model.specs.docker.DockerLine.{public_by_kind}
use Rattle.docker_day.specs.Locations.{location_by_kind, public_at}

-- says that only an arrival and a departure have a public time
record HasNoOther (kind : Option Kind) (line : List ℕ) : Type 0 where
  passing : public_by_kind kind pass line ≡ spaces 4
  join : public_by_kind kind joining line ≡ spaces 4
  divide : public_by_kind kind dividing line ≡ spaces 4
  next : public_by_kind kind next_working line ≡ spaces 4

no_other : (kind : Option Kind) (line : List ℕ) → HasNoOther kind line
no_other = search rules

-- for each occasion, the printed public time equals the public time in the definitions
pub public_is : (occasion : Occasion) (kind : Option Kind) (line : List ℕ) → public_at occasion (location_by_kind kind line) ≡ public_by_kind kind occasion line
public_is = search (rules, no_other)
