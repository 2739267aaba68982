-- What a sink gains when the trains are listed that have a train identity and start on a day.
use Rattle.std.specs.Prelude.{ℕ, List, Option}
use Rattle.cif_device.specs.Device.{Takes, TakesPart}
use Rattle.docker_model.specs.lists.TrainsText.{IsTrainsText}
use Rattle.docker_model.specs.state.Table.{Table}

-- says that the sink gained the list of the trains that have the identity and start on the day
pub record ListsTrains (live : Table) (identity : List ℕ) (day : ℕ) (old new : Option (List ℕ)) : Type 0 where
  pub text : List ℕ
  pub is : IsTrainsText live identity day text
  pub gained : Takes old text new

-- says that the sink gained a proper prefix of the list of the trains that have the identity and
-- start on the day
pub record ListsPart (live : Table) (identity : List ℕ) (day : ℕ) (old new : Option (List ℕ)) : Type 0 where
  pub text : List ℕ
  pub is : IsTrainsText live identity day text
  pub gained : TakesPart old text new
