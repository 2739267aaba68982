-- What contracts can say about the folder of the real files: its events and its failure count.
use Rattle.std.specs.Prelude.{ℕ, List}
use Rattle.docker_host.specs.History.{Event}

-- the events of the folder, oldest first, and its failure count
pub record FolderView : Type 0 where
  pub events : List Event
  pub failures : ℕ
