-- The bytes that a program writes to its sink of faults. This sink takes the lines that report
-- faults.
use Rattle.std.specs.Prelude.{◌≡◌, ℕ, ◌+◌, List, ◌⊎◌}
use Rattle.cif_device.specs.Device.{Takes, TakesPart}
use Rattle.docker_host.specs.History.{Bytes}
use Rattle.docker_host.specs.Host.{HostView}

-- the bytes that a sink of faults has taken, and its failure count
pub record FaultsView : Type 0 where
  pub taken : Bytes
  pub failures : ℕ

-- the view with these bytes and this failure count
abbrev pub faults_view : Bytes → ℕ → FaultsView
faults_view taken failures = record { taken = taken; failures = failures }

-- the sink of faults of a program with this host
abbrev pub faults_of : HostView → FaultsView
faults_of host = faults_view host.faults host.faults_failures

-- this text was written to the sink of faults. Either the sink took the whole text, or the sink
-- failed once more and took a proper prefix of the text
abbrev pub TellsText : List ℕ → FaultsView → FaultsView → Type 0
TellsText text old new = ((new.failures ≡ old.failures) × Takes old.taken text new.taken)
    ⊎ ((new.failures ≡ old.failures + 1) × TakesPart old.taken text new.taken)
