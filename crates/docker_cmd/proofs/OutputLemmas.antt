-- Lemmas on writing a docker, given the contract of the office that prints it.
use Rattle.cif_laws.proofs.Common.{◌≡◌, ◌≢◌, ◌+◌, ◌⊎◌, ℕ, List, Err, rules, IfErr, IsOk, Result, ⊤, IsDayRefused, State}
use Rattle.docker_office.specs.Faults.{IsOfDocker}
use Rattle.docker_office.specs.Office.{PrintsDocker, PrintsPart}
use Rattle.docker_office.specs.declared.fault.OfficeFault.{OfficeFault}
use Rattle.docker_office.specs.declared.fault.OfficeFault.TheVariants as office
use Rattle.docker_cmd.specs.Prepared.{DeviceBytes, EndsEmitting, office_read}
use Rattle.docker_cmd.specs.Writes.{docker_written}

-- if an office prints a docker as the office's contract says, writing the docker ends as the
-- contract of `emit` says
pub docker_ends : {K : Type 0} (taken : K → DeviceBytes) (failures : K → ℕ) (state : State) (place : List ℕ) (day : ℕ) (old new : K)
    (result : Result ⊤ OfficeFault)
    → (IsOk result → PrintsDocker state place day (taken old) (taken new))
    → (result ≡ Err office.Sink → PrintsPart state place day (taken old) (taken new))
    → (result ≡ Err office.Lapsed → IsDayRefused state.horizon day)
    → (IsDayRefused state.horizon day → result ≡ Err office.Lapsed)
    → ((result ≡ Err office.Lapsed) ⊎ (result ≡ Err office.Memory) → new ≡ old)
    → (result ≡ Err office.Sink → failures new ≡ failures old + 1)
    → (result ≢ Err office.Sink → failures new ≡ failures old)
    → IfErr result IsOfDocker
    → EndsEmitting taken failures (docker_written place day) (office_read state) old new result
docker_ends = search rules
