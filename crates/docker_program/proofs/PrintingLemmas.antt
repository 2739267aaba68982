-- How a job that prints ends, given the contract of `emit`.
use Rattle.cif_laws.proofs.Common.{◌≡◌, ℕ, List, None, Ok, Err, refl, ap, subst, rules, Option, Result, ⊤}
use Rattle.docker_host.specs.History.{Bytes, Event}
use Rattle.docker_office.specs.declared.fault.OfficeFault.{OfficeFault}
use Rattle.docker_office.specs.declared.fault.OfficeFault.TheVariants as office
use Rattle.docker_cmd.specs.Prepared.{EndsEmitting, PreparedView}
use Rattle.docker_cmd.specs.Tasks.{output_of}
use Rattle.docker_cmd.specs.Words.{Text}
use Rattle.docker_program.specs.SourceNames.{stored_by}
use Rattle.docker_program.specs.Writing.{Drafting, EndsWriting, WantsToWriteTo, WritesPartTo, written}

-- if a job writes no file and its output was emitted, the writing of its output has ended
pub printing_ends : {K : Type 0} (taken : K → Bytes) (failures : K → ℕ) (by : Drafting) (history : List Event) (prepared : PreparedView) (old new : K)
    (result : Result ⊤ OfficeFault) → None ≡ stored_by prepared.job
    → EndsEmitting taken failures (output_of prepared.job.task) prepared.read old new result
    → EndsWriting by (written (taken old) (taken new) history history) prepared result
printing_ends taken failures by history prepared old new (Ok done) prints ends = search rules
printing_ends taken failures by history prepared old new (Err office.Sink) prints ends =
    subst (λ (stored : Option Text). WritesPartTo stored by (written (taken old) (taken new) history history) prepared) prints (ends.0, ends.1, refl)
printing_ends taken failures by history prepared old new (Err office.Lapsed) prints ends = ((ends.0, refl), ap taken ends.1)
printing_ends taken failures by history prepared old new (Err office.Memory) prints ends = (
  subst (λ (stored : Option Text). WantsToWriteTo stored by (written (taken old) (taken new) history history) prepared) prints (ends.0, ends.1, refl),
  ap taken ends.2,
)
printing_ends taken failures by history prepared old new _ prints ends = absurd ends
