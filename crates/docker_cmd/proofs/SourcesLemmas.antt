-- What a job has read, as the contract of `prepare` says it.
use Rattle.cif_laws.proofs.Common.{◌≡◌, ℕ, [], ◌∷◌, refl, sym, ◌∙◌, Ok, Err, rules, Result, most_records, State, Format, IsSummary}
use Rattle.cif_laws.proofs.lists.Membership.{Contains-single, nil-Contains}
use Rattle.state_laws.proofs.states.PlainLive.{live_table_is_plain}
use Rattle.state_laws.proofs.states.SummaryLaws.{join_is_summary}
use Rattle.docker_bytes.specs.ReadEnds.{CountsWhy, IsWhyUnread, StopsReading}
use Rattle.docker_bytes.specs.SourceRead.{WantsMemory}
use Rattle.docker_office.specs.Office.{TakesFile, no_state}
use Rattle.docker_office.specs.OfficeReads.{why_unread}
use Rattle.docker_office.specs.declared.fault.OfficeFault.{OfficeFault}
use Rattle.docker_cmd.specs.Holding.{held_meant}
use Rattle.docker_cmd.specs.Job.{JobView}
use Rattle.docker_cmd.specs.Reads.{one_state, taken_file}
use Rattle.docker_cmd.specs.Tasks.{TaskView, day_task}
use Rattle.docker_cmd.specs.Tasks.{sources_of}
use Rattle.docker_cmd.specs.Prepared.{CountsSources, HasNoSource, ReadsSources}
use Rattle.docker_cmd.specs.Prepared.{DeviceBytes, EndsReadingSources, HasReadToEnd, IsOfOneFile, IsPreparedFor}
use Rattle.docker_cmd.specs.Prepared.{IsReadOf, ReadView, ReadsFew, file_read, most_bytes, office_read}
use Rattle.docker_cmd.specs.declared.holding.Holding.{Holding}
use Rattle.docker_cmd.proofs.ReadingLemmas.{read_alone, state_failed_alone, state_refused_alone}

-- `no_state`, the state without files and without a horizon, is the summary of no files and no
-- horizon
no_files : IsSummary [] 0 no_state
no_files = search (rules, nil-Contains)

-- if a new office takes one file, its state is the summary of this file, and its live table is the
-- file's plain table
of_one_file : (left : DeviceBytes) (state : State) → TakesFile most_records left no_state state → IsOfOneFile left (office_read state)
of_one_file left state takes =
    let summary : IsSummary (takes.file ∷ []) 0 state = join_is_summary _ _ _ _ _ _ _ no_files takes.of_file takes.joined in
    record {
      text = takes.text;
      held = takes.held;
      file = takes.file;
      is_text = takes.is_text;
      state = state;
      read_is = refl;
      summary = summary;
      plain = live_table_is_plain _ _ summary (λ one two is_one is_two same. sym (Contains-single _ _ is_one) ∙ Contains-single _ _ is_two);
    }

-- if a task's source is a file that an office takes, the content that the task has read is the
-- summary of this one file
pub read_one_file : (task : TaskView) (first second : DeviceBytes) (read : ReadView) → sources_of task ≡ taken_file → IsReadOf task first second read
    → IsOfOneFile first read
read_one_file (day_task place day) first second (file_read file) is reads = search rules
read_one_file (day_task place day) first second (office_read state) is reads = of_one_file first state reads
read_one_file task first second read is reads = let never : ⊥ = cc in absurd never

-- a job, together with what its task has read, is a prepared job
pub prepared_read : (job : JobView) (first left second second_left : DeviceBytes) (read : ReadView)
    → ReadsFew (sources_of job.task) first left second second_left (IsReadOf job.task first second read × HasReadToEnd (sources_of job.task) left second_left)
    → ReadsFew (sources_of job.task) first left second second_left
    (IsPreparedFor job first second (record { job = job; read = read }) × HasReadToEnd (sources_of job.task) left second_left)
prepared_read = search rules

-- ---- the contract of `hold`

-- reading the sources of a task ended as the contract of `hold` says
abbrev pub EndsHolding : {S T : Type 0} → (S → DeviceBytes) → (S → ℕ) → (T → DeviceBytes) → (T → ℕ) → TaskView → S → S → T → T
    → Result Holding OfficeFault → Type 0
EndsHolding left failures left_of failures_of task first now second second_now result =
    EndsReadingSources left failures left_of failures_of (λ held. IsReadOf task (left first) (left_of second) (held_meant held))
    (sources_of task) first now second second_now result

-- if two tasks are equal, reading the sources of one ends like reading the sources of the other
pub held_for : {S T : Type 0} (left : S → DeviceBytes) (failures : S → ℕ) (left_of : T → DeviceBytes) (failures_of : T → ℕ) (asked task : TaskView)
    (first now : S) (second second_now : T) (result : Result Holding OfficeFault) → asked ≡ task
    → EndsHolding left failures left_of failures_of task first now second second_now result
    → EndsHolding left failures left_of failures_of asked first now second second_now result
held_for = search rules

-- if a task has a source, and reads only its first source, its reading ended as the contract of
-- `hold` says
pub alone_held : {S T : Type 0} (left : S → DeviceBytes) (failures : S → ℕ) (left_of : T → DeviceBytes) (failures_of : T → ℕ) (asked task : TaskView)
    (first now : S) (second : T) (result : Result Holding OfficeFault) → asked ≡ task → ¬ HasNoSource (sources_of task)
    → ReadsSources (λ held. IsReadOf task (left first) (left_of second) (held_meant held)) (sources_of task) (left first) (left now) (left_of second)
    (left_of second) result
    → CountsSources result (failures first) (failures now) (failures_of second) (failures_of second)
    → EndsHolding left failures left_of failures_of asked first now second second result
alone_held = search (rules, held_for, read_alone)

-- a task whose only source is a state has read this state
pub state_held : {S T : Type 0} (left : S → DeviceBytes) (failures : S → ℕ) (left_of : T → DeviceBytes) (failures_of : T → ℕ) (format : Format)
    (asked task : TaskView) (first now : S) (second : T) (held : Holding) → asked ≡ task → sources_of task ≡ one_state format
    → StopsReading format most_bytes (left first) (left now) (IsReadOf task (left first) (left_of second) (held_meant held)) (failures now ≡ failures first)
    → EndsHolding left failures left_of failures_of asked first now second second (Ok held)
state_held = search (rules, held_for, read_alone)

-- a task whose only source is a state has read no state
pub state_unheld : {S T : Type 0} (left : S → DeviceBytes) (failures : S → ℕ) (left_of : T → DeviceBytes) (failures_of : T → ℕ) (format : Format)
    (asked task : TaskView) (first now : S) (second : T) (fault : OfficeFault) → asked ≡ task → sources_of task ≡ one_state format
    → StopsReading format most_bytes (left first) (left now) (IsWhyUnread WantsMemory format most_bytes (left first) (left now) (why_unread fault))
    (CountsWhy (why_unread fault) (failures first) (failures now))
    → EndsHolding left failures left_of failures_of asked first now second second (Err fault)
state_unheld = search (rules, held_for, read_alone, state_refused_alone, state_failed_alone)
