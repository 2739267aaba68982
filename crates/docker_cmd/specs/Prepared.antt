-- What a job reads, and what it writes.
use Rattle.std.specs.Prelude.{◌≡◌, ℕ, ◌+◌, ◌⊎◌, ⊤, List, [], ◌∷◌, Option, Result, Ok, Err}
use Rattle.cif_device.specs.Device.{Reads, Takes, TakesPart, IsEnd, Held}
use Rattle.cif_device.specs.FeedEnds.{most_at_once}
use Rattle.cif_file.specs.FileRead.{FileCounted}
use Rattle.cif_file.specs.SourceRead.{CountsText, RefusesText, ReadsNoFurther}
use Rattle.cif_file.specs.declared.fault.FileFault.{FileFault}
use Rattle.docker_model.specs.file.File.{most_records}
use Rattle.docker_model.specs.file.FileFault.{IsFileText}
use Rattle.docker_model.specs.state.Lapse.{IsDayRefused}
use Rattle.docker_model.specs.state.State.{State, live_table}
use Rattle.docker_model.specs.state.StateText.{Format, dks_2, state_text}
use Rattle.docker_model.specs.state.Summary.{IsSummary}
use Rattle.docker_model.specs.state.Table.{IsPlainTable}
use Rattle.docker_model.specs.docker.DockerText.{IsDockerText, files_text}
use Rattle.docker_bytes.specs.SourceRead.{ReadsState, JoinsState, RaisesState, RefusesState, ReadsOnePieceMore, WantsMemory}
use Rattle.docker_bytes.specs.declared.fault.StateFault.{StateFault}
use Rattle.docker_office.specs.declared.fault.OfficeFault.{OfficeFault}
use Rattle.docker_office.specs.Faults.{IsReason, no_fault}
use Rattle.docker_office.specs.Office.{no_state, TakesFile, WantsForFile}
use Rattle.docker_cmd.specs.Job.{JobView}
use Rattle.docker_cmd.specs.Tasks.{TaskView, check_task, horizon_task}
use Rattle.docker_cmd.specs.Reads.{Sources, no_source, checked_file, taken_file, one_state, state_and_file, two_states}
use Rattle.docker_cmd.specs.Tasks.{output_of, sources_of}
use Rattle.docker_cmd.specs.Writes.{Output, counts_written, docker_written, files_written, state_written}
use Rattle.docker_cmd.specs.CheckLine.{count_line}

-- the most bytes that a state's text may have
abbrev pub most_bytes : ℕ
most_bytes = 1099511627776

-- the bytes left in a source, or the bytes that a sink has taken; None if contracts can't say which
-- bytes they are
abbrev pub DeviceBytes : Type 0
DeviceBytes = Option (List ℕ)

-- the content that a task has read: the counts of a file, or an office's state
pub data ReadView : Type 0 where
  file_read : (file : FileCounted) → ReadView
  office_read : (state : State) → ReadView

-- a job, and the content that the job has read
pub record PreparedView : Type 0 where
  pub job : JobView
  pub read : ReadView

-- the task reads nothing
abbrev pub HasNoSource : Sources → Type 0
HasNoSource sources = sources ≡ no_source

-- the task reads a second source
abbrev pub HasSecondSource : Sources → Type 0
HasSecondSource sources = (sources ≡ state_and_file) ⊎ (sources ≡ two_states)

-- there is a state whose text the source held
abbrev pub HoldsSomeState : DeviceBytes → Type 0
HoldsSomeState left = (state : State) × ReadsState dks_2 most_bytes left state

-- this is the state of an office that read the state in the first source and then took the file in
-- the second source
pub record TakesBehind (first second : DeviceBytes) (state : State) : Type 0 where
  pub own : State
  pub reads : ReadsState dks_2 most_bytes first own
  pub takes : TakesFile most_records second own state

-- this is the state of an office that read the state in the first source and then received the
-- state in the second source
pub record JoinsBehind (first second : DeviceBytes) (state : State) : Type 0 where
  pub own : State
  pub reads : ReadsState dks_2 most_bytes first own
  pub joins : JoinsState dks_2 most_bytes second own state

-- this is the state of an office that has read these sources. If a file was only checked, there is
-- no state
abbrev pub IsStateOfSources : Sources → DeviceBytes → DeviceBytes → State → Type 0
IsStateOfSources no_source first second state = state ≡ no_state
IsStateOfSources checked_file first second state = ⊥
IsStateOfSources taken_file first second state = TakesFile most_records first no_state state
IsStateOfSources (one_state format) first second state = ReadsState format most_bytes first state
IsStateOfSources state_and_file first second state = TakesBehind first second state
IsStateOfSources two_states first second state = JoinsBehind first second state

-- this is the state that a task makes from its sources. `horizon` raises the horizon of the state
-- that was read, and `check` makes no state
abbrev pub IsStateReadBy : TaskView → DeviceBytes → DeviceBytes → State → Type 0
IsStateReadBy (horizon_task day) first second state = RaisesState dks_2 most_bytes first day state
IsStateReadBy task first second state = IsStateOfSources (sources_of task) first second state

-- this is what a task makes from its sources. For `check`, it is the counts of the file; for any
-- other task, it is a state
abbrev pub IsReadOf : TaskView → DeviceBytes → DeviceBytes → ReadView → Type 0
IsReadOf task first second (file_read file) = (task ≡ check_task) × CountsText most_records first file
IsReadOf task first second (office_read state) = IsStateReadBy task first second state

-- the content is the state of the one file whose text the source held. The live table of this state
-- is the plain table of that file
pub record IsOfOneFile (left : DeviceBytes) (read : ReadView) : Type 0 where
  pub text : List ℕ
  pub held : Held left text
  pub file : List (List ℕ)
  pub is_text : IsFileText most_records text file
  pub state : State
  pub read_is : read ≡ office_read state
  pub summary : IsSummary (file ∷ []) 0 state
  pub plain : IsPlainTable (file ∷ []) (live_table state)

-- a source should have held a file, but its text has this fault. A second source is read only if
-- the first source held a state
abbrev pub RefusesFileOf : Sources → DeviceBytes → DeviceBytes → FileFault → Type 0
RefusesFileOf checked_file first second fault = RefusesText most_records first fault
RefusesFileOf taken_file first second fault = RefusesText most_records first fault
RefusesFileOf state_and_file first second fault = HoldsSomeState first × RefusesText most_records second fault
RefusesFileOf _ first second fault = ⊥

-- a source should have held a state, but its text has this fault. A second source is read only if
-- the first source held a state
abbrev pub RefusesStateOf : Sources → DeviceBytes → DeviceBytes → StateFault → Type 0
RefusesStateOf (one_state format) first second fault = RefusesState format most_bytes first fault
RefusesStateOf state_and_file first second fault = RefusesState dks_2 most_bytes first fault
RefusesStateOf two_states first second fault =
    RefusesState dks_2 most_bytes first fault ⊎ (HoldsSomeState first × RefusesState dks_2 most_bytes second fault)
RefusesStateOf _ first second fault = ⊥

-- memory ran out while a state in this format was read
abbrev pub WantsForState : Format → DeviceBytes → DeviceBytes → Type 0
WantsForState format old new = WantsMemory format most_at_once most_bytes old new

-- memory ran out while these sources were read. If memory ran out for the first source, nothing was
-- read from the second source. If memory ran out for the second source, the first source held a
-- state. A file that is only checked needs memory only before its first byte is read
abbrev pub WantsFor : Sources → DeviceBytes → DeviceBytes → DeviceBytes → DeviceBytes → Type 0
WantsFor no_source old new second_old second_new = ⊥
WantsFor checked_file old new second_old second_new = Reads old [] new
WantsFor taken_file old new second_old second_new = WantsForFile most_records old new
WantsFor (one_state format) old new second_old second_new = WantsForState format old new
WantsFor state_and_file old new second_old second_new =
    (WantsForState dks_2 old new × (second_new ≡ second_old)) ⊎ (HoldsSomeState old × WantsForFile most_records second_old second_new)
WantsFor two_states old new second_old second_new =
    (WantsForState dks_2 old new × (second_new ≡ second_old)) ⊎ (HoldsSomeState old × WantsForState dks_2 second_old second_new)

-- a file was read no further than the piece that decides the result
abbrev pub ReadsFewOfFile : DeviceBytes → DeviceBytes → Type 0
ReadsFewOfFile old new = ReadsNoFurther most_at_once most_records old new

-- a state was read no further than the piece that decides the result
abbrev pub ReadsFewOfState : Format → DeviceBytes → DeviceBytes → Type 0
ReadsFewOfState format old new = ReadsOnePieceMore format most_at_once most_bytes old new

-- the first source was read no further than the piece that decides the result. If the task has no
-- source, nothing was read
abbrev pub ReadsFewOfFirst : Sources → DeviceBytes → DeviceBytes → Type 0
ReadsFewOfFirst no_source old new = new ≡ old
ReadsFewOfFirst checked_file old new = ReadsFewOfFile old new
ReadsFewOfFirst taken_file old new = ReadsFewOfFile old new
ReadsFewOfFirst (one_state format) old new = ReadsFewOfState format old new
ReadsFewOfFirst state_and_file old new = ReadsFewOfState dks_2 old new
ReadsFewOfFirst two_states old new = ReadsFewOfState dks_2 old new

-- the second source was read no further than the piece that decides the result. If the first source
-- held no state, nothing was read from the second source
abbrev pub ReadsFewOfSecond : Sources → DeviceBytes → DeviceBytes → DeviceBytes → Type 0
ReadsFewOfSecond no_source first old new = new ≡ old
ReadsFewOfSecond checked_file first old new = new ≡ old
ReadsFewOfSecond taken_file first old new = new ≡ old
ReadsFewOfSecond (one_state format) first old new = new ≡ old
ReadsFewOfSecond state_and_file first old new = (new ≡ old) ⊎ (HoldsSomeState first × ReadsFewOfFile old new)
ReadsFewOfSecond two_states first old new = (new ≡ old) ⊎ (HoldsSomeState first × ReadsFewOfState dks_2 old new)

-- each file among these sources was read to its end
abbrev pub HasReadToEnd : Sources → DeviceBytes → DeviceBytes → Type 0
HasReadToEnd no_source first second = ⊤
HasReadToEnd checked_file first second = IsEnd first
HasReadToEnd taken_file first second = IsEnd first
HasReadToEnd (one_state format) first second = ⊤
HasReadToEnd state_and_file first second = IsEnd second
HasReadToEnd two_states first second = ⊤

-- this is a fault for which these sources may be refused, given the bytes that the sources held and
-- the bytes that are left
abbrev pub IsWhyRefused : Sources → DeviceBytes → DeviceBytes → DeviceBytes → DeviceBytes → OfficeFault → Type 0
IsWhyRefused sources first left second second_left = IsReason (record no_fault {
  file = RefusesFileOf sources first second;
  state = RefusesStateOf sources first second;
  source = ⊤;
  memory = WantsFor sources first left second second_left;
})

-- reading the sources ended with this result. If the result is a value, it has the property
-- `IsMade`, and each file was read to its end. If the result is a fault, the sources may be refused
-- for this fault
abbrev pub IsMadeOrRefused : {A : Type 0} → (A → Type 0) → Sources → DeviceBytes → DeviceBytes → DeviceBytes → DeviceBytes → Result A OfficeFault → Type 0
IsMadeOrRefused IsMade sources first left second second_left (Ok made) = IsMade made × HasReadToEnd sources left second_left
IsMadeOrRefused IsMade sources first left second second_left (Err fault) = IsWhyRefused sources first left second second_left fault

-- the sources were read in order, no further than the result needs, and `Ends` holds
pub record ReadsFew (sources : Sources) (first left second second_left : DeviceBytes) (Ends : Type 0) : Type 0 where
  pub first_few : ReadsFewOfFirst sources first left
  pub second_few : ReadsFewOfSecond sources first second second_left
  pub ends : Ends

-- the sources were read no further than the result needs. The result is a value with the property
-- `IsMade`, or a fault
abbrev pub ReadsSources : {A : Type 0} → (A → Type 0) → Sources → DeviceBytes → DeviceBytes → DeviceBytes → DeviceBytes → Result A OfficeFault → Type 0
ReadsSources IsMade sources first left second second_left result =
    ReadsFew sources first left second second_left (IsMadeOrRefused IsMade sources first left second second_left result)

-- the prepared job consists of this job and of what its task makes from its sources
abbrev pub IsPreparedFor : JobView → DeviceBytes → DeviceBytes → PreparedView → Type 0
IsPreparedFor job first second prepared = (prepared.job ≡ job) × IsReadOf job.task first second prepared.read

-- a job's sources were read no further than the result needs. The result is the prepared job, or a
-- fault
abbrev pub ReadsInOrder : JobView → DeviceBytes → DeviceBytes → DeviceBytes → DeviceBytes → Result PreparedView OfficeFault → Type 0
ReadsInOrder job first left second second_left result =
    ReadsSources (IsPreparedFor job first second) (sources_of job.task) first left second second_left result

-- the failure counts of two sources are unchanged
abbrev pub HaveNotFailed : ℕ → ℕ → ℕ → ℕ → Type 0
HaveNotFailed first first_now second second_now = (first_now ≡ first) × (second_now ≡ second)

-- if the fault is `Source`, one of the two sources has failed once; otherwise neither has failed
abbrev pub FailsBy : ℕ → ℕ → ℕ → ℕ → OfficeFault → Type 0
FailsBy first first_now second second_now = IsReason (record no_fault {
  file = λ fault. HaveNotFailed first first_now second second_now;
  state = λ fault. HaveNotFailed first first_now second second_now;
  source = first_now + second_now ≡ first + second + 1;
  memory = HaveNotFailed first first_now second second_now;
})

-- reading two sources ended with this result. If the result is the fault `Source`, the sum of their
-- failure counts grew by one; otherwise both counts are unchanged
abbrev pub CountsSources : {A : Type 0} → Result A OfficeFault → ℕ → ℕ → ℕ → ℕ → Type 0
CountsSources (Ok made) first first_now second second_now = HaveNotFailed first first_now second second_now
CountsSources (Err fault) first first_now second second_now = FailsBy first first_now second second_now fault

-- the reading of these sources, in order, has stopped. If the task has no source, nothing was read.
-- The second source was read only if the task has one, and if the first source held a state and
-- didn't fail. `Outcome` says what the result means, and `Counted` how often the sources have failed
pub record StopsReadingSources {S T : Type 0} (left : S → DeviceBytes) (failures : S → ℕ) (sources : Sources) (first first_now : S)
    (second second_now : T) (Outcome Counted : Type 0) : Type 0 where
  pub outcome : Outcome
  pub none : HasNoSource sources → first_now ≡ first
  pub order : (second_now ≡ second) ⊎ (HasSecondSource sources × HoldsSomeState (left first) × (failures first_now ≡ failures first))
  pub counted : Counted

-- reading the sources in order ended with this result: a value with the property `IsMade`, or a
-- fault. For the first source, `left` returns the bytes left in it, and `failures` its number of
-- failures; `left_of` and `failures_of` return them for the second source
abbrev pub EndsReadingSources : {S T A : Type 0} → (S → DeviceBytes) → (S → ℕ) → (T → DeviceBytes) → (T → ℕ) → (A → Type 0) → Sources → S → S → T → T
    → Result A OfficeFault → Type 0
EndsReadingSources left failures left_of failures_of IsMade sources first first_now second second_now result =
    StopsReadingSources left failures sources first first_now second second_now
    (ReadsSources IsMade sources (left first) (left first_now) (left_of second) (left_of second_now) result)
    (CountsSources result (failures first) (failures first_now) (failures_of second) (failures_of second_now))

-- this is the text of this output for a state: a docker, the list of the state's files, or the text
-- of the state
abbrev pub IsStateOutput : Output → State → List ℕ → Type 0
IsStateOutput counts_written state text = ⊥
IsStateOutput (docker_written place day) state text = IsDockerText (live_table state) place day text
IsStateOutput files_written state text = text ≡ files_text state.ledger
IsStateOutput state_written state text = text ≡ state_text dks_2 state

-- this is the text of this output for the content that was read
abbrev pub IsOutputText : Output → ReadView → List ℕ → Type 0
IsOutputText output (file_read file) text = (output ≡ counts_written) × (text ≡ count_line file.record_count file.change_count)
IsOutputText output (office_read state) text = IsStateOutput output state text

-- the sink has gained the text of this output
pub record GainsText (output : Output) (read : ReadView) (old new : DeviceBytes) : Type 0 where
  pub text : List ℕ
  pub is : IsOutputText output read text
  pub gained : Takes old text new

-- the sink has gained a proper prefix of the text of this output
pub record GainsTextPart (output : Output) (read : ReadView) (old new : DeviceBytes) : Type 0 where
  pub text : List ℕ
  pub is : IsOutputText output read text
  pub gained : TakesPart old text new

-- the sink has gained the text of the job's output
abbrev pub GainsOutput : PreparedView → DeviceBytes → DeviceBytes → Type 0
GainsOutput prepared old new = GainsText (output_of prepared.job.task) prepared.read old new

-- the sink has gained a proper prefix of the text of the job's output
abbrev pub GainsPart : PreparedView → DeviceBytes → DeviceBytes → Type 0
GainsPart prepared old new = GainsTextPart (output_of prepared.job.task) prepared.read old new

-- the output is a docker of a refused day: the state has a horizon, and the day is before the third
-- day after the horizon
abbrev pub IsRefusedDocker : Output → ReadView → Type 0
IsRefusedDocker output (file_read file) = ⊥
IsRefusedDocker (docker_written place day) (office_read state) = IsDayRefused state.horizon day
IsRefusedDocker _ (office_read state) = ⊥

-- the job would print a docker of a refused day
abbrev pub IsRefused : PreparedView → Type 0
IsRefused prepared = IsRefusedDocker (output_of prepared.job.task) prepared.read

-- the output is a docker
abbrev pub IsDocker : Output → Type 0
IsDocker (docker_written place day) = ⊤
IsDocker _ = ⊥

-- the job prints a docker
abbrev pub PrintsDocker : PreparedView → Type 0
PrintsDocker prepared = IsDocker (output_of prepared.job.task)

-- writing an output to a sink ended with this result. On success the sink has gained the text. If
-- the sink failed, it has gained a proper prefix of the text. If a docker can't be made, the sink
-- is unchanged. The day of a docker is refused if and only if the result is `Lapsed`
abbrev pub EndsEmitting : {K : Type 0} → (K → DeviceBytes) → (K → ℕ) → Output → ReadView → K → K → Result ⊤ OfficeFault → Type 0
EndsEmitting taken failures output read old new (Ok done) =
    GainsText output read (taken old) (taken new) × (¬ IsRefusedDocker output read) × (failures new ≡ failures old)
EndsEmitting taken failures output read old new (Err fault) = IsReason (record no_fault {
  lapsed = IsRefusedDocker output read × (new ≡ old);
  sink = GainsTextPart output read (taken old) (taken new) × (¬ IsRefusedDocker output read) × (failures new ≡ failures old + 1);
  memory = IsDocker output × (¬ IsRefusedDocker output read) × (new ≡ old);
}) fault
