-- What the office of a command knows follows from what the command's sources held.
use Rattle.cif_laws.proofs.Common.{◌≡◌, ◌≤◌, ◌<◌, ◌^◌, ℕ, List, [], ◌∷◌, Some, None, length, refl, sym, ◌∙◌, subst, arith, append-nil, rules, Option, All-cons}
use Rattle.cif_laws.proofs.Common.{All-nil, IsDay, IsFile, most_records, IsDayRefused, State, IsJoin, raise_horizon, IsStateText, Format, dks_1, dks_2}
use Rattle.cif_laws.proofs.Common.{state_text, IsSummary, Known, IsStateOf, nothing, united, IsGoodKnown}
use Rattle.cif_laws.proofs.lists.Membership.{nil-Contains}
use Rattle.docker_laws.proofs.runs.GoodKnowledge.{horizon_good, nothing_good, united_good}
use Rattle.docker_laws.proofs.runs.MessageTexts.{counts_fit, summary_told}
use Rattle.state_laws.proofs.states.SummaryLaws.{join_is_summary, raised_summary}
use Rattle.state_laws.proofs.texts.TextsApart.{one_text}
use Rattle.docker_host.specs.History.{Bytes}
use Rattle.cif_device.specs.Device.{Held}
use Rattle.docker_bytes.specs.SourceRead.{ReadsState}
use Rattle.docker_office.specs.Office.{TakesFile, no_state}
use Rattle.docker_cmd.specs.Prepared.{most_bytes}
use Rattle.docker_cmd.specs.Saved.{HoldsFile}
use Rattle.docker_cmd.specs.Words.{NamesDay, NamesStored, OfTwo, Text}
use Rattle.docker_cmd.specs.Job.{JobView}
use Rattle.docker_cmd.specs.Prepared.{IsOutputText, IsReadOf, IsRefusedDocker, ReadView, file_read, office_read}
use Rattle.docker_cmd.specs.Tasks.{AreWordsOf, TaskView, new_task, check_task, day_task, take_task}
use Rattle.docker_cmd.specs.Tasks.{merge_task, print_task, files_task, horizon_task, migrate_task, output_of, writes_of}
use Rattle.docker_program.specs.SourceNames.{file_stored}
use Rattle.docker_program.specs.Program.{AsksFor}
use Rattle.docker_program.specs.Sources.{SourcesRead}
use Rattle.docker_program.specs.Commands.{HoldsKnown, IsKnownText, Knows, MayStore, Prints, PrintsKnown, Run, Stores, WritesKnown, of_file, of_horizon}

-- the state is the summary of the known files and the known horizon
pub record IsKnown (known : Known) (state : State) : Type 0 where
  pub good : IsGoodKnown dks_2 known
  pub is : IsStateOf known state

none_some : (name : Text) → ◌≡◌ {A = Option Text} None (Some name) → ⊥
none_some name is = cc

-- ---- what a source held

-- if a state was read from the text of `sent`, this state is `sent`
one_sent : (format : Format) (known : Known) (sent state : State) (text : List ℕ) → IsGoodKnown format known → IsStateOf known sent
    → text ≡ state_text format sent → IsStateText format most_bytes text state → sent ≡ state
one_sent format known sent state text good is told reads =
    let same : state_text format sent ≡ state_text format state = sym told ∙ reads.is in
    let within : length text ≤ most_bytes = reads.within in
    let short : length (state_text format sent) < 2 ^ 64 = subst (λ (t : List ℕ). length t < 2 ^ 64) told (omega arith) in
    let counts = counts_fit format sent short in
    one_text format sent state (summary_told format known sent good is, counts.0, counts.1) reads.valid same

-- if a source held the text of a summary, the state read from the source is that summary
pub state_held : (format : Format) (known : Known) (bytes : Bytes) (state : State) → HoldsKnown format bytes known → ReadsState format most_bytes bytes state
    → IsStateOf known state
state_held format known bytes state holds reads = subst (IsStateOf known) (one_sent _ _ _ _ _ holds.2.good holds.2.is.1 holds.2.is.2
    (subst (λ (t : List ℕ). IsStateText format most_bytes t state) (sym same) reads.is)) holds.2.is.1
  where
    same : holds.0 ≡ reads.text
    same = subst (λ (b : Bytes). Held b reads.text) holds.1 reads.held

-- if a source held the text of a summary in the format `DKS2`, the state read from the source is
-- that summary, and its files and its horizon are valid
pub known_held : (known : Known) (bytes : Bytes) (state : State) → HoldsKnown dks_2 bytes known → ReadsState dks_2 most_bytes bytes state
    → IsKnown known state
known_held known bytes state holds reads = record {
  good = holds.2.good;
  is = state_held dks_2 known bytes state holds reads;
}

-- the file that was read from a source is the file that the source held
pub file_held : (bytes : Bytes) (file : List (List ℕ)) (old new : State) (holds : HoldsFile bytes file) (takes : TakesFile most_records bytes old new)
    → takes.file ≡ file
file_held = search rules

-- ---- what is known after each step

-- the join of two states is the summary of what the two states know together
pub known_joined : (old heard : Known) (own other after : State) → IsKnown old own → IsKnown heard other → IsJoin own other after
    → IsKnown (united old heard) after
known_joined old heard own other after first second join = record {
  good = united_good dks_2 old heard first.good second.good;
  is = join_is_summary old.files heard.files old.horizon heard.horizon own other after first.is second.is join;
}

-- after a horizon is set, the state is the summary of what was known before and of the horizon
pub known_raised : (old : Known) (day : ℕ) (state : State) → IsDay day → IsKnown old state → IsKnown (united old (of_horizon day)) (raise_horizon day state)
known_raised = search (rules, united_good, horizon_good, append-nil, raised_summary)

-- if an office's state is the summary of one file under the horizon 0, this file and this horizon
-- are what the office knows
pub known_file : (file : List (List ℕ)) (state : State) → IsFile file → length file ≤ most_records → IsSummary (file ∷ []) 0 state
    → IsKnown (of_file file) state
known_file file state is few summary = record {
  good = (
    (All-cons IsFile file [] is (All-nil IsFile), All-cons (λ f. length f ≤ most_records) file [] few (All-nil (λ f. length f ≤ most_records))),
    omega arith,
  );
  is = summary;
}

-- `no_state` is the summary of `nothing`: no files and no horizon
pub known_nothing : IsKnown nothing no_state
known_nothing = search (rules, nothing_good, nil-Contains)

-- if a state is the summary of what is known, its text is the text of this summary
pub known_text : (known : Known) (state : State) (text : List ℕ) → IsKnown known state → text ≡ state_text dks_2 state → IsKnownText dks_2 known text
known_text = search rules

-- ---- what a command writes, given what it knows

-- if an office that knows no files takes a file, the office's state becomes the summary of that
-- file
taken_alone : (bytes : Bytes) (file : List (List ℕ)) (state : State) → HoldsFile bytes file → TakesFile most_records bytes no_state state
    → IsKnown (of_file file) state
taken_alone bytes file state holds takes = subst (λ (f : List (List ℕ)). IsKnown (of_file f) state) (file_held bytes _ no_state _ holds takes)
    (known_joined _ (of_file takes.file) _ takes.own _ known_nothing
    (known_file takes.file _ takes.is_text.is takes.is_text.within takes.of_file) takes.joined)

-- if an office takes a file, the office's state becomes the summary of what the office knew before
-- and of that file
pub taken_behind : (own : Known) (bytes : Bytes) (file : List (List ℕ)) (old new : State) → IsKnown own old → HoldsFile bytes file
    → TakesFile most_records bytes old new → IsKnown (united own (of_file file)) new
taken_behind own bytes file old new is holds takes = subst (λ (f : List (List ℕ)). IsKnown (united own (of_file f)) new) (file_held bytes _ old _ holds takes)
    (known_joined _ (of_file takes.file) _ takes.own _ is (known_file takes.file _ takes.is_text.is takes.is_text.within takes.of_file) takes.joined)

-- if a source held the text of a summary in the format `DKS1`, the state read from the source is
-- that summary
known_older : (known : Known) (bytes : Bytes) (state : State) → HoldsKnown dks_1 bytes known → ReadsState dks_1 most_bytes bytes state
    → IsKnown known state
known_older known bytes state holds reads = record {
  good = (holds.2.good.0, subst IsDay (sym holds.2.good.1) (omega arith));
  is = state_held dks_1 known bytes state holds reads;
}

-- if a state is the summary of what is known, each docker printed from the state is made from what
-- is known
known_docker : (known : Known) (state : State) (place : List ℕ) (day : ℕ) (text : List ℕ) → IsKnown known state → ¬ IsDayRefused state.horizon day
    → IsOutputText (output_of (print_task place day)) (office_read state) text → PrintsKnown known place day text
known_docker = search rules

-- if a job writes a text from a state, this text is made from what the job's office knows. It is
-- the text of the summary of this knowledge, a docker of this summary, or the list of the known
-- files
written_of_state : (task : TaskView) (first second : Bytes) (state : State) (text : List ℕ) (known : Known)
    → ((day : ℕ) → task ≡ horizon_task day → IsDay day) → IsReadOf task first second (office_read state)
    → IsOutputText (output_of task) (office_read state) text → ¬ IsRefusedDocker (output_of task) (office_read state)
    → Knows task first second known → WritesKnown task known text
written_of_state new_task first second state text known days reads is allowed knows = search (rules, known_text, known_nothing)
written_of_state check_task first second state text known days reads is allowed knows = tt
written_of_state (day_task place day) first second state text known days reads is allowed knows =
    known_docker known state place day text
    (subst (λ (k : Known). IsKnown k state) (sym knows.2) (taken_alone first knows.0 state knows.1 reads)) allowed is
written_of_state take_task first second state text known days reads is allowed knows =
    known_text known state text
    (subst (λ (k : Known). IsKnown k state) (sym knows.4)
    (taken_behind knows.0 second knows.1 reads.own state (known_held knows.0 first reads.own knows.2 reads.reads) knows.3 reads.takes)) is
written_of_state merge_task first second state text known days reads is allowed knows =
    known_text known state text
    (subst (λ (k : Known). IsKnown k state) (sym knows.4)
    (known_joined knows.0 knows.1 reads.own reads.joins.received state (known_held knows.0 first reads.own knows.2 reads.reads)
    (known_held knows.1 second reads.joins.received knows.3 reads.joins.read) reads.joins.join)) is
written_of_state (print_task place day) first second state text known days reads is allowed knows = search (rules, known_docker, known_held)
written_of_state files_task first second state text known days reads is allowed knows =
    (state, (known_held known first state knows reads).is, is)
written_of_state (horizon_task day) first second state text known days reads is allowed knows =
    known_text known state text
    (subst (λ (k : Known). IsKnown k state) (sym knows.2)
    (subst (IsKnown (united knows.0 (of_horizon day))) (sym reads.raised)
    (known_raised knows.0 day reads.own (days day refl) (known_held knows.0 first reads.own knows.1 reads.reads)))) is
written_of_state migrate_task first second state text known days reads is allowed knows = search (rules, known_text, known_older)

-- if a job writes a text, the text is made from what the job's office knows. Only `check` reads a
-- file without making a state, and `WritesKnown` allows any text as the output of `check`
written_known : (task : TaskView) (first second : Bytes) (what : ReadView) (text : List ℕ) (known : Known)
    → ((day : ℕ) → task ≡ horizon_task day → IsDay day) → IsReadOf task first second what
    → IsOutputText (output_of task) what text → ¬ IsRefusedDocker (output_of task) what
    → Knows task first second known → WritesKnown task known text
written_known task first second (file_read file) text known days reads is allowed knows =
    subst (λ (t : TaskView). WritesKnown t known text) (sym reads.0) tt
written_known task first second (office_read state) text known days reads is allowed knows = search (rules, written_of_state)

-- the words of a requested job name the job's task
asked_words : (words : List Text) (input rest : Bytes) (job : JobView) → AsksFor words input job rest → AreWordsOf job.task job.words
asked_words = search rules

-- the day that a `horizon` command names is a valid day number
one_day : (words : List Text) (day : ℕ) → OfTwo (λ state date. NamesStored state × NamesDay date day) words → IsDay day
one_day = search rules

asked_day : (words : List Text) (input rest : Bytes) (job : JobView) → AsksFor words input job rest → (day : ℕ) → job.task ≡ horizon_task day → IsDay day
asked_day = search (rules, one_day, asked_words)

-- output that is stored in a file isn't a docker of a refused day
stored_allowed : (task : TaskView) (words : List Text) (name : Text) (what : ReadView) → file_stored (writes_of task) words ≡ Some name
    → ¬ IsRefusedDocker (output_of task) what
stored_allowed = search (rules, none_some)

-- if a job stores its output, the output is the text of the summary of what the job's office knows
stored_known : (task : TaskView) (words : List Text) (name : Text) (known : Known) (text : List ℕ) → file_stored (writes_of task) words ≡ Some name
    → WritesKnown task known text → IsKnownText dks_2 known text
stored_known = search (rules, none_some)

-- ---- the laws of one command

pub stores_known : (run : Run) (job : JobView) (read : SourcesRead) (text : List ℕ) (known : Known) → Stores run job read text
    → Knows job.task read.first read.second known → IsKnownText dks_2 known text
stores_known run job read text known stores knows =
    let reads = stores.reads in
    stored_known _ _ _ _ _ stores.stored (written_known _ _ _ _ _ _ (asked_day _ _ _ _ reads.asks)
    reads.is_read reads.is_text (stored_allowed _ _ _ _ stores.stored) knows)

pub may_store_known : (run : Run) (job : JobView) (read : SourcesRead) (text : List ℕ) (known : Known) → MayStore run job read text
    → Knows job.task read.first read.second known → IsKnownText dks_2 known text
may_store_known run job read text known stores knows =
    let reads = stores.reads in
    stored_known _ _ _ _ _ stores.stored (written_known _ _ _ _ _ _ (asked_day _ _ _ _ reads.asks)
    reads.is_read reads.is_text (stored_allowed _ _ _ _ stores.stored) knows)

pub prints_known : (run : Run) (job : JobView) (read : SourcesRead) (text : List ℕ) (known : Known) → Prints run job read text
    → Knows job.task read.first read.second known → WritesKnown job.task known text
prints_known run job read text known prints knows =
    let reads = prints.reads in
    written_known _ _ _ _ _ _ (asked_day _ _ _ _ reads.asks) reads.is_read reads.is_text prints.allowed knows
