-- What commands leave on a shelf follows from the contract of `perform`.
use Rattle.cif_laws.proofs.Common.{◌≡◌, ℕ, true, List, [], ◌∷◌, ◌++◌, Option, None, Some, length, refl, sym, ◌∙◌, ap, subst, inl, inr, codes, rules, changes}
use Rattle.cif_laws.proofs.Common.{lines_of, dks_2}
use Rattle.cif_device.specs.Device.{IsEnd, Reads}
use Rattle.docker_host.specs.History.{Bytes, Event, closed, drafted, looked, opened, placed}
use Rattle.docker_host.specs.Host.{HostView}
use Rattle.docker_host.specs.Shelf.{IsShelfHistory}
use Rattle.docker_cmd.specs.CheckLine.{count_line}
use Rattle.docker_cmd.specs.Job.{IsJobOf, JobView}
use Rattle.docker_cmd.specs.Prepared.{IsOutputText, IsReadOf, ReadView, ReadsFewOfSecond, ReadsFewOfState}
use Rattle.docker_cmd.specs.Tasks.{TaskView, check_task, take_task}
use Rattle.docker_cmd.specs.Tasks.{name_of, subcommand_of}
use Rattle.docker_cmd.specs.Words.{Text}
use Rattle.docker_cmd.specs.Writes.{counts_written}
use Rattle.docker_cmd.specs.Reads.{state_and_file}
use Rattle.docker_program.specs.SourceNames.{stored_by}
use Rattle.docker_program.specs.Sources.{SourcesRead}
use Rattle.docker_program.specs.Program.{Performs}
use Rattle.docker_program.specs.Commands.{IsDone, Run, Stores}
use Rattle.docker_program.specs.ShelfRuns.{IsTaken, file_name, state_name}
use Rattle.docker_program.proofs.CommandLemmas.{stores_known}
use Rattle.docker_program.proofs.EndingLemmas.{run_done}

-- the history of a shelf to which a STATE file and an extract with these texts were added
abbrev pub both_put : (state extract : List ℕ) → List Event
both_put state extract = placed state_name (Some state) ∷ placed file_name (Some extract) ∷ []

none_some : (name : Text) → ◌≡◌ {A = Option Text} None (Some name) → ⊥
none_some name is = cc

-- ---- the words determine the job

-- all words except the first
abbrev behind : List Text → List Text
behind [] = []
behind (word ∷ words) = words

-- if the first word is `check`, the task is `check_task`
check_named : (task : TaskView) (words more : List Text) → codes "check" ∷ more ≡ name_of (subcommand_of task) ∷ words → task ≡ check_task
check_named = search rules

-- if the first word is `take`, the task is `take_task`
take_named : (task : TaskView) (words more : List Text) → codes "take" ∷ more ≡ name_of (subcommand_of task) ∷ words → task ≡ take_task
take_named = search rules

-- the job with this task and these words
abbrev job_of : TaskView → List Text → JobView
job_of task words = record { task = task; words = words }

check_job : (file : Text) (job : JobView) → IsJobOf (codes "check" ∷ file ∷ []) job → job ≡ job_of check_task (file ∷ [])
check_job file job is = λ i. job_of (check_named job.task job.words (file ∷ []) is.whole i) (sym (ap behind is.whole) i)

take_job : (state file : Text) (job : JobView) → IsJobOf (codes "take" ∷ state ∷ file ∷ []) job → job ≡ job_of take_task (state ∷ file ∷ [])
take_job state file job is = λ i. job_of (take_named job.task job.words (state ∷ file ∷ []) is.whole i) (sym (ap behind is.whole) i)

-- ---- what `check` prints

-- `check` writes the counts of the file whose text its source held
counted : (extract : List ℕ) (first : Bytes) (what : ReadView) (text : List ℕ) → first ≡ Some extract → IsReadOf check_task first (Some []) what
    → IsOutputText counts_written what text → text ≡ count_line (length (lines_of extract)) (length (changes (lines_of extract)))
counted = search rules

-- if `check` runs on a shelf and ends with status 0, it prints the counts of the file
pub check_printed : (extract : List ℕ) (old new : HostView) → old.history ≡ placed file_name (Some extract) ∷ [] → old.output ≡ Some []
    → IsShelfHistory new.history → Performs (codes "check" ∷ file_name ∷ []) true old new 0
    → new.output ≡ Some (count_line (length (lines_of extract)) (length (changes (lines_of extract))))
check_printed = search (rules, run_done, codes, counted, none_some, check_job)

some_one : (one two : List ℕ) → ◌≡◌ {A = Bytes} (Some one) (Some two) → one ≡ two
some_one one two same = cc

-- the same as `check_printed`, if the words, the status and the host after the command are given by
-- equations
pub check_result : (extract text : List ℕ) (words : List Text) (old shown new : HostView) (status : ℕ)
    → words ≡ codes "check" ∷ file_name ∷ [] → status ≡ 0 → shown ≡ new
    → old.history ≡ placed file_name (Some extract) ∷ [] → old.output ≡ Some [] → IsShelfHistory shown.history
    → Performs words true old new status → shown.output ≡ Some text
    → text ≡ count_line (length (lines_of extract)) (length (changes (lines_of extract)))
check_result = search (rules, some_one, check_printed, codes)

-- ---- what `take` leaves on a shelf

-- if contracts can say which bytes a source held, they can say which bytes are left in it
rest_known : (held lost : List ℕ) (left : Bytes) → Reads (Some held) lost left → (rest : List ℕ) × (left ≡ Some rest)
rest_known = search (rules, none_some)

few_known : (state : List ℕ) (left : Bytes) → ReadsFewOfState dks_2 (Some state) left → (rest : List ℕ) × (left ≡ Some rest)
few_known state left few = rest_known state (few.text ++ few.piece) left few.lost

-- if contracts can say which bytes are left in a source that is at its end, no bytes are left
end_some : (left : Bytes) (rest : List ℕ) → left ≡ Some rest → IsEnd left → left ≡ Some []
end_some = search (rules, none_some)

end_known : (extract : List ℕ) (first second left : Bytes) → second ≡ Some extract → ReadsFewOfSecond state_and_file first second left → IsEnd left
    → left ≡ Some []
end_known = search (rules, end_some, rest_known)

-- suppose that a shelf has a STATE file and an extract. If `take` ends with status 0, it has read
-- both files and stored a text in STATE, as `IsTaken` says
pub take_left : (state extract : List ℕ) (old new : HostView) → old.history ≡ both_put state extract
    → IsShelfHistory new.history → Performs (codes "take" ∷ state_name ∷ file_name ∷ []) true old new 0
    → IsTaken state extract new.history
take_left state extract old new put met performs = by (run_done _ performs)
  where
    run : Run
    run = record { words = codes "take" ∷ state_name ∷ file_name ∷ []; names_bytes = true; old = old; new = new }

    the_job : JobView
    the_job = job_of take_task (state_name ∷ file_name ∷ [])

    some_name : (one two : Text) → ◌≡◌ {A = Option Text} (Some one) (Some two) → one ≡ two
    some_name one two same = cc

    stored_after : SourcesRead → List ℕ → List Event → Text → ℕ → List Event
    stored_after read text before name look = ((before ++ looked state_name ∷ []) ++ opened state_name read.first ∷ opened file_name read.second
        ∷ closed read.first_left ∷ closed read.second_left ∷ []) ++ drafted name look ∷ placed name (Some text) ∷ []

    all : SourcesRead → Text → ℕ → List ℕ → List Event
    all read name look text = placed state_name (Some state) ∷ placed file_name (Some extract) ∷ looked state_name
        ∷ opened state_name read.first ∷ opened file_name read.second ∷ closed read.first_left ∷ closed read.second_left
        ∷ drafted name look ∷ placed name (Some text) ∷ []

    left : (read : SourcesRead) (text : List ℕ) → Stores run the_job read text → IsTaken state extract new.history
    left read text stores =
        let name : state_name ≡ stores.name = some_name state_name stores.name stores.stored in
        let events : new.history ≡ all read state_name 2 text = stores.history ∙ (λ i. stored_after read text (put i) (sym name i) (length (put i))) in
        let shelf : IsShelfHistory (all read state_name 2 text) = subst IsShelfHistory events met in
        let first : read.first ≡ Some state = shelf.1.1.1.0.0 in
        let second : read.second ≡ Some extract = shelf.1.1.1.1.0.0 in
        let few : ReadsFewOfState dks_2 (Some state) read.first_left =
        subst (λ (b : Bytes). ReadsFewOfState dks_2 b read.first_left) first stores.reads.first_few in
        let left = few_known _ _ few in
        let none : read.second_left ≡ Some [] = end_known _ _ _ _ second stores.reads.second_few stores.reads.to_end in
        record {
          text = text;
          left = left.0;
          few = subst (ReadsFewOfState dks_2 (Some state)) left.1 few;
          history = events ∙ (λ i. placed state_name (Some state) ∷ placed file_name (Some extract) ∷ looked state_name
              ∷ opened state_name (first i) ∷ opened file_name (second i) ∷ closed (left.1 i) ∷ closed (none i)
              ∷ drafted state_name 2 ∷ placed state_name (Some text) ∷ []);
          known = λ known file of is_file. stores_known _ _ _ _ _ stores (known, file, (state, first, of), (extract, second, is_file), refl);
        }

    by : IsDone run → IsTaken state extract new.history
    by (job, read, text, inl stores) = left read text (subst (λ (j : JobView). Stores run j read text) (take_job _ _ _ stores.reads.asks.0) stores)
    by (job, read, text, inr prints) =
        let none = subst (λ (j : JobView). stored_by j ≡ None) (take_job _ _ _ prints.reads.asks.0) prints.unstored in
        absurd (none_some _ (sym none))

-- the same as `take_left`, if the words, the status and the host after the command are given by
-- equations
pub take_result : (state extract : List ℕ) (words : List Text) (old shown new : HostView) (status : ℕ)
    → words ≡ codes "take" ∷ state_name ∷ file_name ∷ [] → status ≡ 0 → shown ≡ new
    → old.history ≡ both_put state extract → IsShelfHistory shown.history
    → Performs words true old new status → IsTaken state extract shown.history
take_result state extract words old shown new status named zero same put met performs = take_left _ _ _ _ put met
    (subst (λ (host : HostView). Performs (codes "take" ∷ state_name ∷ file_name ∷ []) true old host 0) (sym same)
    (subst (λ (n : ℕ). Performs (codes "take" ∷ state_name ∷ file_name ∷ []) true old new n) zero
    (subst (λ (ws : List Text). Performs ws true old new status) named performs)))
