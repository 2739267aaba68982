-- Words that are too many for a job, or that couldn't be read.
use Rattle.cif_laws.proofs.Common.{◌≡◌, ◌≤◌, ◌<◌, ℕ, Bool, List, Some, arith, refl, sym, subst, length, string_bytes, rules, length-map}
use Rattle.std.specs.Prelude.{String}
use Rattle.std.specs.Global.{Global}
use Rattle.docker_host.specs.History.{Bytes}
use Rattle.docker_host.specs.FaultSink.{TellsText, faults_of, faults_view}
use Rattle.docker_host.specs.Host.{HostView}
use Rattle.docker_cmd.specs.FaultLine.{fault_line, status_of}
use Rattle.docker_cmd.specs.Job.{NameNoJob}
use Rattle.docker_cmd.specs.Tasks.{AreWordsOf, TaskView}
use Rattle.docker_cmd.specs.Words.{OfOne, OfThree, OfTwo, Text}
use Rattle.docker_cmd.specs.declared.fault.Fault.TheVariants.{Job}
use Rattle.docker_cmd.specs.declared.job_fault.JobFault.TheVariants as job
use Rattle.docker_program.specs.Program.{EndsBy, Performs, word_bytes}
use Rattle.docker_program.proofs.ProgramLemmas.{performs_telling, with_faults}

of_one : (Holds : Text → Type 0) (words : List Text) → OfOne Holds words → length words ≤ 3
of_one = search rules

of_two : (Holds : Text → Text → Type 0) (words : List Text) → OfTwo Holds words → length words ≤ 3
of_two = search rules

of_three : (Holds : Text → Text → Text → Type 0) (words : List Text) → OfThree Holds words → length words ≤ 3
of_three = search rules

-- at most three words follow the name of a subcommand
few_words : (task : TaskView) (words : List Text) → AreWordsOf task words → length words ≤ 3
few_words = search (rules, of_one, of_three, of_two)

-- more than four words name no job
many_name_none : (words : List Text) → 4 < length words → NameNoJob words
many_name_none = search (rules, few_words)

-- with more than four words, the program asks for no job
ends_misused : (words : List Text) (names_bytes : Bool) (host : HostView) → 4 < length words → EndsBy words names_bytes host host (Some (Job job.Usage))
ends_misused = search (rules, many_name_none)

-- if there are more than four words and only the usage line was reported, the program did what the
-- contract of `perform` says
pub performs_misused : (words : List Text) (names_bytes : Bool) (old shown : HostView) (faults : Bytes) (failures status : ℕ)
    → 4 < length words → shown ≡ old → status ≡ status_of (Job job.Usage)
    → TellsText (fault_line (Job job.Usage)) (faults_of shown) (faults_view faults failures)
    → Performs words names_bytes old (with_faults shown faults failures) status
performs_misused words names_bytes old shown faults failures status many same is tells =
    performs_telling words names_bytes old shown old faults failures (Job job.Usage) status same (ends_misused words names_bytes old many)
    ((λ is_4. let never : ⊥ = omega arith in absurd never, λ rose. let never : ⊥ = omega arith in absurd never), λ other. refl)
    (λ unended. refl) refl refl is tells

-- the list of the words' bytes is as long as the list of the words
pub more : (words : List (String Global)) → 4 < length words → 4 < length (word_bytes words)
more words many = subst (λ (n : ℕ). 4 < n) (sym (length-map words (λ (word : String Global). string_bytes word))) many
