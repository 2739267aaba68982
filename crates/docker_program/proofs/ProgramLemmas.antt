-- How the program ends depends on which step of its job failed, if any.
use Rattle.cif_laws.proofs.Common.{◌≡◌, ◌≢◌, ◌≤◌, ◌↔◌, ℕ, Bool, List, [], Option, None, Some, Err, ap, sym, ◌∙◌, subst, rules}
use Rattle.cif_device.specs.Device.{IsNotPassed}
use Rattle.docker_host.specs.History.{Bytes, Event}
use Rattle.docker_host.specs.FaultSink.{FaultsView, TellsText, faults_of, faults_view}
use Rattle.docker_host.specs.Host.{HostView}
use Rattle.docker_office.specs.declared.fault.OfficeFault.{OfficeFault}
use Rattle.docker_office.specs.declared.fault.OfficeFault.TheVariants as office
use Rattle.docker_cmd.specs.Words.{Text}
use Rattle.docker_cmd.specs.Job.{JobView, NameNoJob}
use Rattle.docker_cmd.specs.declared.job_fault.JobFault.TheVariants as job
use Rattle.docker_cmd.specs.Prepared.{PreparedView}
use Rattle.docker_cmd.specs.declared.fault.Fault.{Fault}
use Rattle.docker_cmd.specs.declared.fault.Fault.TheVariants.{Job, Office}
use Rattle.docker_program.specs.SourceNames.{stored_by}
use Rattle.docker_program.specs.Sources.{IsPrepared, ReadsNamed, asking, with_look_at}
use Rattle.docker_cmd.specs.FaultLine.{IsCounted, fault_line, status_of}
use Rattle.docker_program.specs.Writing.{EndsWriting, Writes, Written, written}
use Rattle.docker_program.specs.Program.{AskForNone, AskForSome, AsksAtMost, AsksFor, EndsBy, HasRead, IsAsked, IsNotAsked}
use Rattle.docker_program.specs.Program.{IsUsageStatus, Performs, ending_status, failures_of, from_first_look, reading}

-- if reading a job's sources ends with a fault, the program ends with that fault
unread : (words : List Text) (names_bytes : Bool) (old new : HostView) (job : JobView) (rest : Bytes) (fault : OfficeFault) →
    AsksFor words old.input job rest → AsksAtMost words old.input rest → new.output ≡ old.output →
    ReadsNamed (reading old new job rest new.history) job (Err fault) → EndsBy words names_bytes old new (Some (Office fault))
unread = search rules

-- if a job has read its sources, and writing its output ends with a fault, the program ends with
-- that fault
unwritten : (words : List Text) (names_bytes : Bool) (old new : HostView) (job : JobView) (rest : Bytes) (read : List Event)
    (prepared : PreparedView) (fault : OfficeFault) →
    AsksFor words old.input job rest → AsksAtMost words old.input rest → IsPrepared (reading old new job rest read) job prepared →
    EndsWriting (from_first_look names_bytes old) (written old.output new.output read new.history) prepared (Err fault) →
    EndsBy words names_bytes old new (Some (Office fault))
unwritten = search rules

-- the same as `unread`, for a host `before` that equals the old host, and a history `shown` that
-- equals the history after the look
pub ends_unread : (words : List Text) (names_bytes : Bool) (before old new : HostView) (shown : List Event) (job : JobView) (rest : Bytes)
    (fault : OfficeFault) → before ≡ old → shown ≡ with_look_at (stored_by job) before.history → AsksFor words before.input job rest
    → AsksAtMost words before.input rest → new.output ≡ before.output → ReadsNamed (asking shown new.history rest new.input) job (Err fault)
    → EndsBy words names_bytes old new (Some (Office fault))
ends_unread words names_bytes before old new shown job rest fault same seen asks at_most kept reads =
    subst (λ (host : HostView). EndsBy words names_bytes host new (Some (Office fault))) same (unread _ _ _ _ _ _ _ asks at_most kept
    (subst (λ (history : List Event). ReadsNamed (asking history new.history rest new.input) job (Err fault)) seen reads))

pub ends_unwritten : (words : List Text) (names_bytes : Bool) (before old new : HostView) (shown read : List Event) (job : JobView) (rest : Bytes)
    (prepared : PreparedView) (fault : OfficeFault) → before ≡ old → shown ≡ with_look_at (stored_by job) before.history
    → AsksFor words before.input job rest → AsksAtMost words before.input rest → IsPrepared (asking shown read rest new.input) job prepared
    → EndsWriting (from_first_look names_bytes before) (written before.output new.output read new.history) prepared (Err fault)
    → EndsBy words names_bytes old new (Some (Office fault))
ends_unwritten = search (rules, unwritten)

-- if a job has read its sources and has written its whole output, the program ends without a fault
pub ends_done : (words : List Text) (names_bytes : Bool) (before old new : HostView) (shown read : List Event) (job : JobView) (rest : Bytes)
    (prepared : PreparedView) → before ≡ old → shown ≡ with_look_at (stored_by job) before.history
    → AsksFor words before.input job rest → AsksAtMost words before.input rest → IsPrepared (asking shown read rest new.input) job prepared
    → Writes (from_first_look names_bytes before) (written before.output new.output read new.history) prepared → EndsBy words names_bytes old new None
ends_done = search rules

-- suppose that the input wasn't read after its end while the job was found, and hadn't reported its
-- end since then. If it wasn't read after its end later, it never was
pub never_passed : (before old : HostView) (mid_ended mid_passed passed : Bool) → before ≡ old → mid_ended ≡ before.ended
    → IsNotPassed before.ended before.passed mid_passed → IsNotPassed mid_ended mid_passed passed → IsNotPassed old.ended old.passed passed
never_passed = search rules

-- the host after its sink of faults has changed: the sink now has these bytes and this failure
-- count
abbrev pub with_faults : HostView → Bytes → ℕ → HostView
with_faults host faults failures = record host { faults = faults; faults_failures = failures }

-- if a job read all its sources without a fault, this is still true after a fault is reported
read_still : (old new : HostView) (faults : Bytes) (failures : ℕ) (Holds : Written → PreparedView → Type 0) (job : JobView) (rest : Bytes)
    → HasRead old new Holds job rest → HasRead old (with_faults new faults failures) Holds job rest
read_still old new faults failures Holds job rest has = record { prepared = has.prepared; read = has.read; is = has.is; holds = has.holds }

asked_still : (words : List Text) (old new : HostView) (faults : Bytes) (failures : ℕ) (Holds : Written → PreparedView → Type 0)
    → IsAsked words old.input (HasRead old new Holds) → IsAsked words old.input (HasRead old (with_faults new faults failures) Holds)
asked_still = search (rules, read_still)

unasked_still : (words : List Text) (old new : HostView) (faults : Bytes) (failures : ℕ) (Why : Type 0)
    → IsNotAsked words old new Why → IsNotAsked words old (with_faults new faults failures) Why
unasked_still words old new faults failures Why is = record { why = is.why; at_most = is.at_most; unasked = is.unasked }

-- reporting a fault doesn't change how the program ended
ends_still : (words : List Text) (names_bytes : Bool) (old new : HostView) (faults : Bytes) (failures : ℕ) (fault : Fault)
    → EndsBy words names_bytes old new (Some fault) → EndsBy words names_bytes old (with_faults new faults failures) (Some fault)
ends_still words names_bytes old new faults failures (Job job.Usage) ends = (unasked_still words old new faults failures _ ends.0, ends.1)
ends_still words names_bytes old new faults failures (Job job.Memory) ends = (unasked_still words old new faults failures _ ends.0, ends.1)
ends_still words names_bytes old new faults failures (Job job.Source) ends = (unasked_still words old new faults failures _ ends.0, ends.1)
ends_still words names_bytes old new faults failures (Office (office.File fault)) ends = ends
ends_still words names_bytes old new faults failures (Office (office.State fault)) ends = ends
ends_still words names_bytes old new faults failures (Office office.Lapsed) ends = (asked_still words old new faults failures _ ends.0, ends.1)
ends_still words names_bytes old new faults failures (Office office.Source) ends = ends
ends_still words names_bytes old new faults failures (Office office.Memory) ends = search (rules, read_still)
ends_still words names_bytes old new faults failures (Office office.Sink) ends = asked_still words old new faults failures _ ends

-- if the program ended with a fault and reported the fault, the program did what the contract of
-- `perform` says
pub performs_telling : (words : List Text) (names_bytes : Bool) (old shown new : HostView) (faults : Bytes) (failures : ℕ) (fault : Fault) (status : ℕ)
    → shown ≡ new → EndsBy words names_bytes old new (Some fault) → IsCounted (status_of fault) (failures_of old) (failures_of new)
    → IsNotPassed old.ended old.passed new.passed → new.faults ≡ old.faults → new.faults_failures ≡ old.faults_failures → status ≡ status_of fault
    → TellsText (fault_line fault) (faults_of shown) (faults_view faults failures)
    → Performs words names_bytes old (with_faults shown faults failures) status
performs_telling words names_bytes old shown new faults failures fault status same ends counted not_passed kept untold is tells = record {
  ending = Some fault;
  ends = ends_still _ _ _ _ _ _ _ (subst (λ (host : HostView). EndsBy words names_bytes old host (Some fault)) (sym same) ends);
  status_is = is;
  tells = subst (λ (before : FaultsView). TellsText (fault_line fault) before (faults_view faults failures))
      (ap faults_of same ∙ (λ i. faults_view (kept i) (untold i))) tells;
  counted = subst (λ (n : ℕ). IsCounted n (failures_of old) (failures_of shown)) (sym is)
      (subst (λ (host : HostView). IsCounted (status_of fault) (failures_of old) (failures_of host)) (sym same) counted);
  not_passed = subst (λ (host : HostView). IsNotPassed old.ended old.passed host.passed) (sym same) not_passed;
}

-- if there are words and a job was found (`IsAsked`), the words name a job
names_one : (words : List Text) (input : Bytes) (Holds : JobView → Bytes → Type 0) → words ≢ [] → IsAsked words input Holds → ¬ NameNoJob words
names_one = search rules

-- if there are words and no job is requested (`AskForNone`), the words name no job
names_none : (words : List Text) (input : Bytes) → words ≢ [] → AskForNone words input → NameNoJob words
names_none = search rules

-- if there are words and a job is requested (`AskForSome`), the words name a job
names_some : (words : List Text) (input : Bytes) → words ≢ [] → AskForSome words input → ¬ NameNoJob words
names_some = search rules

-- suppose that the words name a job and the status isn't 2. Then the status is 2 if and only if the
-- words name no job, because neither is true
other_status : (words : List Text) (status : ℕ) → status ≢ 2 → ¬ NameNoJob words → (status ≡ 2) ↔ NameNoJob words
other_status words status differs one = (λ is. absurd (differs is), λ none. absurd (one none))

-- if there are words, the status of an ending is 2 if and only if the words name no job
usage_of : (words : List Text) (names_bytes : Bool) (old new : HostView) (ending : Option Fault) → words ≢ [] → EndsBy words names_bytes old new ending →
    (ending_status ending ≡ 2) ↔ NameNoJob words
usage_of = search (rules, other_status, names_one, names_none, names_some)

-- if there are words, the program's status is 2 if and only if the words name no job
pub usage_status : (words : List Text) (names_bytes : Bool) (old new : HostView) (status : ℕ) →
    Performs words names_bytes old new status → IsUsageStatus words status
usage_status = search (rules, usage_of)

-- the status of an ending is at most 4
few_statuses : (ending : Option Fault) → ending_status ending ≤ 4
few_statuses = search rules

-- the program's status is at most 4
pub status_within : (words : List Text) (names_bytes : Bool) (old new : HostView) (status : ℕ) →
    Performs words names_bytes old new status → status ≤ 4
status_within = search (rules, few_statuses)
