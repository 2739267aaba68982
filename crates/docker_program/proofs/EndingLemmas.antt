-- What a command stored or printed follows from how the command ended.
use Rattle.cif_laws.proofs.Common.{◌≡◌, ◌≢◌, ℕ, List, [], ◌∷◌, ◌++◌, Option, None, Some, length, refl, rules, sym, ◌∙◌, subst, inl, inr, append-nil}
use Rattle.cif_laws.proofs.Common.{append_assoc}
use Rattle.docker_host.specs.Asked.{IsStored}
use Rattle.docker_host.specs.History.{Bytes, Event, looked, drafted, undrafted, dropped}
use Rattle.docker_office.specs.declared.fault.OfficeFault.TheVariants as office
use Rattle.docker_cmd.specs.Words.{Text}
use Rattle.docker_cmd.specs.Job.{JobView}
use Rattle.docker_cmd.specs.declared.job_fault.JobFault.TheVariants as job
use Rattle.docker_cmd.specs.Prepared.{IsOutputText, IsRefusedDocker, PreparedView}
use Rattle.docker_cmd.specs.declared.fault.Fault.{Fault}
use Rattle.docker_cmd.specs.declared.fault.Fault.TheVariants.{Job, Office}
use Rattle.docker_cmd.specs.Tasks.{output_of}
use Rattle.docker_program.specs.SourceNames.{SourceNames, stored_by}
use Rattle.docker_program.specs.Sources.{FailsToOpen, IsNotOpened, IsOpened, SourcesRead, with_files_read, with_look_at}
use Rattle.docker_program.specs.Writing.{WantsToWrite, WantsToWriteTo, Writes, WritesPart, WritesPartTo, WritesTo, Written}
use Rattle.docker_program.specs.Program.{AsksFor, EndsBy, FailsToRead, HasRead, IsAsked, WantsMemory, ending_status, from_first_look, reading, writing}
use Rattle.docker_program.specs.Commands.{AreNoStorings, IsDone, IsRun, IsUndone, Reads, Run, StoresNothing, history_read}

-- ---- events that store nothing

-- the new history extends the old one by events that store nothing
NoStoring : List Event → List Event → Type 0
NoStoring old new = (events : List Event) × (new ≡ old ++ events) × AreNoStorings events

none_append : (events more : List Event) → AreNoStorings events → AreNoStorings more → AreNoStorings (events ++ more)
none_append [] more none then_none = then_none
none_append (event ∷ events) more none then_none = (none.0, none_append events more none.1 then_none)

none_here : (history : List Event) → NoStoring history history
unfolding NoStoring
none_here history = ([], sym (append-nil history), tt)

none_more : (old middle new events : List Event) → NoStoring old middle → new ≡ middle ++ events → AreNoStorings events → NoStoring old new
unfolding NoStoring
none_more = search (rules, append_assoc, none_append)

none_same : (old middle new : List Event) → NoStoring old middle → new ≡ middle → NoStoring old new
none_same old middle new before same = subst (NoStoring old) (sym same) before

none_looked : (stored : Option Text) (history : List Event) → NoStoring history (with_look_at stored history)
none_looked None history = none_here history
none_looked (Some name) history = none_more history history _ (looked name ∷ []) (none_here history) refl (tt, tt)

none_read : (names : SourceNames) (read : SourcesRead) (old history : List Event) → NoStoring old history
    → NoStoring old (with_files_read names read history)
none_read = search (rules, none_more)

none_failed : (names : SourceNames) (old before now : List Event) → NoStoring old before → FailsToOpen names before now → NoStoring old now
none_failed = search (rules, none_more)

nothing_stored : (run : Run) → NoStoring run.old.history run.new.history → StoresNothing run
unfolding NoStoring
nothing_stored run none = record { events = none.0; history = none.1; none = none.2 }

-- ---- reading the sources stores nothing

module _ (run : Run) (job : JobView) (rest : Bytes) where
  none_if_opened : (now : List Event) → IsOpened (reading run.old run.new job rest now) job → NoStoring run.old.history now
  none_if_opened = search (rules, none_same, none_read, none_looked)

  none_if_unopened : (now : List Event) → IsNotOpened (reading run.old run.new job rest now) job → NoStoring run.old.history now
  none_if_unopened now fails = none_failed _ _ _ _ (none_looked _ _) fails.fails

  none_if_failed : (now : List Event) → FailsToRead (reading run.old run.new job rest now) job → NoStoring run.old.history now
  none_if_failed = search (rules, none_if_unopened, none_if_opened)

  -- facts about a job that has read its sources
  module _ {Holds : Written → PreparedView → Type 0} (has : HasRead run.old run.new Holds job rest) where
    read_none : NoStoring run.old.history has.read
    read_none = none_if_opened has.read has.is.opened

    reads_text : AsksFor run.words run.old.input job rest → (text : List ℕ) → IsOutputText (output_of has.prepared.job.task) has.prepared.read text
        → Reads run job has.is.opened.read text
    reads_text = search rules

    at_history : has.read ≡ history_read run.old.history job has.is.opened.read
    at_history = cc

-- ---- a command that ended with status 0

done_to : (run : Run) (job : JobView) (rest : Bytes) (stored : Option Text)
    (has : HasRead run.old run.new (Writes (from_first_look run.names_bytes run.old)) job rest) → AsksFor run.words run.old.input job rest
    → stored_by job ≡ stored → WritesTo stored (from_first_look run.names_bytes run.old) (writing run.old run.new has.read) has.prepared → IsDone run
unfolding reads_text
done_to run job rest None has asks is writes = (
  job,
  has.is.opened.read,
  writes.0.text,
  inr (record {
    reads = reads_text run _ rest has asks writes.0.text writes.0.is;
    unstored = is;
    allowed = subst (λ (j : JobView). ¬ IsRefusedDocker (output_of j.task) has.prepared.read) has.is.job_is writes.1;
    history = writes.2 ∙ at_history run job rest has;
    printed = writes.0.gained;
  }),
)
done_to run job rest (Some name) has asks is writes = (
  job,
  has.is.opened.read,
  writes.0.text,
  inl (record {
    reads = reads_text run _ rest has asks writes.0.text writes.0.is;
    name = name;
    stored = is;
    history = subst (λ (h : List Event). IsStored run.names_bytes name (length run.old.history) writes.0.text h run.new.history)
        (at_history run job rest has) writes.0.history;
    unprinted = writes.1;
  }),
)

done_of : (run : Run) → IsAsked run.words run.old.input (HasRead run.old run.new (Writes (from_first_look run.names_bytes run.old))) → IsDone run
done_of = search (rules, done_to)

done_by : (run : Run) (ending : Option Fault) → ◌≡◌ {A = ℕ} 0 (ending_status ending) → EndsBy run.words run.names_bytes run.old run.new ending → IsDone run
done_by = search (rules, done_of)

-- if a command ended with status 0, it stored or printed the output of its job
pub run_done : (run : Run) → IsRun run 0 → IsDone run
run_done run performs = done_by run performs.ending performs.status_is performs.ends

-- ---- a command that ended with another status

part_to : (run : Run) (job : JobView) (rest : Bytes) (stored : Option Text)
    (has : HasRead run.old run.new (WritesPart (from_first_look run.names_bytes run.old)) job rest) → AsksFor run.words run.old.input job rest
    → stored_by job ≡ stored → WritesPartTo stored (from_first_look run.names_bytes run.old) (writing run.old run.new has.read) has.prepared → IsUndone run 4
part_to run job rest None has asks is writes =
    inl (nothing_stored run (none_same run.old.history has.read run.new.history (read_none run job rest has) writes.2))
part_to run job rest (Some name) has asks is (inl undrafted_is, kept) =
    inl (nothing_stored run (none_more run.old.history has.read run.new.history (undrafted name (length run.old.history) ∷ [])
    (read_none run job rest has) undrafted_is (tt, tt)))
part_to run job rest (Some name) has asks is (inr (inl dropped_is), kept) =
    inl (nothing_stored run (none_more run.old.history has.read run.new.history
    (drafted name (length run.old.history) ∷ dropped name ∷ []) (read_none run job rest has) dropped_is (tt, (tt, tt))))
part_to run job rest (Some name) has asks is (inr (inr may), kept) = search (rules, reads_text, at_history)

part_of : (run : Run) → IsAsked run.words run.old.input (HasRead run.old run.new (WritesPart (from_first_look run.names_bytes run.old))) → IsUndone run 4
part_of = search (rules, part_to)

want_none : (run : Run) (job : JobView) (rest : Bytes) (stored : Option Text)
    (has : HasRead run.old run.new (WantsToWrite (from_first_look run.names_bytes run.old)) job rest)
    → WantsToWriteTo stored (from_first_look run.names_bytes run.old) (writing run.old run.new has.read) has.prepared
    → NoStoring run.old.history run.new.history
want_none run job rest None has wants = none_same run.old.history has.read run.new.history (read_none run job rest has) wants.2
want_none run job rest (Some name) has wants = search (rules, none_more, read_none)

-- if a command left the folder's history unchanged, the command stored nothing
unasked : (run : Run) (status : ℕ) → run.new.history ≡ run.old.history → IsUndone run status
unasked run status same = inl (nothing_stored run (none_same run.old.history run.old.history run.new.history (none_here run.old.history) same))

undone_by : (run : Run) (status : ℕ) (ending : Option Fault) → status ≢ 0 → status ≡ ending_status ending
    → EndsBy run.words run.names_bytes run.old run.new ending → IsUndone run status
undone_by run status None some same ends = absurd (some same)
undone_by run status (Some (Job job.Usage)) some same ends = unasked run status ends.0.unasked
undone_by run status (Some (Job job.Memory)) some same ends = unasked run status ends.0.unasked
undone_by run status (Some (Job job.Source)) some same ends = unasked run status ends.0.unasked
undone_by run status (Some (Office (office.File fault))) some same ends =
    inl (nothing_stored run (none_if_opened run ends.0.job ends.0.rest run.new.history ends.0.holds.0))
undone_by run status (Some (Office (office.State fault))) some same ends =
    inl (nothing_stored run (none_if_opened run ends.0.job ends.0.rest run.new.history ends.0.holds.0))
undone_by run status (Some (Office office.Lapsed)) some same ends =
    inl (nothing_stored run (none_same run.old.history ends.0.holds.read run.new.history
    (read_none run ends.0.job ends.0.rest ends.0.holds) ends.0.holds.holds.1))
undone_by run status (Some (Office office.Source)) some same ends = search (rules, nothing_stored, none_if_failed)
undone_by run status (Some (Office office.Sink)) some same ends = subst (λ (n : ℕ). IsUndone run n) (sym same) (part_of run ends)
undone_by run status (Some (Office office.Memory)) some same (asked, kept) = by asked.holds
  where
    by : WantsMemory run.names_bytes run.old run.new asked.job asked.rest → IsUndone run status
    by (inl (inl fails)) = inl (nothing_stored run (none_if_unopened run asked.job asked.rest run.new.history fails))
    by (inl (inr wants)) = inl (nothing_stored run (none_if_opened run asked.job asked.rest run.new.history wants.0))
    by (inr has) = inl (nothing_stored run (want_none run asked.job asked.rest (stored_by has.prepared.job) has has.holds))

-- if a command ended with a status other than 0, it stored nothing, or may have stored the output
-- of its job
pub run_undone : (run : Run) (status : ℕ) → IsRun run status → status ≢ 0 → IsUndone run status
run_undone run status performs some = undone_by run status performs.ending some performs.status_is performs.ends
