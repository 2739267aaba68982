-- A whole session: its words, its start and its end.
use Rattle.std.specs.Prelude.{◌≡◌, ℕ, Bool, true, false, ◌&&◌, List, [], ◌∷◌, ◌++◌, codes, length, map, String, string_bytes, Option, Result, Ok, Err, ◌⊎◌}
use Rattle.std.specs.Global.{Global, Vec}
use Rattle.docker_model.specs.state.StateText.{dks_2}
use Rattle.docker_cmd.specs.FaultLine.{IsCounted, device_line, fault_line, status_of}
use Rattle.docker_cmd.specs.Prepared.{ReadsFewOfState, most_bytes}
use Rattle.docker_cmd.specs.declared.fault.Fault.TheVariants.{Job, Office}
use Rattle.docker_cmd.specs.declared.job_fault.JobFault.{JobFault}
use Rattle.docker_cmd.specs.declared.job_fault.JobFault.TheVariants as job
use Rattle.docker_host.specs.History.{Bytes, Event, Text, closed, looked, opened}
use Rattle.docker_host.specs.FaultSink.{FaultsView, TellsText}
use Rattle.docker_host.specs.SessionHost.{SessionHostView}
use Rattle.docker_bytes.specs.SourceRead.{ReadsState}
use Rattle.docker_office.specs.declared.fault.OfficeFault.{OfficeFault}
use Rattle.docker_desk.specs.Requests.{NamesFile, usage_line}
use Rattle.docker_desk.specs.Desk.{DeskView, IsWhyNot, RefusesToReceive}
use Rattle.docker_desk.specs.Reading.{HasOpened, LooksAndOpens, Reading}
use Rattle.docker_desk.specs.declared.ending.Ending.{Ending}
use Rattle.docker_desk.specs.declared.ending.Ending.TheVariants.{Ended, InputFailed, InputEndless, OutputFailed}
use Rattle.docker_desk.specs.SessionViews.{SessionView, setting}
use Rattle.docker_desk.specs.Answering.{AnswersLines, CountsStreams, LeavesNone}
use Rattle.docker_desk.specs.Help.{AnswersQuestion, AskNoQuestion, word_of}
use Rattle.docker_desk.specs.declared.help.Question.{Question}

-- ---- the words of a session

-- the words of a session: the name of the state's file, with `--write` before it if the desk may
-- write
abbrev pub session_words : Text → Bool → List Text
session_words name false = name ∷ []
session_words name true = codes "--write" ∷ name ∷ []

-- these are the words of a session on the file with this name. `may_write` says whether the desk
-- may write
pub record NamesSession (words : List Text) (name : Text) (may_write : Bool) : Type 0 where
  pub words_are : words ≡ session_words name may_write
  pub named : NamesFile name name

-- these aren't the words of any session
abbrev pub NameNoSession : List Text → Type 0
NameNoSession words = (name : Text) (may_write : Bool) → ¬ NamesSession words name may_write

-- ---- how a session starts

-- starting a desk from a file ended with this result. Either the desk has the state that the file
-- held, and no unsaved changes; or the file couldn't be opened, or its text was refused
abbrev pub EndsOpening : {T : Type 0} → (T → DeskView) → Result T OfficeFault → Option Reading
    → Type 0
EndsOpening desk_in (Ok made) read =
    HasOpened (λ it. ReadsState dks_2 most_bytes it.held (desk_in made).state) read
    × ((desk_in made).unsaved ≡ false)
EndsOpening desk_in (Err fault) read = IsWhyNot RefusesToReceive fault read

-- this is the first point of a session. The state's file was looked at, opened, read no further
-- than the result needs, and closed. The desk has the state that the file held. The next draft is
-- based on this look
pub record BeginsAt (name : Text) (old : List Event) (first : SessionView) : Type 0 where
  pub held : Bytes
  pub left : Bytes
  pub asked : first.history ≡ old ++ looked name ∷ opened name held ∷ closed left ∷ []
  pub stops : ReadsFewOfState dks_2 held left
  pub state : ReadsState dks_2 most_bytes held first.desk.state
  pub saved : first.desk.unsaved ≡ false
  pub look : first.look ≡ length old

-- ---- how a session ends

-- the line that reports unsaved changes
abbrev pub unsaved_line : List ℕ
unsaved_line = codes "desk: changes not saved\n"

-- the report of unsaved changes: `unsaved_line` if there are any, otherwise nothing
abbrev pub unsaved_text : Bool → List ℕ
unsaved_text false = []
unsaved_text true = unsaved_line

-- the exit status of a session that ended in this way
abbrev pub ending_status : Ending → Bool → ℕ
ending_status Ended false = 0
ending_status Ended true = 1
ending_status InputFailed unsaved = 4
ending_status InputEndless unsaved = 4
ending_status OutputFailed unsaved = 4

-- the text that the sink of faults gains at the end of a session. This text is the line that
-- reports a failed device, if a device failed, followed by the line that reports unsaved changes,
-- if there are any
abbrev pub ending_text : Ending → Bool → List ℕ
ending_text Ended unsaved = unsaved_text unsaved
ending_text InputFailed unsaved = device_line ++ unsaved_text unsaved
ending_text InputEndless unsaved = device_line ++ unsaved_text unsaved
ending_text OutputFailed unsaved = device_line ++ unsaved_text unsaved

-- the session ended in this way and with this exit status, and its end was reported to the sink of
-- faults
pub record EndsWithStatus (ending : Ending) (unsaved : Bool) (status : ℕ) (old new : FaultsView)
    : Type 0 where
  pub status_is : status ≡ ending_status ending unsaved
  pub tells : TellsText (ending_text ending unsaved) old new

-- ---- a whole session

-- these words aren't the words of a session. The usage line was written to the sink of faults, and
-- nothing else changed
pub record IsMisused (words : List Text) (old new : SessionHostView) (status : ℕ) : Type 0 where
  pub none : NameNoSession words
  pub untouched : new ≡ record old { faults = new.faults }
  pub status_is : status ≡ 2
  pub tells : TellsText usage_line old.faults new.faults

-- the state's file was looked at. But the file couldn't be opened, or no state could be read from
-- it. The fault was reported, and the session ended
pub record IsRefusedStart (words : List Text) (old new : SessionHostView) (status : ℕ) : Type 0 where
  pub name : Text
  pub may_write : Bool
  pub words_are : NamesSession words name may_write
  pub fault : OfficeFault
  pub opens : LooksAndOpens name (IsWhyNot RefusesToReceive fault) old.history new.history
  pub counted : IsCounted status old.folder_failures new.folder_failures
  pub streams : new.streams ≡ old.streams
  pub status_is : status ≡ status_of (Office fault)
  pub tells : TellsText (fault_line (Office fault)) old.faults new.faults

-- the session started, the lines of the input were answered, and then the session ended. Unsaved
-- changes are reported only if the desk may write. If the input hadn't reported its end at the
-- start, it wasn't read past its end. If the session ended because the input ended, the input has
-- reported its end, and no byte is left in it. `answers` also says that each line was answered
-- before the input was read for the next line
pub record IsServed (words : List Text) (names_bytes : Bool) (old new : SessionHostView)
    (status : ℕ) : Type 0 where
  pub name : Text
  pub may_write : Bool
  pub words_are : NamesSession words name may_write
  pub first : SessionView
  pub begins : BeginsAt name old.history first
  pub none : first.failures ≡ old.folder_failures
  pub last : SessionView
  pub ending : Ending
  pub answers : AnswersLines (setting name may_write names_bytes) first last old.streams.input
      old.streams.output new.streams.output [] old.streams.exchanges new.streams.exchanges ending
  pub history : new.history ≡ last.history
  pub failures : new.folder_failures ≡ last.failures
  pub counts : CountsStreams ending old.streams.input_failures new.streams.input_failures
      old.streams.output_failures new.streams.output_failures
  pub not_passed : old.streams.ended ≡ false → new.streams.passed ≡ old.streams.passed
  pub told : old.streams.ended ≡ false → ending ≡ Ended → new.streams.ended ≡ true
  pub left : ending ≡ Ended → LeavesNone old.streams.input new.streams.input
  pub ends : EndsWithStatus ending (may_write && last.desk.unsaved) status old.faults new.faults

-- the program was run with these words, which ask no question. Either they aren't the words of a
-- session, or the start was refused, or the lines of the input were answered
abbrev pub ServesSession : List Text → Bool → SessionHostView → SessionHostView → ℕ → Type 0
ServesSession words names_bytes old new status =
    IsMisused words old new status
    ⊎ (IsRefusedStart words old new status ⊎ IsServed words names_bytes old new status)

-- the words ask a question about the program, and its answer was printed
pub record IsAsked (words : List Text) (old new : SessionHostView) (status : ℕ) : Type 0 where
  pub question : Question
  pub words_are : words ≡ word_of question ∷ []
  pub answers : AnswersQuestion question old new status

-- the program was run with these words. Either they ask a question about the program, or a session
-- was served
abbrev pub Serves : List Text → Bool → SessionHostView → SessionHostView → ℕ → Type 0
Serves words names_bytes old new status =
    IsAsked words old new status ⊎ (AskNoQuestion words × ServesSession words names_bytes old new status)

-- ---- the words that the system gave the program

-- the bytes of each of these words
abbrev pub word_bytes : List (String Global) → List Text
word_bytes = map (λ word. string_bytes word)

-- the words couldn't be read, because of this fault. The fault was reported to the sink of faults,
-- and no other device changed
pub record HasNoWords (fault : JobFault) (old new : SessionHostView) (status : ℕ) : Type 0 where
  pub untouched : new ≡ record old { faults = new.faults }
  pub tells : TellsText (fault_line (Job fault)) old.faults new.faults
  pub status_is : status ≡ status_of (Job fault)

-- the program was started with the words that the system gave it, and ended with this status.
-- `given` has these words, or the fault because of which they couldn't be read. If a word isn't
-- valid UTF-8, the fault is `Usage`, and the program does what it does without words
abbrev pub ServesGiven : (given : Result (Vec (String Global)) JobFault) → Bool → SessionHostView
    → SessionHostView → ℕ → Type 0
ServesGiven (Ok words) names_bytes old new status =
    Serves (word_bytes words.items) names_bytes old new status
ServesGiven (Err job.Usage) names_bytes old new status = Serves [] names_bytes old new status
ServesGiven (Err job.Source) names_bytes old new status = HasNoWords job.Source old new status
ServesGiven (Err job.Memory) names_bytes old new status = HasNoWords job.Memory old new status
