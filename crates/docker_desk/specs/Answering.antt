-- What a desk reads from its input and writes to its output while it answers lines.
use Rattle.std.specs.Prelude.{◌≡◌, ℕ, ◌+◌, ◌-◌, ◌^◌, ◌≤◌, ◌⊎◌, Bool, false, true, List, [], ◌∷◌, ◌++◌, length, map, Option, Some, None, ⊤}
use Rattle.std.specs.List.{flat_map}
use Rattle.cif_device.specs.Device.{Takes, TakesPart}
use Rattle.docker_cmd.specs.Prepared.{DeviceBytes}
use Rattle.docker_host.specs.History.{Text}
use Rattle.docker_host.specs.Exchanges.{Exchange, IsRead, AreWrites, bytes_read, bytes_written}
use Rattle.docker_host.specs.Streams.{StreamsView, WritesPart, WritesWhole}
use Rattle.docker_desk.specs.Lines.{AreLines, IsNextLine, IsWithoutFeed, LineView, ReadsInLine, ReadsNext, whole_line, bad_line, cut_line, with_ahead}
use Rattle.docker_desk.specs.Replies.{AnswerView, answer_bytes}
use Rattle.docker_desk.specs.declared.ending.Ending.{Ending}
use Rattle.docker_desk.specs.declared.ending.Ending.TheVariants.{Ended, InputFailed, InputEndless, OutputFailed}
use Rattle.docker_desk.specs.SessionViews.{SessionView, Setting, Step}
use Rattle.docker_desk.specs.Doing.{AreSteps, DoesLine}

-- the lines of these steps
abbrev pub lines_of : List Step → List LineView
lines_of = map (λ step. step.line)

-- the answers of these steps
abbrev pub answers_of : List Step → List AnswerView
answers_of = map (λ step. step.answer)

-- the bytes of all answers of these steps, in order
abbrev pub answers_text : List Step → List ℕ
answers_text = flat_map (λ step. answer_bytes step.answer)

-- the text begins with these lines, and the bytes after the lines are `rest`
abbrev pub AreFirstLines : List ℕ → List LineView → List ℕ → Type 0
AreFirstLines text [] rest = rest ≡ text
AreFirstLines text (line ∷ lines) rest =
    (next : List ℕ) × (IsNextLine text line next × AreFirstLines next lines rest)

-- the input begins with these lines. The definition is also true if contracts can't say which bytes
-- the input holds
abbrev pub BeginsWith : DeviceBytes → List LineView → Type 0
BeginsWith None lines = ⊤
BeginsWith (Some text) lines = (rest : List ℕ) × AreFirstLines text lines rest

-- the input consists of exactly these lines. The definition is also true if contracts can't say
-- which bytes the input holds
abbrev pub HasLines : DeviceBytes → List LineView → Type 0
HasLines None lines = ⊤
HasLines (Some text) lines = AreLines text lines

-- the input has at least 2 ^ 64 - 1 bytes. The definition is also true if contracts can't say which
-- bytes the input holds
abbrev pub IsEndless : DeviceBytes → Type 0
IsEndless None = ⊤
IsEndless (Some text) = 2 ^ 64 - 1 ≤ length text

-- no byte of the input is left. The definition is also true if contracts can't say which bytes the
-- input held
abbrev pub LeavesNone : DeviceBytes → DeviceBytes → Type 0
LeavesNone None new = ⊤
LeavesNone (Some text) new = new ≡ Some []

-- the output gained every answer but the last, and a proper prefix of the last answer
pub record BreaksOff (steps : List Step)
    (output output_now : DeviceBytes) : Type 0 where
  pub earlier : List Step
  pub last : Step
  pub whole : steps ≡ earlier ++ last ∷ []
  pub between : DeviceBytes
  pub told : Takes output (answers_text earlier) between
  pub part : TakesPart between (answer_bytes last.answer) output_now

-- these are the steps of a session that ended in this way. If the input ended, the lines of the
-- steps are all lines of the input; otherwise the input begins with these lines. The output gained
-- the answers of the steps. If the output failed, only a proper prefix of the last answer was
-- written
abbrev pub EndsSession : Ending → DeviceBytes → List Step → DeviceBytes
    → DeviceBytes → Type 0
EndsSession Ended input steps output output_now =
    HasLines input (lines_of steps) × Takes output (answers_text steps) output_now
EndsSession InputFailed input steps output output_now =
    BeginsWith input (lines_of steps) × Takes output (answers_text steps) output_now
EndsSession InputEndless input steps output output_now =
    BeginsWith input (lines_of steps)
    × (IsEndless input × Takes output (answers_text steps) output_now)
EndsSession OutputFailed input steps output output_now =
    BeginsWith input (lines_of steps) × BreaksOff steps output output_now

-- ---- the order of reads and writes

-- the session has made these exchanges, and has answered each line that it has read as a whole. The
-- bytes that were read are the lines of the first steps, followed by bytes without a line feed. The
-- bytes that were written are exactly the answers of these steps. `ahead` had been read before
pub record HasAnswered (ahead : Text) (steps : List Step) (exchanges : List Exchange) : Type 0 where
  pub earlier : List Step
  pub later : List Step
  pub first : steps ≡ earlier ++ later
  pub rest : Text
  pub lines : AreFirstLines (ahead ++ bytes_read exchanges) (lines_of earlier) rest
  pub one : IsWithoutFeed rest
  pub told : bytes_written exchanges ≡ answers_text earlier

-- whenever the input was read, each line that had been read as a whole had been answered. So a
-- person at a terminal gets each answer before the desk waits for the next line
abbrev pub AnswersBeforeReading : Text → List Step → List Exchange → Type 0
AnswersBeforeReading ahead steps exchanges =
    (before after : List Exchange) (exchange : Exchange) → exchanges ≡ before ++ exchange ∷ after
    → IsRead exchange → HasAnswered ahead steps before

-- the exchanges of a session with these steps that ended in this way. The lines of the steps are the
-- lines of the bytes that were read, and the bytes that were written are the answers of the steps.
-- This holds for real devices too, since exchanges have the bytes. `ahead` had been read before
pub record TakesTurns (ending : Ending) (ahead : Text) (steps : List Step)
    (exchanges exchanges_now : List Exchange) : Type 0 where
  pub gained : List Exchange
  pub exchanged : exchanges_now ≡ exchanges ++ gained
  pub ends : EndsSession ending (Some (ahead ++ bytes_read gained)) steps (Some [])
      (Some (bytes_written gained))
  pub order : AnswersBeforeReading ahead steps gained

-- the exchanges in which one line was read and answered: first the reads, none of them after the line
-- feed of this line, and then the writes of the answer. `ahead` had been read before, and
-- `ahead_now` are the bytes that were read beyond the line
pub record TakesOneTurn (line : LineView) (answer : AnswerView) (ahead ahead_now : Text)
    (exchanges exchanges_now : List Exchange) : Type 0 where
  pub reads : List Exchange
  pub writes : List Exchange
  pub exchanged : exchanges_now ≡ exchanges ++ (reads ++ writes)
  pub are_reads : ReadsInLine ahead reads
  pub are_writes : AreWrites writes
  pub line_is : IsNextLine (ahead ++ bytes_read reads) line ahead_now
  pub told : bytes_written writes ≡ answer_bytes answer

-- ---- answering lines

-- the lines of an input were answered on an output. The steps begin at the point `before` and end
-- at the point `after`. The session then ended in this way. `ahead` had been read from the input
-- before
pub record AnswersLines (setting : Setting) (before after : SessionView)
    (input output output_now : DeviceBytes) (ahead : Text)
    (exchanges exchanges_now : List Exchange) (ending : Ending) : Type 0 where
  pub steps : List Step
  pub are : AreSteps setting before steps after
  pub ends : EndsSession ending input steps output output_now
  pub turns : TakesTurns ending ahead steps exchanges exchanges_now

-- the failure counts of the input and the output changed as in a session that ends in this way
abbrev pub CountsStreams : Ending → ℕ → ℕ → ℕ → ℕ → Type 0
CountsStreams Ended input input_now output output_now = (input_now ≡ input) × (output_now ≡ output)
CountsStreams InputFailed input input_now output output_now =
    (input_now ≡ input + 1) × (output_now ≡ output)
CountsStreams InputEndless input input_now output output_now =
    (input_now ≡ input) × (output_now ≡ output)
CountsStreams OutputFailed input input_now output output_now =
    (input_now ≡ input) × (output_now ≡ output + 1)

-- whether another line may follow this line. No line follows a line that is cut
abbrev pub IsFollowed : LineView → Type 0
IsFollowed (whole_line line) = ⊤
IsFollowed bad_line = ⊤
IsFollowed cut_line = ⊥

-- one line was answered, or the session ended at this line. With None, the line was answered and
-- the session continues. Otherwise the session ended in this way. `ahead` are the bytes that were
-- read beyond the lines before
abbrev pub ServesNext : Setting → SessionView → SessionView → (ahead ahead_now : Text)
    → (old new : StreamsView) → Option Ending → Type 0
ServesNext setting before after ahead ahead_now old new None =
    (line : LineView) × (answer : AnswerView) × (IsFollowed line
    × (DoesLine setting line before answer after
    × ((ReadsNext (with_ahead ahead old.input) line (with_ahead ahead_now new.input)
    × Takes old.output (answer_bytes answer) new.output)
    × TakesOneTurn line answer ahead ahead_now old.exchanges new.exchanges)))
ServesNext setting before after ahead ahead_now old new (Some ending) =
    AnswersLines setting before after (with_ahead ahead old.input) old.output new.output ahead
    old.exchanges new.exchanges ending

-- the failure counts of the input and the output changed as they do when answering one line has
-- this outcome
abbrev pub CountsNext : Option Ending → ℕ → ℕ → ℕ → ℕ → Type 0
CountsNext None input input_now output output_now = (input_now ≡ input) × (output_now ≡ output)
CountsNext (Some ending) input input_now output output_now =
    CountsStreams ending input input_now output output_now

-- if an input hadn't reported its end before, it wasn't read past its end. If the session
-- continues, the input still hasn't reported its end. If the session ended because the input ended,
-- the input has reported its end
pub record StopsAtEnd (result : Option Ending) (ended ended_now passed passed_now : Bool) : Type 0 where
  pub not_passed : ended ≡ false → passed_now ≡ passed
  pub going : ended ≡ false → result ≡ None → ended_now ≡ false
  pub told : ended ≡ false → result ≡ Some Ended → ended_now ≡ true

-- writing an answer to the output ended with this result. Two cases are possible: the answer was
-- written and the result is `next`, or the output failed after a proper prefix of the answer and
-- the result is `OutputFailed`
abbrev pub TellsAnswer : List ℕ → Option Ending → StreamsView → StreamsView → Option Ending → Type 0
TellsAnswer told next old new result =
    ((result ≡ next) × WritesWhole told old new)
    ⊎ ((result ≡ Some OutputFailed) × WritesPart told old new)
