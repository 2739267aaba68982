-- What the words `--help` and `--version` print.
use Rattle.std.specs.Prelude.{◌≡◌, ◌≢◌, ℕ, Bool, true, false, List, [], ◌∷◌, ◌++◌, Option, Some, None, ◌⊎◌, codes}
use Rattle.std.specs.List.{flat_map}
use Rattle.docker_model.specs.state.StateText.{dks_2, mark}
use Rattle.docker_cmd.specs.FaultLine.{device_line}
use Rattle.docker_cmd.specs.Words.{Text, usage_with}
use Rattle.docker_host.specs.FaultSink.{TellsText}
use Rattle.docker_host.specs.SessionHost.{SessionHostView}
use Rattle.docker_host.specs.Streams.{WritesPart, WritesWhole}
use Rattle.docker_desk.specs.Requests.{RequestRow, row_of, verbs}
use Rattle.docker_desk.specs.declared.help.Question.{Question}
use Rattle.docker_desk.specs.declared.help.Question.TheVariants.{Help, Version}

-- the word that asks a question about the program
abbrev pub word_of : Question → Text
word_of Help = codes "--help"
word_of Version = codes "--version"

-- the words ask no question about the program
abbrev pub AskNoQuestion : List Text → Type 0
AskNoQuestion words = (question : Question) → words ≢ word_of question ∷ []

-- the words ask this question: its word is the only word. None says that the words ask no question
abbrev pub AsksAbout : List Text → Option Question → Type 0
AsksAbout words (Some question) = words ≡ word_of question ∷ []
AsksAbout words None = AskNoQuestion words

-- the words before a request that is allowed only if the desk may write
abbrev pub leave_text : Bool → Text
leave_text true = codes "with --write "
leave_text false = []

-- the line that shows a request: its verb, and the names of the words after the verb
abbrev pub request_line : RequestRow → Text
request_line row = leave_text row.writes ++ usage_with row.name row.ids ++ codes "\n"

-- the first line of what `--help` prints: the words of a session
abbrev pub help_head : Text
help_head = codes "desk: usage: [--write] STATE, and then a line for each request:\n"

-- the text that answers a question. `--help` prints the words of a session and a line for each row
-- of the table of requests. `--version` prints the format in which a desk writes STATE
abbrev pub text_about : Question → Text
text_about Help = help_head ++ flat_map (λ verb. request_line (row_of verb)) verbs
text_about Version = codes "desk: STATE has the format " ++ mark dks_2 ++ codes "\n"

-- the output took this text and the status is 0. Or the output failed and took only a proper prefix
-- of the text, the failure was reported to the sink of faults, and the status is 4
abbrev pub Prints : Text → SessionHostView → SessionHostView → ℕ → Type 0
Prints text old new status =
    ((status ≡ 0) × WritesWhole text old.streams new.streams × (new.faults ≡ old.faults))
    ⊎ ((status ≡ 4) × WritesPart text old.streams new.streams
    × TellsText device_line old.faults new.faults)

-- the answer to this question was printed. The input and the folder weren't used
pub record AnswersQuestion (question : Question) (old new : SessionHostView) (status : ℕ) : Type 0 where
  pub untouched : new ≡ record old { streams = new.streams; faults = new.faults }
  pub prints : Prints (text_about question) old new status
