-- A session that asks for the files of a state without files.
use Rattle.cif_laws.proofs.Common.{◌≡◌, ◌≢◌, ℕ, ◌≤◌, Bool, true, List, [], ◌∷◌, ◌++◌, length, refl, rules, sym, ◌∙◌, ap, subst, arith, append-nil, Some, None}
use Rattle.cif_laws.proofs.Common.{◌⊎◌, inl, inr, Option, codes, decimal_digit, AllPass-from_list_all, is_printable, State, IsValid, dks_2, state_text}
use Rattle.cif_device.specs.Device.{Takes}
use Rattle.docker_cmd.specs.FaultLine.{status_of}
use Rattle.docker_cmd.specs.Prepared.{most_bytes}
use Rattle.docker_cmd.specs.declared.fault.Fault.TheVariants.{Office}
use Rattle.docker_host.specs.History.{Bytes, Event, Text, closed, looked, opened, placed}
use Rattle.docker_host.specs.SessionHost.{SessionHostView}
use Rattle.docker_host.specs.Shelf.{IsShelfHistory}
use Rattle.docker_desk.specs.Lines.{AreLines, LineView, whole_line}
use Rattle.docker_desk.specs.Requests.{AsksFor, IsRequestOf, RequestView, show_request}
use Rattle.docker_desk.specs.Desk.{IsShown}
use Rattle.docker_desk.specs.declared.query.Query.TheVariants as query
use Rattle.docker_desk.specs.declared.requests.Verb.TheVariants as verb
use Rattle.docker_desk.specs.Replies.{AnswerView, answer_bytes, done_with, memory_answer}
use Rattle.docker_desk.specs.SessionViews.{SessionView, Setting, Step, setting}
use Rattle.docker_desk.specs.Doing.{AreSteps, AsksOf, DoesAsked}
use Rattle.docker_desk.specs.Answering.{EndsSession, answers_text, lines_of}
use Rattle.docker_desk.specs.Help.{word_of}
use Rattle.docker_desk.specs.declared.help.Question.{Question}
use Rattle.docker_desk.specs.Serving.{BeginsAt, Serves, ending_status, session_words}
use Rattle.docker_desk.specs.declared.ending.Ending.{Ending}
use Rattle.docker_desk.specs.declared.ending.Ending.TheVariants.{Ended}
use Rattle.docker_desk.proofs.ReadingLemmas.{one_reading}
use Rattle.docker_desk.proofs.KnownLemmas.{one_read}
use Rattle.docker_desk.proofs.RequestLemmas.{with_verb}
use Rattle.state_laws.proofs.texts.ReportedWithHorizon.{valid_is_told}
use Rattle.docker_office.specs.Office.{HoldsState, no_state}
use Rattle.docker_office.specs.declared.fault.OfficeFault.{OfficeFault}

-- the line `files`, which requests the list of files
abbrev asked_line : List ℕ
asked_line = codes "files"

-- the output holds the answer that lists no files, or the answer that reports that memory ran out
abbrev pub IsAnswered : Bytes → Type 0
IsAnswered output = (output ≡ Some (codes "0 0 0\n")) ⊎ (output ≡ Some memory_answer)

-- ---- the words and the status

-- the status of a fault is never 0
some_status : (fault : OfficeFault) → status_of (Office fault) ≢ 0
some_status = search rules

-- if the status of an ending is 0, the session ended at the end of its input
ended_well : (ending : Ending) (unsaved : Bool) → ending_status ending unsaved ≡ 0 → ending ≡ Ended
ended_well = search rules

-- if a session is started with only one word, this word names the state's file
named_so : (word name : Text) (may_write : Bool) → word ∷ [] ≡ session_words name may_write → name ≡ word
named_so = search rules

-- ---- the line `files` is a request

-- the input `files` with a line feed consists of one whole line
one_line : AreLines (codes "files\n") (whole_line asked_line ∷ [])
one_line = ([], (record { whole = refl; line_text = record { short = omega arith; printable = AllPass-from_list_all is_printable asked_line refl } }, refl))

-- the request `files`
abbrev files_request : RequestView
files_request = show_request query.Files

-- the line `files` is the request `files`
asks_files : (may_write : Bool) → IsRequestOf may_write asked_line files_request
asks_files may_write = record { verb = verb.Files; name = refl; makes = (refl, refl); allowed = λ writes. let never : ⊥ = cc in absurd never }

asked_files : (may_write : Bool) (request : Option RequestView) → AsksFor may_write asked_line request → request ≡ Some files_request
asked_files may_write None asks = absurd (asks files_request (asks_files may_write))
asked_files may_write (Some request) asks = ap Some (with_verb may_write asked_line verb.Files request refl asks).1

-- ---- the bytes of the answer

-- if a request succeeded and its answer has no text, the answer consists of `0 0 0` and a line feed
empty_told : answer_bytes (done_with []) ≡ codes "0 0 0\n"
empty_told = search (rules, decimal_digit)

-- if the state knows no files, then after the answer to `files` the output lists no files or
-- reports that memory ran out
answered : (output : Bytes) (state : State) (answer : AnswerView) → state ≡ no_state → IsShown state query.Files answer
    → Takes (Some []) (answer_bytes answer ++ []) output → IsAnswered output
answered = search (rules, append-nil, empty_told)

-- ---- the file holds the state without files

-- an opened file holds the text that was last placed under its name on the shelf
held_there : (text name : Text) (held left : Bytes) → name ≡ codes "S"
    → IsShelfHistory (placed (codes "S") (Some text) ∷ looked name ∷ opened name held ∷ closed left ∷ []) → held ≡ Some text
held_there = search rules

-- a file that holds the text of `no_state`, the state without files, holds this state
holds_none : (text : List ℕ) → text ≡ state_text dks_2 no_state → length text ≤ 100 → IsValid no_state → HoldsState dks_2 most_bytes (Some text) no_state
holds_none = search (rules, valid_is_told)

-- ---- the session answers the request

module _ (text : List ℕ) (holds : HoldsState dks_2 most_bytes (Some text) no_state) (old : List Event) (output : Bytes)
    (before : old ≡ placed (codes "S") (Some text) ∷ []) where
  -- if the line `files` is the only step of the session, the output lists no files or reports that
  -- memory ran out
  one_step : (its : Setting) (first last : SessionView) (step : Step) → BeginsAt its.name old first → its.name ≡ codes "S" → step.line ≡ whole_line asked_line
      → AreSteps its first (step ∷ []) last → IsShelfHistory last.history → Takes (Some []) (answer_bytes step.answer ++ []) output → IsAnswered output
  one_step its first last step begins named line are met takes =
      answered output _ step.answer (ap (λ (m : SessionView). m.desk.state) are.0 ∙ read) does.0 takes
    where
      asks : AsksOf its.may_write (whole_line asked_line) step.request
      asks = subst (λ (l : LineView). AsksOf its.may_write l step.request) line are.1.0.asks

      does : DoesAsked its (Some files_request) step.before step.answer step.after
      does = subst (λ (r : Option RequestView). DoesAsked its r step.before step.answer step.after) (asked_files _ step.request asks.1) are.1.0.does

      history : last.history ≡ placed (codes "S") (Some text) ∷ looked its.name ∷ opened its.name begins.held ∷ closed begins.left ∷ []
      history = search rules

      held : begins.held ≡ Some text
      held = held_there _ its.name _ begins.left named (subst IsShelfHistory history met)

      read : first.desk.state ≡ no_state
      read = one_read _ begins.held _ no_state begins.state (subst (λ (h : Bytes). HoldsState dks_2 most_bytes h no_state) (sym held) holds)

  -- if the only line of the steps is `files`, the output lists no files or reports that memory ran
  -- out
  all_steps : (its : Setting) (first last : SessionView) (steps : List Step) → BeginsAt its.name old first → its.name ≡ codes "S"
      → lines_of steps ≡ whole_line asked_line ∷ [] → AreSteps its first steps last → IsShelfHistory last.history
      → Takes (Some []) (answers_text steps) output → IsAnswered output
  all_steps its first last [] begins named lines are met takes = let never : ⊥ = cc in absurd never
  all_steps its first last (step ∷ []) begins named lines are met takes =
      let line : step.line ≡ whole_line asked_line = cc in one_step its first last step begins named line are met takes
  all_steps its first last (step ∷ next ∷ steps) begins named lines are met takes = cc

-- the word `S` asks no question
asks_nothing : (question : Question) → codes "S" ∷ [] ≡ word_of question ∷ [] → ⊥
asks_nothing = search rules

-- suppose that STATE holds the text of a state without files, and that `files` is the only line of
-- the input. Then the desk answers that there are no files, or that memory ran out
pub files_answered : (text : List ℕ) (old new : SessionHostView) (status : ℕ) → HoldsState dks_2 most_bytes (Some text) no_state
    → old.history ≡ placed (codes "S") (Some text) ∷ [] → old.streams.input ≡ Some (codes "files\n") → old.streams.output ≡ Some []
    → IsShelfHistory new.history → status ≡ 0 → Serves (codes "S" ∷ []) true old new status → IsAnswered new.streams.output
files_answered text old new status holds history input output met none (inl asked) = absurd (asks_nothing asked.question asked.words_are)
files_answered text old new status holds history input output met none (inr (unasked, inl misused)) = cc
files_answered text old new status holds history input output met none (inr (unasked, inr (inl refused))) = search (rules, some_status)
files_answered text old new status holds history input output met none (inr (unasked, inr (inr served))) =
    all_steps text holds old.history new.streams.output history (setting served.name served.may_write true) served.first served.last served.answers.steps
    served.begins (named_so (codes "S") served.name served.may_write served.words_are.words_are)
    (one_reading (codes "files\n") (lines_of served.answers.steps) (whole_line asked_line ∷ []) ends.0 one_line)
    served.answers.are (subst IsShelfHistory served.history met) ends.1
  where
    ends : EndsSession Ended (Some (codes "files\n")) served.answers.steps (Some []) new.streams.output
    ends = search rules

-- ---- the text of the state

pub sent_text : (text before after : List ℕ) (state : State) → before ≡ [] → Takes (Some before) (state_text dks_2 state) (Some after) → state ≡ no_state
    → text ≡ after → text ≡ state_text dks_2 no_state
sent_text = search rules

-- a sink in memory that satisfies `IsAnswered` has the bytes of one of the two answers
bytes_answered : (taken : List ℕ) → IsAnswered (Some taken) → (taken ≡ codes "0 0 0\n") ⊎ (taken ≡ memory_answer)
bytes_answered = search rules

-- the same as `files_answered`, for a host `seen` that equals the new host
pub files_told : (text : List ℕ) (old seen new : SessionHostView) (status : ℕ) (taken : List ℕ) → Serves (codes "S" ∷ []) true old new status → seen ≡ new
    → text ≡ state_text dks_2 no_state → length text ≤ 100 → IsValid no_state → old.history ≡ placed (codes "S") (Some text) ∷ []
    → old.streams.input ≡ Some (codes "files\n") → old.streams.output ≡ Some [] → IsShelfHistory seen.history → status ≡ 0 → seen.streams.output ≡ Some taken
    → (taken ≡ codes "0 0 0\n") ⊎ (taken ≡ memory_answer)
files_told text old seen new status taken serves same is few valid history input output met none told = bytes_answered _ (subst IsAnswered told
    (files_answered _ _ _ _ (holds_none _ is few valid) history input output met none
    (subst (λ (host : SessionHostView). Serves (codes "S" ∷ []) true old host status) (sym same) serves)))
