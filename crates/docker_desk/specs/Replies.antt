-- The answers of a desk.
use Rattle.std.specs.Prelude.{ℕ, List, []}
use Rattle.docker_office.specs.declared.fault.OfficeFault.{OfficeFault}
use Rattle.docker_office.specs.declared.fault.OfficeFault.TheVariants as office
use Rattle.docker_cmd.specs.FaultLine.{fault_line, status_of}
use Rattle.docker_cmd.specs.declared.fault.Fault.TheVariants.{Office}
use Rattle.docker_desk.specs.Answers.{answer_text}
use Rattle.docker_desk.specs.Requests.{usage_line}
use Rattle.docker_desk.specs.declared.reply.Answer.{Answer}
use Rattle.docker_desk.specs.declared.reply.Answer.TheVariants as code

-- the answer to a line. There are three cases: the line's request succeeded and its answer has this
-- text, the request was refused for this fault, or the line isn't a request
pub data AnswerView : Type 0 where
  done_with : (text : List ℕ) → AnswerView
  refused_for : (fault : OfficeFault) → AnswerView
  no_request : AnswerView

-- converts the code's `Answer` to the `AnswerView` of the definitions
abbrev pub answer_meant : Answer → AnswerView
answer_meant (code.Text page) = done_with page.text
answer_meant code.Done = done_with []
answer_meant (code.Refused fault) = refused_for fault
answer_meant code.Usage = no_request

-- the status of an answer: 0, the fault's status, or 2 if the line isn't a request
abbrev pub answer_status : AnswerView → ℕ
answer_status (done_with text) = 0
answer_status (refused_for fault) = status_of (Office fault)
answer_status no_request = 2

-- the text of an answer: the text that was requested, the line that reports the fault, or the usage
-- line
abbrev pub answer_body : AnswerView → List ℕ
answer_body (done_with text) = text
answer_body (refused_for fault) = fault_line (Office fault)
answer_body no_request = usage_line

-- the bytes of an answer: its header and then its text
abbrev pub answer_bytes : AnswerView → List ℕ
answer_bytes answer = answer_text (answer_status answer) (answer_body answer)

-- the bytes of the answer to a request that was refused because memory ran out
abbrev pub memory_answer : List ℕ
memory_answer = answer_bytes (refused_for office.Memory)
