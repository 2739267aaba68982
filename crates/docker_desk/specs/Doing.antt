-- What each request does in a session, and the steps of a session.
use Rattle.std.specs.Prelude.{◌≡◌, ℕ, ◌+◌, Bool, true, false, List, [], ◌∷◌, length, Option, Some, None, Result, Ok, Err, ⊤}
use Rattle.docker_model.specs.state.State.{State, raise_horizon}
use Rattle.docker_model.specs.state.StateText.{dks_2, state_text}
use Rattle.docker_cmd.specs.FaultLine.{IsCounted}
use Rattle.docker_cmd.specs.JobLine.{IsLineText}
use Rattle.docker_host.specs.History.{Text}
use Rattle.docker_office.specs.declared.fault.OfficeFault.{OfficeFault}
use Rattle.docker_desk.specs.Lines.{LineView, whole_line, bad_line, cut_line}
use Rattle.docker_desk.specs.Requests.{AsksFor, RequestView, show_request, renew_request, take_request, merge_request, horizon_request, save_request}
use Rattle.docker_desk.specs.Desk.{DeskView, EndsReceiving, EndsRenewing, EndsSaving, EndsTaking, IsShown, look_by, unsaved_by}
use Rattle.docker_desk.specs.Reading.{LooksAndOpens, OpensOnce, Reading, StopsInFile, StopsInState}
use Rattle.docker_desk.specs.declared.compared.Compared.{Compared}
use Rattle.docker_desk.specs.Replies.{AnswerView, done_with, no_request, refused_for, answer_status}
use Rattle.docker_desk.specs.SessionViews.{SessionView, Setting, Step}

-- the answer to a request that ended with this result. If the request succeeded, the answer's text
-- is empty. Otherwise the request was refused for this fault
abbrev pub answer_of : {A : Type 0} → Result A OfficeFault → AnswerView
answer_of (Ok done) = done_with []
answer_of (Err fault) = refused_for fault

-- carrying out `take` or `merge` at the point `before` gave this answer and ended at the point
-- `after`. The named file is opened once, and the bytes that it held at that moment determine the
-- outcome. `Stops` limits how far the file is read, and `Ends` says what the outcome is
pub record Joins (name : Text) (Stops : Reading → Type 0)
    (Ends : State → State → Result ⊤ OfficeFault → Option Reading → Type 0)
    (before : SessionView) (answer : AnswerView) (after : SessionView) : Type 0 where
  pub result : Result ⊤ OfficeFault
  pub told : answer ≡ answer_of result
  pub opens : OpensOnce name Stops (Ends before.desk.state after.desk.state result) before.history
      after.history
  pub unsaved : after.desk.unsaved ≡ unsaved_by result before.desk.unsaved
  pub look : after.look ≡ before.look

-- carrying out `renew` at the point `before` gave this answer and ended at the point `after`. The
-- state's file is looked at and then opened once, and the desk's state is joined with the state
-- that the file then held. If `renew` succeeds, later drafts are based on this look
pub record Renews (setting : Setting) (before : SessionView) (answer : AnswerView) (after : SessionView)
    : Type 0 where
  pub result : Result Compared OfficeFault
  pub told : answer ≡ answer_of result
  pub opens : LooksAndOpens setting.name (EndsRenewing before.desk after.desk result)
      before.history after.history
  pub look : after.look ≡ look_by result (length before.history) before.look

-- the desk after `save`: its unsaved flag is cleared if the text was stored
abbrev pub desk_by : Result ⊤ OfficeFault → DeskView → DeskView
desk_by (Ok done) desk = record desk { unsaved = false }
desk_by (Err fault) desk = desk

-- carrying out `save` at the point `before` gave this answer and ended at the point `after`. A
-- draft is made that is based on the look of `before`. If the draft replaces the file, the file is
-- looked at again, and later drafts are based on the second look
pub record Saves (setting : Setting) (before : SessionView) (answer : AnswerView) (after : SessionView)
    : Type 0 where
  pub result : Result ⊤ OfficeFault
  pub told : answer ≡ answer_of result
  pub stores : EndsSaving setting.names_bytes setting.name before.look
      (state_text dks_2 before.desk.state) before.history after.history result
  pub desk : after.desk ≡ desk_by result before.desk
  pub look : after.look ≡ look_by result (length before.history + 2) before.look

-- the point after a horizon was set: the state has the later of `day` and its own horizon, and the
-- unsaved flag is set
abbrev pub with_horizon : ℕ → SessionView → SessionView
with_horizon day before =
    record before { desk = record { state = raise_horizon day before.desk.state; unsaved = true } }

-- carrying out this request at the point `before` gives this answer and ends at the point `after`
abbrev pub DoesRequest : Setting → RequestView → SessionView → AnswerView → SessionView → Type 0
DoesRequest setting (show_request query) before answer after =
    IsShown before.desk.state query answer × (after ≡ before)
DoesRequest setting renew_request before answer after = Renews setting before answer after
DoesRequest setting (take_request file) before answer after =
    Joins file StopsInFile EndsTaking before answer after
DoesRequest setting (merge_request other) before answer after =
    Joins other StopsInState EndsReceiving before answer after
DoesRequest setting (horizon_request day) before answer after =
    (answer ≡ done_with []) × (after ≡ with_horizon day before)
DoesRequest setting save_request before answer after = Saves setting before answer after

-- the line is this request; None says that the line isn't a request. Only a whole line can be a
-- request
abbrev pub AsksOf : Bool → LineView → Option RequestView → Type 0
AsksOf may_write (whole_line line) request = IsLineText line × AsksFor may_write line request
AsksOf may_write bad_line request = request ≡ None
AsksOf may_write cut_line request = request ≡ None

-- carrying out this request at the point `before` gives this answer and ends at the point `after`.
-- If there is no request, the answer is `no_request` and nothing changes
abbrev pub DoesAsked : Setting → Option RequestView → SessionView → AnswerView → SessionView → Type 0
DoesAsked setting (Some request) before answer after =
    DoesRequest setting request before answer after
DoesAsked setting None before answer after = (answer ≡ no_request) × (after ≡ before)

-- this step may occur in a session. The step's line is the step's request, or isn't a request if
-- the step has none. Carrying out the request at the step's first point gives the step's answer and
-- ends at the step's second point. The folder failed once in the step if the answer has status 4,
-- and otherwise didn't fail
pub record IsStep (setting : Setting) (step : Step) : Type 0 where
  pub asks : AsksOf setting.may_write step.line step.request
  pub does : DoesAsked setting step.request step.before step.answer step.after
  pub counted : IsCounted (answer_status step.answer) step.before.failures step.after.failures

-- answering this line at the point `before` gives this answer and ends at the point `after`. The
-- folder failed once if the answer has status 4, and otherwise didn't fail
pub record DoesLine (setting : Setting) (line : LineView) (before : SessionView) (answer : AnswerView)
    (after : SessionView) : Type 0 where
  pub request : Option RequestView
  pub asks : AsksOf setting.may_write line request
  pub does : DoesAsked setting request before answer after
  pub counted : IsCounted (answer_status answer) before.failures after.failures

-- these steps follow one another. The first step begins at the point `before`, and the last step
-- ends at the point `after`
abbrev pub AreSteps : Setting → SessionView → List Step → SessionView → Type 0
AreSteps setting before [] after = after ≡ before
AreSteps setting before (step ∷ steps) after =
    (step.before ≡ before) × (IsStep setting step × AreSteps setting step.after steps after)
