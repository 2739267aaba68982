-- What a desk knows after each step of a session, and after all steps.
use Rattle.cif_laws.proofs.Common.{◌≡◌, ◌≤◌, ℕ, Bool, List, [], ◌∷◌, ◌++◌, length, refl, sym, ◌∙◌, subst, append-nil, Some, ap, None, rules, Option, Result, ⊤}
use Rattle.cif_laws.proofs.Common.{max-zero, All-cons, All-nil, IsDay, IsFile, most_records, State, IsJoin, raise_horizon, dks_2, IsSummary, Known, nothing}
use Rattle.cif_laws.proofs.Common.{united}
use Rattle.docker_laws.proofs.runs.GoodKnowledge.{horizon_good, united_good}
use Rattle.state_laws.proofs.states.SummaryLaws.{join_is_summary, raised_summary}
use Rattle.state_laws.proofs.texts.TextsApart.{one_text}
use Rattle.cif_device.specs.Device.{Held}
use Rattle.docker_host.specs.History.{Event, Text}
use Rattle.docker_bytes.specs.SourceRead.{ReadsState}
use Rattle.docker_office.specs.Office.{HoldsState}
use Rattle.docker_office.specs.declared.fault.OfficeFault.{OfficeFault}
use Rattle.docker_desk.specs.Lines.{LineView}
use Rattle.docker_desk.specs.Requests.{RequestView, horizon_request, show_request, renew_request, take_request, merge_request, save_request}
use Rattle.docker_desk.specs.Reading.{Reading, events_of}
use Rattle.docker_desk.specs.Replies.{AnswerView, done_with, no_request, refused_for}
use Rattle.docker_desk.specs.SessionViews.{SessionView, Setting, Step}
use Rattle.docker_desk.specs.Doing.{AreSteps, AsksOf, DoesAsked, DoesRequest, IsStep, answer_of, desk_by}
use Rattle.docker_desk.specs.Learning.{AreLearned, Hears, HearsFile, HearsState, IsKnown, KnowsAt, Learns, renewing}
use Rattle.docker_desk.proofs.RequestLemmas.{day_made}

-- ---- what is known

-- if what is known is united with `nothing`, it stays the same
known_with_nothing : (known : Known) → united known nothing ≡ known
known_with_nothing known = λ i. record { files = append-nil known.files i; horizon = max-zero known.horizon i }

-- if nothing was learned and the state is unchanged, the state is still the summary of what is
-- known
nothing_heard : (old heard : Known) (before after : State) → heard ≡ nothing → after ≡ before → IsKnown old before → IsKnown (united old heard) after
nothing_heard = search (rules, known_with_nothing)

-- the join of two states is the summary of what the two states know together
known_joined : (old heard : Known) (own other after : State) → IsKnown old own → IsKnown heard other
    → IsJoin own other after → IsKnown (united old heard) after
known_joined old heard own other after first second join = search (rules, united_good, join_is_summary)

-- after a horizon is set, the state is the summary of what was known before and of the horizon
known_raised : (old heard : Known) (day : ℕ) (state : State) → IsDay day → heard ≡ record { files = []; horizon = day } → IsKnown old state
    → IsKnown (united old heard) (raise_horizon day state)
known_raised = search (rules, united_good, horizon_good, append-nil, raised_summary)

-- if a desk's state is the summary of one file under the horizon 0, this file and this horizon are
-- what the desk knows
known_file : (file : List (List ℕ)) (state : State) → IsFile file → length file ≤ most_records → IsSummary (file ∷ []) 0 state
    → IsKnown (record { files = file ∷ []; horizon = 0 }) state
known_file = search (rules, All-cons, All-nil)

-- ---- what is known after one request

module _ (setting : Setting) (before after : SessionView) where
  -- after a file is taken, the state is the summary of what was known before and of the file
  file_known : (name : Text) (old heard : Known) → HearsFile name before after heard → IsKnown old before.desk.state
      → IsKnown (united old heard) after.desk.state
  file_known name old heard hears is =
      let takes = hears.takes in
      search (rules, known_joined, known_file, hears.heard_is, takes.of_file, takes.joined)

  -- after a state is received, the desk's state is the summary of what was known before and of what
  -- was learned
  state_known : (events : Reading → List Event) (old heard : Known) → HearsState events before after heard → IsKnown old before.desk.state
      → IsKnown (united old heard) after.desk.state
  state_known events old heard hears is = known_joined _ _ _ _ _ is hears.of hears.joins.join

  -- `save` doesn't change the state
  pub same_saved : (result : Result ⊤ OfficeFault) → after.desk ≡ desk_by result before.desk → after.desk.state ≡ before.desk.state
  same_saved = search rules

  -- the answer made from a result is never `no_request`
  some_answer : {A : Type 0} (result : Result A OfficeFault) → ¬ (no_request ≡ answer_of result)
  some_answer = search rules

  -- after a request succeeds, the state is the summary of what was known before and of what was
  -- learned
  known_done : (request : RequestView) (text : List ℕ) (old heard : Known) → ((day : ℕ) → request ≡ horizon_request day → IsDay day)
      → DoesRequest setting request before (done_with text) after → Hears setting request before after heard → IsKnown old before.desk.state
      → IsKnown (united old heard) after.desk.state
  known_done (show_request query) text old heard days does hears is = search (rules, nothing_heard)
  known_done renew_request text old heard days does hears is = state_known (renewing setting.name) old heard hears is
  known_done (take_request file) text old heard days does hears is = file_known file old heard hears is
  known_done (merge_request other) text old heard days does hears is = state_known (events_of other) old heard hears is
  known_done (horizon_request day) text old heard days does hears is = search (rules, known_raised, does.1)
  known_done save_request text old heard days does hears is = nothing_heard old heard _ _ hears (same_saved does.result does.desk) is

  -- a refused request doesn't change the state
  pub same_refused : (request : RequestView) (fault : OfficeFault) → DoesRequest setting request before (refused_for fault) after
      → after.desk.state ≡ before.desk.state
  same_refused = search (rules, same_saved)

  -- the answer to a request is never `no_request`
  pub never_unasked : (request : RequestView) → ¬ DoesRequest setting request before no_request after
  never_unasked = search (rules, some_answer)

  -- after a line is answered, the state is the summary of what is known after the line
  known_asked : (request : Option RequestView) (answer : AnswerView) (old new : Known) → ((day : ℕ) → request ≡ Some (horizon_request day) → IsDay day)
      → DoesAsked setting request before answer after → Learns setting request before answer after old new → IsKnown old before.desk.state
      → IsKnown new after.desk.state
  known_asked None answer old new days does learns is = search rules
  known_asked (Some request) (done_with text) old new days does learns is =
      subst (λ k. IsKnown k after.desk.state) (sym learns.1.1)
      (known_done request text old learns.0 (λ day same. days day (ap Some same)) does learns.1.0 is)
  known_asked (Some request) (refused_for fault) old new days does learns is = search (rules, same_refused)
  known_asked (Some request) no_request old new days does learns is = search (rules, never_unasked)

-- ---- what is known after each step

-- the day that a `horizon` request names is a valid day number
pub day_asked : (may_write : Bool) (line : LineView) (request : Option RequestView) (day : ℕ) → AsksOf may_write line request
    → request ≡ Some (horizon_request day) → IsDay day
day_asked = search (rules, day_made)

module _ (setting : Setting) where
  -- after a step, the state is the summary of what is known after the step
  known_step : (step : Step) (old new : Known) → IsStep setting step → Learns setting step.request step.before step.answer step.after old new
      → IsKnown old step.before.desk.state → IsKnown new step.after.desk.state
  known_step = search (rules, known_asked, day_asked)

  -- after a list of steps, the state is the summary of what is known after the last step
  pub known_steps : (first last : SessionView) (steps : List Step) (old new : Known) → IsKnown old first.desk.state → AreSteps setting first steps last
      → AreLearned setting old steps new → IsKnown new last.desk.state
  known_steps first last [] old new is are learned = search rules
  known_steps first last (step ∷ steps) old new is are learned =
      known_steps step.after last steps learned.0 new
      (known_step step old learned.0 are.1.0 learned.1.0 (subst (λ (m : SessionView). IsKnown old m.desk.state) (sym are.0) is)) are.1.1 learned.1.1

  -- at each point of a session, the state is the summary of what is known at that point
  pub known_then : (known : Known) (state : State) → KnowsAt setting known state → IsKnown known state
  known_then known state at = subst (IsKnown known) at.has (known_steps at.first at.last at.steps at.start known at.begins at.are at.learned)

  -- if a list of steps is split in two, the first part ends at some point, and the second part
  -- begins at that point
  pub steps_apart : (first last : SessionView) (earlier later : List Step) → AreSteps setting first (earlier ++ later) last
      → (between : SessionView) × (AreSteps setting first earlier between × AreSteps setting between later last)
  steps_apart first last [] later are = (first, (refl, are))
  steps_apart first last (step ∷ earlier) later are =
      let apart = steps_apart step.after last earlier later are.1.1 in (apart.0, ((are.0, (are.1.0, apart.1.0)), apart.1.1))

-- ---- what is known at the beginning

-- if a file held the text of a state, reading the file returns that state
pub one_read : (limit : ℕ) (left : Option (List ℕ)) (read sent : State) → ReadsState dks_2 limit left read → HoldsState dks_2 limit left sent → read ≡ sent
one_read limit left read sent reads holds =
    let same : holds.text ≡ reads.text = subst (λ bytes. Held bytes reads.text) holds.told reads.held in
    one_text dks_2 read sent reads.is.valid holds.is.valid (sym reads.is.is ∙ sym same ∙ holds.is.is)

-- if a file held the text of a summary, reading the file returns that summary
pub known_read : (limit : ℕ) (left : Option (List ℕ)) (read sent : State) (start : Known) → ReadsState dks_2 limit left read → HoldsState dks_2 limit left sent
    → IsKnown start sent → IsKnown start read
known_read limit left read sent start reads holds is = subst (IsKnown start) (sym (one_read limit left read sent reads holds)) is
