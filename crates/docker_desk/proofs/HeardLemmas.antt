-- What a desk learns from the files that `take`, `merge` and `renew` read.
use Rattle.cif_laws.proofs.Common.{◌≡◌, ℕ, List, [], ◌∷◌, ◌++◌, refl, Some, None, Ok, rules, Option, Result, ⊤, Known, nothing, united, State, dks_2}
use Rattle.cif_laws.proofs.Common.{state_text}
use Rattle.docker_cmd.specs.Prepared.{most_bytes}
use Rattle.docker_host.specs.Asked.{IsUnplaced}
use Rattle.docker_host.specs.History.{Bytes, Event, Text, looked}
use Rattle.docker_bytes.specs.SourceRead.{JoinsState}
use Rattle.docker_office.specs.declared.fault.OfficeFault.{OfficeFault}
use Rattle.docker_desk.specs.Desk.{EndsReceiving, EndsTaking}
use Rattle.docker_desk.specs.Reading.{Reading, StopsInFile, StopsInState, events_of}
use Rattle.docker_desk.specs.Requests.{RequestView, show_request, renew_request, take_request, merge_request, horizon_request, save_request}
use Rattle.docker_desk.specs.Replies.{AnswerView, done_with, refused_for}
use Rattle.docker_desk.specs.SessionViews.{SessionView, Setting, Step}
use Rattle.docker_desk.specs.Doing.{AreSteps, DoesAsked, DoesRequest, Joins, Renews, Saves}
use Rattle.docker_desk.specs.Learning.{AllHearKnown, AreLearned, Hears, HearsFile, HearsKnown, HearsState}
use Rattle.docker_desk.specs.Learning.{HoldsKnown, IsKnown, IsUnsaved, Learns, MayPlaceKnown, PlacesKnown, ReceivesKnown, renewing}
use Rattle.docker_desk.proofs.KnownLemmas.{known_read}

-- ---- events determine bytes

-- appending to a history is injective: if `old ++ first` equals `old ++ second`, then `first`
-- equals `second`
one_more : (old first second : List Event) → old ++ first ≡ old ++ second → first ≡ second
one_more [] first second same = same
one_more (event ∷ old) first second same = let rest : old ++ first ≡ old ++ second = cc in one_more old first second rest

-- the events of an opening determine the bytes that the file held
pub held_once : (name : Text) (old new : List Event) (first second : Reading) → new ≡ old ++ events_of name first → new ≡ old ++ events_of name second
    → first.held ≡ second.held
held_once = search (rules, one_more)

pub held_after_look : (name : Text) (old new : List Event) (first second : Reading) → new ≡ old ++ looked name ∷ events_of name first
    → new ≡ old ++ looked name ∷ events_of name second → first.held ≡ second.held
held_after_look = search (rules, one_more)

-- ---- a request that succeeded

-- if `take` or `merge` succeeded, the file was opened and read
pub joined_read : (name : Text) (Stops : Reading → Type 0) (Ends : State → State → Result ⊤ OfficeFault → Option Reading → Type 0)
    (before after : SessionView) (text : List ℕ) → ((old new : State) → Ends old new (Ok tt) None → ⊥)
    → Joins name Stops Ends before (done_with text) after
    → (read : Reading) × ((after.history ≡ before.history ++ events_of name read) × Ends before.desk.state after.desk.state (Ok tt) (Some read))
joined_read = search rules

-- if `renew` succeeded, the state's file was opened, and its state was received
pub renewed_read : (setting : Setting) (before after : SessionView) (text : List ℕ) → Renews setting before (done_with text) after
    → (read : Reading) × ((after.history ≡ before.history ++ renewing setting.name read)
    × JoinsState dks_2 most_bytes read.held before.desk.state after.desk.state)
renewed_read = search rules

-- ---- a state is received or saved

-- if `save` was refused, it stored nothing, or replacing the file with the draft failed
pub unsaved_by : (setting : Setting) (before after : SessionView) (fault : OfficeFault) (MayBe : Type 0)
    → (IsUnplaced setting.names_bytes setting.name before.look (state_text dks_2 before.desk.state) before.history after.history → MayBe)
    → Saves setting before (refused_for fault) after → IsUnsaved setting before after fault MayBe
unsaved_by = search rules

module _ (before after : SessionView) (known : Known) where
  -- if a file held the text of a summary, and the desk received this state, the desk learned this
  -- summary
  hears_held : (events : Reading → List Event) (held : Bytes) (holds : HoldsKnown events before after known) → held ≡ holds.read.held
      → JoinsState dks_2 most_bytes held before.desk.state after.desk.state → HearsState events before after known
  hears_held events held holds same joins =
      let there : JoinsState dks_2 most_bytes holds.read.held before.desk.state after.desk.state = rw (← same) joins in
      record {
        read = holds.read;
        asked = holds.asked;
        joins = there;
        of = known_read most_bytes holds.read.held there.received holds.sent known there.read holds.holds holds.of;
      }

  -- if `merge` succeeded, and the file held the text of a summary, the desk learned this summary
  pub hears_merged : (other : Text) (text : List ℕ) → Joins other StopsInState EndsReceiving before (done_with text) after
      → HoldsKnown (events_of other) before after known → HearsState (events_of other) before after known
  hears_merged other text does holds =
      let joined = joined_read other StopsInState EndsReceiving before after text (λ old new none. none) does in
      hears_held (events_of other) _ holds (held_once _ before.history _ joined.0 _ joined.1.0 holds.asked) joined.1.1

  -- if `renew` succeeded, and the state's file held the text of a summary, the desk learned this
  -- summary
  pub hears_renewed : (setting : Setting) (text : List ℕ) → Renews setting before (done_with text) after
      → HoldsKnown (renewing setting.name) before after known → HearsState (renewing setting.name) before after known
  hears_renewed setting text does holds =
      let joined = renewed_read setting before after text does in
      hears_held (renewing setting.name) _ holds (held_after_look _ before.history _ joined.0 _ joined.1.0 holds.asked) joined.1.1

  -- if `save` succeeded, the saved text is the text of the summary of what is known
  pub places_known : (setting : Setting) (text : List ℕ) → IsKnown known before.desk.state → Saves setting before (done_with text) after
      → PlacesKnown setting before after known
  places_known = search rules

  -- if `save` was refused, it stored nothing, or the draft holds the text of the summary of what is
  -- known
  pub may_place_known : (setting : Setting) (fault : OfficeFault) → IsKnown known before.desk.state → Saves setting before (refused_for fault) after
      → IsUnsaved setting before after fault (MayPlaceKnown setting before after known)
  may_place_known = search (rules, unsaved_by)

-- ---- what a session learns from its steps

-- if `take` succeeded, there is a file that the desk came to know
takes_heard : (file : Text) (text : List ℕ) (before after : SessionView) → Joins file StopsInFile EndsTaking before (done_with text) after
    → (heard : Known) × HearsFile file before after heard
takes_heard file text before after does =
    let joined = joined_read file StopsInFile EndsTaking before after text (λ old new none. none) does in (
      record { files = joined.1.1.takes.file ∷ []; horizon = 0 },
      record { read = joined.0; asked = joined.1.0; takes = joined.1.1.takes; heard_is = refl },
    )

module _ (setting : Setting) where
  -- with each request that succeeded, the desk came to know files and a horizon, or nothing new
  hears_some : (request : RequestView) (text : List ℕ) (before after : SessionView) → DoesRequest setting request before (done_with text) after
      → ReceivesKnown setting request before after → (heard : Known) × Hears setting request before after heard
  hears_some (show_request query) text before after does received = (nothing, refl)
  hears_some renew_request text before after does received = (received.0, hears_renewed before after received.0 setting text does received.1)
  hears_some (take_request file) text before after does received = takes_heard file text before after does
  hears_some (merge_request other) text before after does received = (received.0, hears_merged before after received.0 other text does received.1)
  hears_some (horizon_request day) text before after does received = (record { files = []; horizon = day }, refl)
  hears_some save_request text before after does received = (nothing, refl)

  -- in each step, the desk came to know files and a horizon, or nothing new
  learns_some : (request : Option RequestView) (answer : AnswerView) (before after : SessionView) (old : Known) → DoesAsked setting request before answer after
      → HearsKnown setting request before answer after → (new : Known) × Learns setting request before answer after old new
  learns_some (Some request) (done_with text) before after old does hears =
      let heard = hears_some request text before after does hears in (united old heard.0, (heard.0, (heard.1, refl)))
  learns_some _ _ before after old does hears = (old, refl)

  -- in all steps together, the desk came to know files and a horizon, or nothing new
  pub learned_of : (first last : SessionView) (steps : List Step) (old : Known) → AreSteps setting first steps last → AllHearKnown setting steps
      → (new : Known) × AreLearned setting old steps new
  learned_of first last [] old are hear = (old, refl)
  learned_of first last (step ∷ steps) old are hear =
      let now = learns_some step.request step.answer step.before step.after old are.1.0.does hear.0 in
      let new = learned_of step.after last steps now.0 are.1.1 hear.1 in
      (new.0, (now.0, (now.1, new.1)))
