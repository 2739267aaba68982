-- What a desk knows in a session. At each point the desk's state is the summary of the files and
-- the horizon that the desk knows.
use Rattle.std.specs.Prelude.{◌≡◌, ◌≤◌, ◌↔◌, ◌⊎◌, ℕ, List, [], ◌∷◌, ◌++◌, Option, Some, None, option_map, ⊤}
use Rattle.docker_model.specs.file.File.{most_records}
use Rattle.docker_model.specs.state.State.{State, live_table}
use Rattle.docker_model.specs.state.Lapse.{IsDayRefused}
use Rattle.docker_model.specs.state.StateText.{dks_2}
use Rattle.docker_model.specs.state.Table.{Table, IsPlainTable}
use Rattle.docker_model.specs.docker.Choice.{IsChosenOn}
use Rattle.docker_model.specs.docker.DockerText.{IsDockerText}
use Rattle.docker_model.specs.docker.DetailedText.{IsDetailedText}
use Rattle.docker_model.specs.docker.Permanent.{permanent_table}
use Rattle.docker_model.specs.run.Run.{IsMessageOf, IsStateOf, Known, nothing, united}
use Rattle.docker_model.specs.run.Knowledge.{IsGoodKnown}
use Rattle.docker_model.specs.lists.TrainText.{Stamped, train_text}
use Rattle.docker_model.specs.lists.TrainsText.{IsTrainsText}
use Rattle.docker_train.specs.Origin.{CameFrom}
use Rattle.docker_cmd.specs.Saved.{Gain, HoldsFile, HoldsVersion, IsSaved, file_gained, horizon_gained, version_gained}
use Rattle.docker_cmd.specs.Prepared.{most_bytes}
use Rattle.docker_host.specs.Asked.{IsDropped, IsUndrafted, IsUnplaced}
use Rattle.docker_host.specs.History.{Event, Text, drafted, looked, named_if, placed}
use Rattle.docker_bytes.specs.SourceRead.{JoinsState}
use Rattle.docker_office.specs.Office.{HoldsState, TakesFile}
use Rattle.docker_office.specs.declared.fault.OfficeFault.{OfficeFault}
use Rattle.docker_office.specs.declared.fault.OfficeFault.TheVariants.{Sink}
use Rattle.docker_desk.specs.Requests.{RequestView, show_request, renew_request, take_request, merge_request, horizon_request, save_request}
use Rattle.docker_desk.specs.Replies.{AnswerView, done_with, no_request, refused_for}
use Rattle.docker_desk.specs.SessionViews.{SessionView, Setting, Step}
use Rattle.docker_desk.specs.Doing.{AreSteps}
use Rattle.docker_desk.specs.Reading.{Reading, events_of}

-- the state is the summary of the known files and the known horizon
pub record IsKnown (known : Known) (state : State) : Type 0 where
  pub good : IsGoodKnown dks_2 known
  pub is : IsStateOf known state

-- for each day that isn't refused under the state's horizon, the permanent docker made from the
-- state is the permanent docker made from this table
abbrev pub KeepsAs : State → Table → Type 0
KeepsAs state table = (place : List ℕ) (day : ℕ) (text : List ℕ) → ¬ IsDayRefused state.horizon day
    → IsDockerText (permanent_table (live_table state)) place day text ↔ IsDockerText (permanent_table table) place day text

-- for each day that isn't refused under the state's horizon, the detailed docker made from the state
-- is the detailed docker made from this table. The same is true of the permanent detailed docker
abbrev pub DetailsAs : State → Table → Type 0
DetailsAs state table = (place : List ℕ) (day : ℕ) (text : List ℕ) → ¬ IsDayRefused state.horizon day
    → (IsDetailedText (live_table state) place day text ↔ IsDetailedText table place day text)
    × (IsDetailedText (permanent_table (live_table state)) place day text ↔ IsDetailedText (permanent_table table) place day text)

-- for each day that isn't before the state's horizon, the list of the trains that have an identity,
-- made from the state, is the list made from this table
abbrev pub ListsTrainsAs : State → Table → Type 0
ListsTrainsAs state table = (identity : List ℕ) (day : ℕ) (text : List ℕ) → state.horizon ≤ day
    → IsTrainsText (live_table state) identity day text → IsTrainsText table identity day text

-- `take` opened the named file, which held an extract, and took the extract. So the desk came to
-- know this extract, and no horizon
pub record HearsFile (name : Text) (before after : SessionView) (heard : Known) : Type 0 where
  pub read : Reading
  pub asked : after.history ≡ before.history ++ events_of name read
  pub takes : TakesFile most_records read.held before.desk.state after.desk.state
  pub heard_is : heard ≡ record { files = takes.file ∷ []; horizon = 0 }

-- `merge` or `renew` opened a file, and the opening added these events to the history. The file
-- held the text of the summary of this knowledge, and the desk gained this knowledge
pub record HearsState (events : Reading → List Event) (before after : SessionView) (heard : Known)
    : Type 0 where
  pub read : Reading
  pub asked : after.history ≡ before.history ++ events read
  pub joins : JoinsState dks_2 most_bytes read.held before.desk.state after.desk.state
  pub of : IsKnown heard joins.received

-- the events of a renewal: a look at the named file, its opening and its closing
abbrev pub renewing : Text → Reading → List Event
renewing name read = looked name ∷ events_of name read

-- this is the knowledge that a successful request added. `take` added its file. `merge` and `renew`
-- added the files and the horizon of the summary that they received. `horizon` added its day. Any
-- other request added nothing
abbrev pub Hears : Setting → RequestView → SessionView → SessionView → Known → Type 0
Hears setting (show_request query) before after heard = heard ≡ nothing
Hears setting renew_request before after heard =
    HearsState (renewing setting.name) before after heard
Hears setting (take_request file) before after heard = HearsFile file before after heard
Hears setting (merge_request other) before after heard =
    HearsState (events_of other) before after heard
Hears setting (horizon_request day) before after heard =
    heard ≡ record { files = []; horizon = day }
Hears setting save_request before after heard = heard ≡ nothing

-- if `old` was known before a line, `new` is known after the line. If the line is a request that
-- succeeded, `new` also includes what the request added
abbrev pub Learns : Setting → Option RequestView → SessionView → AnswerView → SessionView
    → Known → Known → Type 0
Learns setting (Some request) before (done_with text) after old new =
    (heard : Known) × (Hears setting request before after heard × (new ≡ united old heard))
Learns setting (Some request) before (refused_for fault) after old new = new ≡ old
Learns setting (Some request) before no_request after old new = new ≡ old
Learns setting None before answer after old new = new ≡ old

-- if `old` was known before these steps, `new` is known after them
abbrev pub AreLearned : Setting → Known → List Step → Known → Type 0
AreLearned setting old [] new = new ≡ old
AreLearned setting old (step ∷ steps) new =
    (now : Known) × (Learns setting step.request step.before step.answer step.after old now
    × AreLearned setting now steps new)

-- a file was opened, and the opening added these events to the history. The file held the text of
-- the summary of this knowledge
pub record HoldsKnown (events : Reading → List Event) (before after : SessionView) (known : Known)
    : Type 0 where
  pub read : Reading
  pub asked : after.history ≡ before.history ++ events read
  pub sent : State
  pub holds : HoldsState dks_2 most_bytes read.held sent
  pub of : IsKnown known sent

-- if the request is `merge` or `renew`, the file held the text of a summary
abbrev pub ReceivesKnown : Setting → RequestView → SessionView → SessionView → Type 0
ReceivesKnown setting (show_request query) before after = ⊤
ReceivesKnown setting renew_request before after =
    (known : Known) × HoldsKnown (renewing setting.name) before after known
ReceivesKnown setting (take_request file) before after = ⊤
ReceivesKnown setting (merge_request other) before after =
    (known : Known) × HoldsKnown (events_of other) before after known
ReceivesKnown setting (horizon_request day) before after = ⊤
ReceivesKnown setting save_request before after = ⊤

-- if the line's request succeeded and is `merge` or `renew`, the file held the text of a summary
abbrev pub HearsKnown : Setting → Option RequestView → SessionView → AnswerView → SessionView → Type 0
HearsKnown setting (Some request) before (done_with text) after =
    ReceivesKnown setting request before after
HearsKnown setting (Some request) before (refused_for fault) after = ⊤
HearsKnown setting (Some request) before no_request after = ⊤
HearsKnown setting None before answer after = ⊤

-- in each of these steps, every file that `merge` or `renew` read held the text of a summary
abbrev pub AllHearKnown : Setting → List Step → Type 0
AllHearKnown setting [] = ⊤
AllHearKnown setting (step ∷ steps) =
    HearsKnown setting step.request step.before step.answer step.after × AllHearKnown setting steps

-- a draft with the text of the summary of this knowledge replaced the state's file
pub record PlacesKnown (setting : Setting) (before after : SessionView) (known : Known) : Type 0 where
  pub text : List ℕ
  pub good : IsGoodKnown dks_2 known
  pub is : IsMessageOf dks_2 known text
  pub asked : after.history ≡ before.history ++ drafted setting.name before.look
      ∷ placed setting.name (named_if setting.names_bytes text) ∷ looked setting.name ∷ []

-- `save` was refused for this fault. Either it stored nothing: no draft was made, or the draft was
-- discarded. Or a device failed while a draft replaced the state's file, and `MayBe` says which text
-- the draft holds. In that case the file holds either that text or what it held before
abbrev pub IsUnsaved : Setting → SessionView → SessionView → OfficeFault → Type 0 → Type 0
IsUnsaved setting before after fault MayBe =
    IsUndrafted setting.name before.look before.history after.history
    ⊎ (IsDropped setting.name before.look before.history after.history
    ⊎ ((fault ≡ Sink) × MayBe))

-- replacing the state's file failed, and the draft holds the text of the summary of this knowledge
pub record MayPlaceKnown (setting : Setting) (before after : SessionView) (known : Known) : Type 0 where
  pub text : List ℕ
  pub good : IsGoodKnown dks_2 known
  pub is : IsMessageOf dks_2 known text
  pub asked : IsUnplaced setting.names_bytes setting.name before.look text before.history
      after.history

-- the named file was opened and held the text of an extract. The state gained this extract and
-- nothing else
pub record GainsFile (name : Text) (before after : SessionView) (gains : List Gain) : Type 0 where
  pub read : Reading
  pub asked : after.history ≡ before.history ++ events_of name read
  pub file : List (List ℕ)
  pub holds : HoldsFile read.held file
  pub gains_are : gains ≡ file_gained file ∷ []

-- a file was opened, and the opening added these events to the history. The file held a version in
-- `earlier`. The state gained this version and nothing else
pub record GainsVersion (events : Reading → List Event) (earlier : List Text) (before after : SessionView)
    (gains : List Gain) : Type 0 where
  pub read : Reading
  pub asked : after.history ≡ before.history ++ events read
  pub number : ℕ
  pub holds : HoldsVersion earlier read.held number
  pub gains_are : gains ≡ version_gained number ∷ []

-- this is what the state gained by a request that succeeded: a file, a version in `earlier`, a
-- horizon, or nothing
abbrev pub GainsDone : Setting → List Text → RequestView → SessionView → SessionView → List Gain → Type 0
GainsDone setting earlier (show_request query) before after gains = gains ≡ []
GainsDone setting earlier renew_request before after gains =
    GainsVersion (renewing setting.name) earlier before after gains
GainsDone setting earlier (take_request file) before after gains =
    GainsFile file before after gains
GainsDone setting earlier (merge_request other) before after gains =
    GainsVersion (events_of other) earlier before after gains
GainsDone setting earlier (horizon_request day) before after gains =
    gains ≡ horizon_gained day ∷ []
GainsDone setting earlier save_request before after gains = gains ≡ []

-- this is what the state gained by a line: nothing, unless the line is a request that succeeded
abbrev pub GainsAsked : Setting → List Text → Option RequestView → SessionView → AnswerView → SessionView
    → List Gain → Type 0
GainsAsked setting earlier (Some request) before (done_with text) after gains =
    GainsDone setting earlier request before after gains
GainsAsked setting earlier (Some request) before (refused_for fault) after gains = gains ≡ []
GainsAsked setting earlier (Some request) before no_request after gains = gains ≡ []
GainsAsked setting earlier None before answer after gains = gains ≡ []

-- this is what the state gained by these steps, in order. Contracts can say which bytes were in
-- each file that `take`, `merge` or `renew` read. Each file that `merge` or `renew` read held a
-- version in `earlier`
abbrev pub GainedBy : Setting → List Text → List Step → List Gain → Type 0
GainedBy setting earlier [] gains = gains ≡ []
GainedBy setting earlier (step ∷ steps) gains = (now : List Gain) × ((more : List Gain)
    × (GainsAsked setting earlier step.request step.before step.answer step.after now
    × (GainedBy setting earlier steps more × (gains ≡ now ++ more))))

-- a draft replaced the state's file. The draft holds the text of a state that was read from version
-- number `own` of `earlier`, and that then gained `gains`
pub record IsPlaced (setting : Setting) (earlier : List Text) (own : ℕ) (gains : List Gain)
    (before after : SessionView) : Type 0 where
  pub text : Text
  pub saved : IsSaved earlier own gains text
  pub asked : after.history ≡ before.history ++ drafted setting.name before.look
      ∷ placed setting.name (named_if setting.names_bytes text) ∷ looked setting.name ∷ []

-- replacing the state's file failed. The draft holds the text of a state that was read from version
-- number `own` of `earlier`, and that then gained `gains`
pub record MayBePlaced (setting : Setting) (earlier : List Text) (own : ℕ) (gains : List Gain)
    (before after : SessionView) : Type 0 where
  pub text : Text
  pub saved : IsSaved earlier own gains text
  pub asked : IsUnplaced setting.names_bytes setting.name before.look text before.history
      after.history

-- there is a session with a point at which the desk has this knowledge and this state
pub record KnowsAt (setting : Setting) (known : Known) (state : State) : Type 0 where
  pub start : Known
  pub first : SessionView
  pub begins : IsKnown start first.desk.state
  pub steps : List Step
  pub last : SessionView
  pub are : AreSteps setting first steps last
  pub learned : AreLearned setting start steps known
  pub has : last.desk.state ≡ state

-- this text shows a train's schedule, or says that the train has no schedule that day. A schedule
-- that is shown came from a known file. If there is a plain table of the known files, the schedule
-- is also the one chosen from this table for the train on that day
pub record IsTrainOf (known : Known) (uid : List ℕ) (day : ℕ) (text : List ℕ) : Type 0 where
  pub found : Option Stamped
  pub text_is : text ≡ train_text uid day found
  pub came : (it : Stamped) → found ≡ Some it → CameFrom known.files it
  pub plain : (table : Table) → IsPlainTable known.files table
      → IsChosenOn table uid day (option_map (λ (it : Stamped). it.schedule) found)
