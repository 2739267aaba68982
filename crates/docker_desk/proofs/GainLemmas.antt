-- What the state gains in each step of a session, and in all steps together.
use Rattle.cif_laws.proofs.Common.{◌≡◌, ℕ, List, [], ◌∷◌, ◌++◌, refl, sym, ap, subst, Some, arith, rules, Option, most_records, State, dks_2, state_text, IsDay}
use Rattle.docker_cmd.specs.Prepared.{most_bytes}
use Rattle.docker_cmd.specs.Saved.{AreGained, Gain, Gains, HoldsVersion, IsSaved}
use Rattle.docker_host.specs.History.{Bytes, Event, Text}
use Rattle.docker_bytes.specs.SourceRead.{JoinsState}
use Rattle.docker_office.specs.Office.{TakesFile}
use Rattle.docker_office.specs.declared.fault.OfficeFault.{OfficeFault}
use Rattle.docker_desk.specs.Desk.{EndsReceiving, EndsTaking}
use Rattle.docker_desk.specs.Doing.{AreSteps, DoesAsked, DoesRequest, Joins, Renews, Saves}
use Rattle.docker_desk.specs.Learning.{GainedBy, GainsAsked, GainsDone, GainsFile, GainsVersion, IsPlaced, IsUnsaved, MayBePlaced, renewing}
use Rattle.docker_desk.specs.SessionViews.{SessionView, Setting, Step}
use Rattle.docker_desk.specs.Reading.{Reading, StopsInFile, StopsInState, events_of}
use Rattle.docker_desk.specs.Replies.{AnswerView, done_with, refused_for}
use Rattle.docker_desk.specs.Requests.{RequestView, horizon_request}
use Rattle.docker_desk.specs.Serving.{BeginsAt}
use Rattle.docker_desk.proofs.HeardLemmas.{held_after_look, held_once, joined_read, renewed_read, unsaved_by}
use Rattle.docker_desk.proofs.KnownLemmas.{day_asked, never_unasked, same_refused, same_saved}

module _ (earlier : List (List ℕ)) where
  -- if a state is unchanged, the list of what it gained is empty
  gained_none : (gains : List Gain) (old new : State) → gains ≡ [] → new ≡ old → AreGained earlier gains old new
  gained_none gains old new none same = subst (λ g. AreGained earlier g old new) (sym none) same

  -- if a state gained one thing, the list of what it gained has only this thing
  gained_one : (gain : Gain) (gains : List Gain) (old new : State) → gains ≡ gain ∷ [] → Gains earlier gain old new → AreGained earlier gains old new
  gained_one gain gains old new one gained = subst (λ g. AreGained earlier g old new) (sym one) (new, gained, refl)

  -- if a state gained the list `gains` and then the list `more`, it gained the list `gains ++ more`
  gained_both : (gains more : List Gain) (old now new : State) → AreGained earlier gains old now → AreGained earlier more now new
      → AreGained earlier (gains ++ more) old new
  gained_both [] more old now new first second = subst (λ s. AreGained earlier more s new) first second
  gained_both (gain ∷ gains) more old now new first second = (first.0, first.1, gained_both gains more first.0 now new first.2 second)

  module _ (setting : Setting) (before after : SessionView) where
    -- if `take` succeeded, the state gained the file
    gained_file : (file : Text) (text : List ℕ) (gains : List Gain) → Joins file StopsInFile EndsTaking before (done_with text) after
        → GainsFile file before after gains → AreGained earlier gains before.desk.state after.desk.state
    gained_file file text gains does gained =
        let joined = joined_read file StopsInFile EndsTaking before after text (λ old new none. none) does in
        gained_one _ _ _ _ gained.gains_are (
          gained.read.held,
          gained.holds,
          subst (λ (bytes : Bytes). TakesFile most_records bytes before.desk.state after.desk.state)
              (held_once _ _ _ _ _ joined.1.0 gained.asked) joined.1.1.takes,
        )

    -- if a state was received from a file, the desk's state gained the version that the file held
    gained_state : (events : Reading → List Event) (gains : List Gain) (held : Bytes) (gained : GainsVersion events earlier before after gains)
        → held ≡ gained.read.held → JoinsState dks_2 most_bytes held before.desk.state after.desk.state
        → AreGained earlier gains before.desk.state after.desk.state
    gained_state = search (rules, gained_one)

    gained_merged : (other : Text) (text : List ℕ) (gains : List Gain) → Joins other StopsInState EndsReceiving before (done_with text) after
        → GainsVersion (events_of other) earlier before after gains → AreGained earlier gains before.desk.state after.desk.state
    gained_merged other text gains does gained =
        let joined = joined_read other StopsInState EndsReceiving before after text (λ old new none. none) does in
        gained_state _ gains _ gained (held_once _ before.history _ joined.0 _ joined.1.0 gained.asked) joined.1.1

    gained_renewed : (text : List ℕ) (gains : List Gain) → Renews setting before (done_with text) after
        → GainsVersion (renewing setting.name) earlier before after gains → AreGained earlier gains before.desk.state after.desk.state
    gained_renewed text gains does gained =
        let joined = renewed_read setting before after text does in
        gained_state _ gains _ gained (held_after_look _ before.history _ joined.0 _ joined.1.0 gained.asked) joined.1.1

    -- if a request succeeded, the state gained what the request adds: a file, a version, a horizon,
    -- or nothing
    gained_done : (request : RequestView) (text : List ℕ) (gains : List Gain) → ((day : ℕ) → request ≡ horizon_request day → IsDay day)
        → DoesRequest setting request before (done_with text) after → GainsDone setting earlier request before after gains
        → AreGained earlier gains before.desk.state after.desk.state
    gained_done = search (rules, gained_none, gained_renewed, gained_file, gained_merged, gained_one, same_saved)

    -- after a line is answered, the state has gained what the line's request adds. The state has
    -- gained nothing if the request was refused, or if the line isn't a request
    gained_asked : (request : Option RequestView) (answer : AnswerView) (gains : List Gain) → ((day : ℕ) → request ≡ Some (horizon_request day) → IsDay day)
        → DoesAsked setting request before answer after → GainsAsked setting earlier request before answer after gains
        → AreGained earlier gains before.desk.state after.desk.state
    gained_asked = search (rules, gained_none, gained_done, same_refused, never_unasked)

  module _ (setting : Setting) where
    -- after a list of steps, the state has gained what the requests of these steps add, in order
    gained_steps : (first last : SessionView) (steps : List Step) (gains : List Gain) → AreSteps setting first steps last → GainedBy setting earlier steps gains
        → AreGained earlier gains first.desk.state last.desk.state
    gained_steps first last [] gains are gained = gained_none gains _ _ gained (ap (λ (m : SessionView). m.desk.state) are)
    gained_steps first last (step ∷ steps) gains are gained =
        grind (arith, gained_both, gained_asked, day_asked, (gained_steps step.after last steps gained.1.0 are.1.1 gained.1.1.1.0))

    -- the text that `save` writes to a draft, if STATE held version number `own` of `earlier` when
    -- the session began
    saved_text : (first before : SessionView) (steps : List Step) (old : List Event) (own : ℕ) (gains : List Gain)
        → (begins : BeginsAt setting.name old first) → HoldsVersion earlier begins.held own → AreSteps setting first steps before
        → GainedBy setting earlier steps gains → IsSaved earlier own gains (state_text dks_2 before.desk.state)
    saved_text = search (rules, gained_steps)

    -- suppose that STATE held version number `own` of `earlier` when the session began. Then `save`
    -- stores the text of a state that was read from that version, and that then gained what the
    -- desk's state gained in the steps before `save`
    pub places_version : (first before after : SessionView) (steps : List Step) (old : List Event) (own : ℕ) (gains : List Gain) (answer : List ℕ)
        → (begins : BeginsAt setting.name old first) → HoldsVersion earlier begins.held own → AreSteps setting first steps before
        → GainedBy setting earlier steps gains → Saves setting before (done_with answer) after → IsPlaced setting earlier own gains before after
    places_version first before after steps old own gains answer begins holds are gained does = record {
      text = state_text dks_2 before.desk.state;
      saved = saved_text first before steps old own gains begins holds are gained;
      asked = search rules;
    }

    -- the same, if `save` was refused
    pub may_place_version : (first before after : SessionView) (steps : List Step) (old : List Event) (own : ℕ) (gains : List Gain) (fault : OfficeFault)
        → (begins : BeginsAt setting.name old first) → HoldsVersion earlier begins.held own → AreSteps setting first steps before
        → GainedBy setting earlier steps gains → Saves setting before (refused_for fault) after
        → IsUnsaved setting before after fault (MayBePlaced setting earlier own gains before after)
    may_place_version first before after steps old own gains fault begins holds are gained does = unsaved_by _ before _ fault _ (λ unplaced. record {
      text = state_text dks_2 before.desk.state;
      saved = saved_text first _ steps _ own _ begins holds are gained;
      asked = unplaced;
    }) does
