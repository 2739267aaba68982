-- At every point of a session, the look on which the next draft is based is good. It comes directly
-- before an opening of the state's file, or directly after a draft replaced that file.
use Rattle.cif_laws.proofs.Common.{◌≡◌, ℕ, ◌+◌, List, [], ◌∷◌, ◌++◌, length, sym, ◌∙◌, subst, arith, append_assoc, length-append, Some, None, Ok, Err, inl, inr}
use Rattle.cif_laws.proofs.Common.{rules, Option, Result, ⊤, Bool, State, dks_2}
use Rattle.docker_bytes.specs.SourceRead.{ReadsState}
use Rattle.docker_cmd.specs.Prepared.{most_bytes}
use Rattle.docker_host.specs.History.{Bytes, Event, Text, closed, drafted, dropped, looked, named_if, opened, placed, undrafted, unplaced}
use Rattle.docker_office.specs.declared.fault.OfficeFault.{OfficeFault}
use Rattle.docker_office.specs.declared.fault.OfficeFault.TheVariants as office
use Rattle.docker_desk.specs.Desk.{DeskView, EndsRenewing, EndsSaving, look_by}
use Rattle.docker_desk.specs.Reading.{Reading, opening_of}
use Rattle.docker_desk.specs.declared.compared.Compared.{Compared}
use Rattle.docker_desk.specs.Requests.{RequestView, show_request, renew_request, take_request, merge_request, horizon_request, save_request}
use Rattle.docker_desk.specs.Replies.{AnswerView}
use Rattle.docker_desk.specs.SessionViews.{SessionView, Setting, Step}
use Rattle.docker_desk.specs.Doing.{AreSteps, DoesAsked, DoesRequest}
use Rattle.docker_desk.specs.Looking.{IsAfterPlacing, IsGoodLook}
use Rattle.docker_desk.specs.Serving.{BeginsAt}

module _ (name : Text) where
  -- a look that is good (`IsGoodLook`) is still good after events are added to the history
  pub good_more : (old new more : List Event) (look : ℕ) → new ≡ old ++ more → IsGoodLook name old look → IsGoodLook name new look
  good_more = search (rules, append_assoc)

  -- a look that is directly followed by an opening of the file is good, if the file held the text of
  -- a state
  good_opened : (old new : List Event) (held left : Bytes) (look : ℕ) (state : State)
      → new ≡ old ++ looked name ∷ opened name held ∷ closed left ∷ [] → look ≡ length old → ReadsState dks_2 most_bytes held state
      → IsGoodLook name new look
  good_opened = search rules

  -- the replacement of the file by a draft, directly before the look
  abbrev pub placing_at : (old new : List Event) (bytes : Bytes) (from look : ℕ)
      → new ≡ old ++ drafted name from ∷ placed name bytes ∷ looked name ∷ [] → look ≡ length old + 2 → IsAfterPlacing name new look
  placing_at old new bytes from look grown number = record {
    earlier = old ++ drafted name from ∷ [];
    bytes = bytes;
    later = [];
    whole = grown ∙ sym (append_assoc old (drafted name from ∷ []) (placed name bytes ∷ looked name ∷ []));
    number = (let size = length-append old (drafted name from ∷ []) in omega (arith, size, number));
  }

  -- a look right after a draft replaced the file is good
  good_placed : (old new : List Event) (bytes : Bytes) (from look : ℕ) → new ≡ old ++ drafted name from ∷ placed name bytes ∷ looked name ∷ []
      → look ≡ length old + 2 → IsGoodLook name new look
  good_placed old new bytes from look grown number = inr (placing_at old new bytes from look grown number)

  -- if the look's position is unchanged, the look is still good after events are added to the
  -- history
  good_same : (old new more : List Event) (look look_now : ℕ) → new ≡ old ++ more → look_now ≡ look → IsGoodLook name old look
      → IsGoodLook name new look_now
  good_same old new more look look_now grown same good = subst (IsGoodLook name new) (sym same) (good_more old new more look grown good)

  -- after `renew`, the look is still good
  good_renewed : (old new : List Event) (read : Option Reading) (result : Result Compared OfficeFault) (own after : DeskView) (look look_now : ℕ)
      → new ≡ old ++ looked name ∷ opening_of name read → EndsRenewing own after result read → look_now ≡ look_by result (length old) look
      → IsGoodLook name old look → IsGoodLook name new look_now
  good_renewed old new (Some read) (Ok found) own after look look_now grown ends same good = search (rules, good_opened)
  good_renewed old new None (Ok found) own after look look_now grown ends same good = absurd ends.0.0
  good_renewed old new read (Err fault) own after look look_now grown ends same good = search (rules, good_same)

  -- a `save` that failed only added events to the history
  pub grown_unsaved : (names_bytes : Bool) (text : List ℕ) (old new : List Event) (fault : OfficeFault) (from : ℕ)
      → EndsSaving names_bytes name from text old new (Err fault) → (more : List Event) × (new ≡ old ++ more)
  grown_unsaved names_bytes text old new office.Sink from (inl grown) = (undrafted name from ∷ [], grown)
  grown_unsaved names_bytes text old new office.Sink from (inr (inl grown)) = (drafted name from ∷ dropped name ∷ [], grown)
  grown_unsaved names_bytes text old new office.Sink from (inr (inr grown)) =
      (drafted name from ∷ unplaced name (named_if names_bytes text) ∷ [], grown)
  grown_unsaved names_bytes text old new office.Memory from grown = (undrafted name from ∷ [], grown)
  grown_unsaved names_bytes text old new _ from never = absurd never

  -- after `save`, the look is still good
  good_saved : (names_bytes : Bool) (text : List ℕ) (old new : List Event) (result : Result ⊤ OfficeFault) (from look look_now : ℕ)
      → EndsSaving names_bytes name from text old new result → look_now ≡ look_by result (length old + 2) look
      → IsGoodLook name old look → IsGoodLook name new look_now
  good_saved names_bytes text old new (Ok done) from look look_now grown same good = search (rules, good_placed)
  good_saved names_bytes text old new (Err fault) from look look_now failed same good =
      let grown = grown_unsaved names_bytes text old new fault from failed in good_same old new grown.0 look look_now grown.1 same good

-- a property of points that each request keeps is kept by all steps of a session
module _ (setting : Setting) (P : SessionView → Type 0)
    (each : (request : RequestView) (before after : SessionView) (answer : AnswerView) → DoesRequest setting request before answer after
    → P before → P after) where
  kept_asked : (request : Option RequestView) (before after : SessionView) (answer : AnswerView) → DoesAsked setting request before answer after
      → P before → P after
  kept_asked (Some request) before after answer does holds = each request before after answer does holds
  kept_asked None before after answer does holds = subst P (sym does.1) holds

  pub kept_steps : (first last : SessionView) (steps : List Step) → P first → AreSteps setting first steps last → P last
  kept_steps first last [] holds are = subst P (sym are) holds
  kept_steps first last (step ∷ steps) holds are = kept_steps step.after last steps
      (kept_asked step.request step.before step.after step.answer are.1.0.does (subst P (sym are.0) holds)) are.1.1

module _ (setting : Setting) where
  -- at this point of a session, the look on which the next draft is based is good
  abbrev pub LooksWell : SessionView → Type 0
  LooksWell session_view = IsGoodLook setting.name session_view.history session_view.look

  -- after each request, the look is still good
  good_request : (request : RequestView) (before after : SessionView) (answer : AnswerView) → DoesRequest setting request before answer after → LooksWell before
      → LooksWell after
  good_request (show_request query) before after answer does good = subst LooksWell (sym does.1) good
  good_request renew_request before after answer does good = search (rules, good_renewed)
  good_request (take_request file) before after answer does good = search (rules, good_same)
  good_request (merge_request other) before after answer does good = search (rules, good_same)
  good_request (horizon_request day) before after answer does good = search rules
  good_request save_request before after answer does good = search (rules, good_saved)

  -- after any list of steps, the look is still good
  pub good_steps : (first last : SessionView) (steps : List Step) → LooksWell first → AreSteps setting first steps last → LooksWell last
  good_steps = kept_steps setting LooksWell good_request

  -- at the beginning of a session, the look is good
  pub good_first : (old : List Event) (first : SessionView) → BeginsAt setting.name old first → LooksWell first
  good_first = search (rules, good_opened)
