-- At every point of a session at which nothing is unsaved, the state's file has held the text of the
-- desk's state.
use Rattle.cif_laws.proofs.Common.{◌≡◌, ℕ, ◌+◌, List, [], ◌∷◌, ◌++◌, length, refl, sym, ◌∙◌, ap, subst, append_assoc, append-nil, Some, None, Ok, Err, inl, inr}
use Rattle.cif_laws.proofs.Common.{true≢false, rules, Option, Result, ⊤, Bool, true, false, State, dks_2, state_text}
use Rattle.docker_bytes.specs.SourceRead.{ReadsState}
use Rattle.docker_cmd.specs.Prepared.{most_bytes}
use Rattle.cif_device.specs.Device.{Held}
use Rattle.docker_host.specs.History.{Bytes, Event, Text, closed, drafted, looked, named_if, opened, placed}
use Rattle.docker_host.specs.Standing.{IsStandingOf, IsStill, Standing}
use Rattle.docker_office.specs.declared.fault.OfficeFault.{OfficeFault}
use Rattle.docker_desk.specs.Desk.{DeskView, EndsReceiving, EndsRenewing, EndsSaving, EndsTaking, IsFound, look_by, unsaved_by, unsaved_if}
use Rattle.docker_desk.specs.Reading.{Reading, opening_of}
use Rattle.docker_desk.specs.declared.compared.Compared.{Compared}
use Rattle.docker_desk.specs.declared.compared.Compared.TheVariants as compared
use Rattle.docker_desk.specs.Requests.{RequestView, renew_request, show_request, take_request, merge_request, horizon_request, save_request}
use Rattle.docker_desk.specs.Replies.{AnswerView, refused_for}
use Rattle.docker_desk.specs.SessionViews.{SessionView, Setting, Step}
use Rattle.docker_desk.specs.Doing.{AreSteps, DoesRequest, desk_by}
use Rattle.docker_desk.specs.Looking.{IsOwnText, WasInState}
use Rattle.docker_desk.specs.Serving.{BeginsAt}
use Rattle.docker_desk.proofs.LookLemmas.{grown_unsaved, kept_steps, placing_at}
use Rattle.docker_desk.proofs.ReplacingLemmas.{opened_own, placed_own}

-- the flag isn't set, so it isn't `true`
not_set : (flag : Bool) → flag ≡ true → flag ≡ false → ⊥
not_set flag set clear = let never : true ≡ false = sym set ∙ clear in true≢false never

-- the bytes of a draft are its text
named_text : (names_bytes : Bool) (text : Text) → Held (named_if names_bytes text) text
named_text true text = refl
named_text false text = tt

-- a text that a state's file held is the text of this state
read_text : (held : Bytes) (state : State) → ReadsState dks_2 most_bytes held state → Held held (state_text dks_2 state)
read_text None state reads = tt
read_text (Some bytes) state reads = reads.held ∙ reads.is.is

module _ (name : Text) where
  -- what the desk last read or placed stays so after events are added to the history
  own_more : (old new more : List Event) (look : ℕ) (text : Text) → new ≡ old ++ more → IsOwnText name old look text → IsOwnText name new look text
  own_more old new more look text grown (inl (before, is)) = inl (search (rules, append_assoc), is)
  own_more old new more look text grown (inr (placing, is)) = inr (search (rules, append_assoc), is)

  -- if the look and the state are unchanged, the text of the state is still what the desk last read
  -- or placed
  own_same : (old new more : List Event) (look look_now : ℕ) (state state_now : State) → new ≡ old ++ more → look_now ≡ look → state_now ≡ state
      → IsOwnText name old look (state_text dks_2 state) → IsOwnText name new look_now (state_text dks_2 state_now)
  own_same old new more look look_now state state_now grown same is own = subst (λ (l : ℕ). IsOwnText name new l (state_text dks_2 state_now)) (sym same)
      (subst (λ (s : State). IsOwnText name new look (state_text dks_2 s)) (sym is) (own_more _ _ _ _ _ grown own))

  -- a text that was read after the look is the desk's own
  own_opened : (old new : List Event) (held left : Bytes) (look : ℕ) (state read : State)
      → new ≡ old ++ looked name ∷ opened name held ∷ closed left ∷ [] → look ≡ length old → ReadsState dks_2 most_bytes held read
      → Held held (state_text dks_2 state) → IsOwnText name new look (state_text dks_2 state)
  own_opened old new held left look state read grown number reads is =
      inl (record { earlier = old; held = held; left = left; later = []; whole = grown; number = number; state = read; reads = reads }, is)

  -- the text of a draft that replaced the file is the desk's own
  own_placed : (old new : List Event) (bytes : Bytes) (from look : ℕ) (text : Text)
      → new ≡ old ++ drafted name from ∷ placed name bytes ∷ looked name ∷ [] → look ≡ length old + 2 → Held bytes text → IsOwnText name new look text
  own_placed old new bytes from look text grown number is = inr (placing_at name old new bytes from look grown number, is)

  -- after `take` or `merge`: if it succeeded there are unsaved changes, and if it was refused the
  -- desk is unchanged
  own_joined : (result : Result ⊤ OfficeFault) (old new more : List Event) (look look_now : ℕ) (own after : DeskView)
      → new ≡ old ++ more → look_now ≡ look → after.unsaved ≡ unsaved_by result own.unsaved
      → ((fault : OfficeFault) → result ≡ Err fault → after.state ≡ own.state)
      → (own.unsaved ≡ false → IsOwnText name old look (state_text dks_2 own.state)) → after.unsaved ≡ false
      → IsOwnText name new look_now (state_text dks_2 after.state)
  own_joined (Ok done) old new more look look_now own after grown same flag state saved clear = absurd (not_set after.unsaved flag clear)
  own_joined (Err fault) old new more look look_now own after grown same flag state saved clear =
      own_same old new more look look_now own.state after.state grown same (state fault refl) (saved (sym flag ∙ clear))

  own_found : (found : Compared) (old new : List Event) (read : Reading) (look : ℕ) (after : DeskView) (received : State)
      → new ≡ old ++ looked name ∷ opening_of name (Some read) → look ≡ length old → ReadsState dks_2 most_bytes read.held received
      → IsFound found after.state read → after.unsaved ≡ unsaved_if found → after.unsaved ≡ false → IsOwnText name new look (state_text dks_2 after.state)
  own_found compared.Same old new read look after received grown number reads is flag clear = search (rules, own_opened)
  own_found _ old new read look after received grown number reads is flag clear = absurd (not_set after.unsaved flag clear)

  -- after `renew`: nothing is unsaved only if the file held the text of the new state, or if `renew`
  -- was refused and the desk is unchanged
  own_renewed : (read : Option Reading) (result : Result Compared OfficeFault) (old new : List Event) (own after : DeskView) (look look_now : ℕ)
      → new ≡ old ++ looked name ∷ opening_of name read → EndsRenewing own after result read → look_now ≡ look_by result (length old) look
      → (own.unsaved ≡ false → IsOwnText name old look (state_text dks_2 own.state)) → after.unsaved ≡ false
      → IsOwnText name new look_now (state_text dks_2 after.state)
  own_renewed (Some read) (Ok found) old new own after look look_now grown ends same saved clear = search (rules, own_found)
  own_renewed None (Ok found) old new own after look look_now grown ends same saved clear = absurd ends.0.0
  own_renewed read (Err fault) old new own after look look_now grown ends same saved clear =
      own_same old new (looked name ∷ opening_of name read) look look_now own.state after.state grown same (ap (λ (desk : DeskView). desk.state) ends.1)
      (saved (sym (ap (λ (desk : DeskView). desk.unsaved) ends.1) ∙ clear))

  -- after a `save` that failed, the desk and its look are unchanged
  own_kept : (old new more : List Event) (own after : DeskView) (look look_now : ℕ) → new ≡ old ++ more → look_now ≡ look → after ≡ own
      → (own.unsaved ≡ false → IsOwnText name old look (state_text dks_2 own.state)) → after.unsaved ≡ false
      → IsOwnText name new look_now (state_text dks_2 after.state)
  own_kept old new more own after look look_now grown same is saved clear = own_same _ _ _ _ _ _ _ grown same (ap (λ (desk : DeskView). desk.state) is)
      (saved (sym (ap (λ (desk : DeskView). desk.unsaved) is) ∙ clear))

  own_saved : (result : Result ⊤ OfficeFault) (names_bytes : Bool) (old new : List Event) (from : ℕ) (own after : DeskView) (look look_now : ℕ)
      → EndsSaving names_bytes name from (state_text dks_2 own.state) old new result → look_now ≡ look_by result (length old + 2) look
      → after ≡ desk_by result own → (own.unsaved ≡ false → IsOwnText name old look (state_text dks_2 own.state)) → after.unsaved ≡ false
      → IsOwnText name new look_now (state_text dks_2 after.state)
  own_saved (Ok done) names_bytes old new from own after look look_now grown same is saved clear =
      subst (λ (s : State). IsOwnText name new look_now (state_text dks_2 s)) (sym (ap (λ (desk : DeskView). desk.state) is))
      (search (rules, own_placed, named_text))
  own_saved (Err fault) names_bytes old new from own after look look_now failed same is saved clear =
      let grown = grown_unsaved name names_bytes (state_text dks_2 own.state) old new fault from failed in
      own_kept old new grown.0 own after look look_now grown.1 same is saved clear

module _ (setting : Setting) where
  -- if nothing is unsaved at this point, the state's file has held the text of the desk's state
  abbrev IsSaved : SessionView → Type 0
  IsSaved point = point.desk.unsaved ≡ false → WasInState setting point

  taken_same : (own after : State) (result : Result ⊤ OfficeFault) (read : Option Reading) → EndsTaking own after result read → (fault : OfficeFault)
      → result ≡ Err fault → after ≡ own
  taken_same = search rules

  received_same : (own after : State) (result : Result ⊤ OfficeFault) (read : Option Reading) → EndsReceiving own after result read → (fault : OfficeFault)
      → result ≡ Err fault → after ≡ own
  received_same = search rules

  -- each request keeps this true
  saved_request : (request : RequestView) (before after : SessionView) (answer : AnswerView) → DoesRequest setting request before answer after → IsSaved before
      → IsSaved after
  saved_request (show_request query) before after answer does saved = subst IsSaved (sym does.1) saved
  saved_request renew_request before after answer does saved = search (rules, own_renewed)
  saved_request (take_request file) before after answer does saved = search (rules, own_joined, taken_same)
  saved_request (merge_request other) before after answer does saved = search (rules, own_joined, received_same)
  saved_request (horizon_request day) before after answer does saved = search (rules, not_set)
  saved_request save_request before after answer does saved = search (rules, own_saved)

  -- at the beginning of a session, the file has held the text of the desk's state
  saved_first : (old : List Event) (first : SessionView) → BeginsAt setting.name old first → IsSaved first
  saved_first old first begins clear = own_opened _ _ _ _ _ _ _ first.desk.state begins.asked begins.look begins.state (read_text _ _ begins.state)

  -- at every point at which nothing is unsaved, the file has held the text of the desk's state
  pub was_in_state : (old : List Event) (first last : SessionView) (steps : List Step) → BeginsAt setting.name old first → AreSteps setting first steps last
      → last.desk.unsaved ≡ false → WasInState setting last
  was_in_state old first last steps begins are = kept_steps setting IsSaved saved_request first last steps (saved_first old first begins) are

  -- if the file's bytes have stayed the same since the look, the file holds that text
  pub is_in_state : (standing : Standing) (point : SessionView) → WasInState setting point → IsStandingOf standing point.history
      → IsStill standing setting.name point.look (length point.history)
      → Held (standing (length point.history) setting.name) (state_text dks_2 point.desk.state)
  is_in_state standing point (inl (opening, is)) stands still =
      rw (opened_own standing setting.name point.history point.look [] opening (rw append-nil stands) still) is
  is_in_state standing point (inr (placing, is)) stands still =
      rw (placed_own standing setting.name point.history point.look [] placing (rw append-nil stands) still) is

  -- a `renew` that is refused changes neither the desk nor its look
  pub refused_renewal : (before after : SessionView) (fault : OfficeFault) → DoesRequest setting renew_request before (refused_for fault) after
      → (after.desk ≡ before.desk) × (after.look ≡ before.look)
  refused_renewal = search rules
