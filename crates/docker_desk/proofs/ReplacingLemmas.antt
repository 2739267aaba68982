-- A draft of a desk replaces bytes that the desk has read or has placed itself.
use Rattle.cif_laws.proofs.Common.{◌≡◌, ℕ, ◌+◌, List, [], ◌∷◌, ◌++◌, length, inl, inr, ap, sym, subst, ◌∙◌, append_assoc, length-append, rules}
use Rattle.docker_host.specs.Asked.{IsUnplaced}
use Rattle.docker_host.specs.History.{Event, Text, closed, drafted, looked, opened}
use Rattle.docker_host.specs.Standing.{IsStandingOf, IsStill, Standing}
use Rattle.docker_host.proofs.StandingLemmas.{happens_at}
use Rattle.docker_desk.specs.Doing.{AreSteps, DoesRequest}
use Rattle.docker_desk.specs.Looking.{IsAfterPlacing, IsBeforeOpening, IsGoodLook, IsOwn, ReplacesOwn}
use Rattle.docker_desk.specs.Replies.{done_with}
use Rattle.docker_desk.specs.Requests.{save_request}
use Rattle.docker_desk.specs.Serving.{BeginsAt}
use Rattle.docker_desk.specs.SessionViews.{SessionView, Setting, Step}
use Rattle.docker_desk.proofs.LookLemmas.{good_first, good_steps}

module _ (standing : Standing) (name : Text) (history : List Event) (look : ℕ) where
  -- if a look directly precedes an opening, and the file has held the same bytes since the look, these
  -- are the bytes that were opened
  pub opened_own : (rest : List Event) (opening : IsBeforeOpening name history look) → IsStandingOf standing (history ++ rest)
      → IsStill standing name look (length history) → standing (length history) name ≡ opening.held
  opened_own rest opening are still =
      let front = opening.earlier ++ looked name ∷ [] in
      let more = closed opening.left ∷ opening.later in
      let cut : history ≡ front ++ opened name opening.held ∷ more =
      opening.whole ∙ sym (append_assoc opening.earlier (looked name ∷ []) (opened name opening.held ∷ more)) in
      let all : history ++ rest ≡ front ++ opened name opening.held ∷ (more ++ rest) =
      ap (λ (es : List Event). es ++ rest) cut ∙ append_assoc front (opened name opening.held ∷ more) rest in
      let at : opening.held ≡ standing (0 + length front) name = happens_at _ _ _ _ _ (subst (IsStandingOf standing) all are) in
      let long : length front ≡ length opening.earlier + 1 = length-append opening.earlier (looked name ∷ []) in
      let longer : length history ≡ length front + length (opened name opening.held ∷ more) =
      ap length cut ∙ length-append front (opened name opening.held ∷ more) in
      let number : look ≡ length opening.earlier = opening.number in
      search rules

  -- if a look directly follows the replacement of a file, and the file has held the same bytes since
  -- the look, these are the bytes of the draft
  pub placed_own : (rest : List Event) (placing : IsAfterPlacing name history look) → IsStandingOf standing (history ++ rest)
      → IsStill standing name look (length history) → standing (length history) name ≡ placing.bytes
  placed_own = search (rules, append_assoc, happens_at, length-append)

  own_bytes : (rest : List Event) → IsGoodLook name history look → IsStandingOf standing (history ++ rest)
      → IsStill standing name look (length history) → IsOwn name history look (standing (length history) name)
  own_bytes rest (inl opening) are still = inl (opening, opened_own rest opening are still)
  own_bytes rest (inr placing) are still = inr (placing, placed_own rest placing are still)

module _ (standing : Standing) (setting : Setting) (first before after : SessionView) (steps : List Step) (old : List Event) where
  -- a draft that is based on the look of a point replaces what the desk has read or placed
  draft_replaces : (last : List Event) → BeginsAt setting.name old first → AreSteps setting first steps before
      → after.history ≡ before.history ++ drafted setting.name before.look ∷ last → IsStandingOf standing after.history
      → ReplacesOwn standing setting before
  draft_replaces last begins are asked stands = record {
    still = still;
    own = own_bytes _ setting.name before.history before.look (drafted setting.name before.look ∷ last)
        (good_steps setting _ before _ (good_first setting _ first begins) are) all still;
  }
    where
      all : IsStandingOf standing (before.history ++ drafted setting.name before.look ∷ last)
      all = subst (IsStandingOf standing) asked stands

      still : IsStill standing setting.name before.look (length before.history)
      still = search (rules, happens_at)

  -- if `save` replaced the state's file, it replaced what the desk has read or placed
  pub save_replaces : (text : List ℕ) → BeginsAt setting.name old first → AreSteps setting first steps before
      → DoesRequest setting save_request before (done_with text) after → IsStandingOf standing after.history
      → ReplacesOwn standing setting before
  save_replaces = search (rules, draft_replaces)

  -- the same as `save_replaces`, for a draft that couldn't be renamed over the file
  pub unplaced_replaces : (text : List ℕ) → BeginsAt setting.name old first → AreSteps setting first steps before
      → IsUnplaced setting.names_bytes setting.name before.look text before.history after.history → IsStandingOf standing after.history
      → ReplacesOwn standing setting before
  unplaced_replaces = search (rules, draft_replaces)
