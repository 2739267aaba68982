-- The chosen schedule and the chosen association can be computed by a walk over rows.
use Rattle.cif_laws.proofs.Common.{◌≡◌, ℕ, List, [], ◌∷◌, ◌++◌, refl, None, append-nil, rules, Option, on, IsTotalOrder, on_total, filter_map-append, Key}
use Rattle.cif_laws.proofs.Common.{association_key, schedule_key, Body, association_body, schedule_body, Row, schedule_choice_cmp, association_choice_cmp}
use Rattle.cif_laws.proofs.Common.{Group, Train}
use Rattle.docker_laws.specs.LiveRows.{Link, schedule_of, association_of, schedules_in, associations_in, is_running, is_linked}
use Rattle.docker_laws.specs.ChoiceWalk.{IsChosenSoFar, next_chosen, IsLinkSoFar, next_link}
use Rattle.docker_laws.proofs.dockers.BestSoFar.{best_of_none, best_more}
use Rattle.docker_laws.proofs.dockers.OneChoice.{schedule_choice_total, association_choice_total}

train_total : IsTotalOrder (on (λ (train : Train). train.key) schedule_choice_cmp)
train_total = on_total (λ (train : Train). train.key) schedule_choice_total

link_total : IsTotalOrder (on (λ (link : Link). link.key) association_choice_cmp)
link_total = on_total (λ (link : Link). link.key) association_choice_total

module _ (uid : List ℕ) (day : ℕ) where
  -- if there are no rows, no schedule is chosen
  pub none_chosen : IsChosenSoFar uid day [] None
  none_chosen = best_of_none train_total (is_running uid day)

  trains_more : (rows : List Row) (row : Row) → schedules_in (rows ++ row ∷ []) ≡ schedules_in rows ++ schedules_in (row ∷ [])
  trains_more rows row = filter_map-append (λ (r : Row). schedule_of r.0 r.1) rows (row ∷ [])

  other_row : (rows : List Row) (row : Row) (found : Option Train) → schedules_in (row ∷ []) ≡ [] → IsChosenSoFar uid day rows found
      → IsChosenSoFar uid day (rows ++ row ∷ []) found
  other_row = search (rules, trains_more, append-nil)

  -- `next_chosen` computes the chosen schedule after one more row is appended to the rows
  pub chosen_more : (rows : List Row) (key : Key) (body : Body) (found : Option Train) → IsChosenSoFar uid day rows found
      → IsChosenSoFar uid day (rows ++ (key, body) ∷ []) (next_chosen uid day found key body)
  chosen_more rows (schedule_key key) (schedule_body lines) found best = search (rules, trains_more, best_more, train_total)
  chosen_more rows key body found best = other_row rows (key, body) found refl best

module _ (group : Group) (day : ℕ) where
  -- if there are no rows, no association is chosen
  pub none_linked : IsLinkSoFar group day [] None
  none_linked = best_of_none link_total (is_linked group day)

  links_more : (rows : List Row) (row : Row) → associations_in (rows ++ row ∷ []) ≡ associations_in rows ++ associations_in (row ∷ [])
  links_more rows row = filter_map-append (λ (r : Row). association_of r.0 r.1) rows (row ∷ [])

  other_link_row : (rows : List Row) (row : Row) (found : Option Link) → associations_in (row ∷ []) ≡ [] → IsLinkSoFar group day rows found
      → IsLinkSoFar group day (rows ++ row ∷ []) found
  other_link_row = search (rules, links_more, append-nil)

  -- `next_link` computes the chosen association after one more row is appended to the rows
  pub link_more : (rows : List Row) (key : Key) (body : Body) (found : Option Link) → IsLinkSoFar group day rows found
      → IsLinkSoFar group day (rows ++ (key, body) ∷ []) (next_link group day found key body)
  link_more rows (association_key key) (association_body line) found best = search (rules, links_more, best_more, link_total)
  link_more rows key body found best = other_link_row rows (key, body) found refl best
