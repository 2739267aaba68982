-- On each day from the third day after a horizon, a table has the same detailed dockers before and
-- after its rows lapse with the horizon.
use Rattle.cif_laws.proofs.Common.{◌≡◌, ℕ, ◌+◌, ◌≤◌, List, [], ◌∷◌, ◌++◌, ap, sym, ◌∙◌, inl, inr, ◌↔◌, codes, AllZip, flat_map, zip, no_end_number, spaces}
use Rattle.cif_laws.proofs.Common.{day_text, tiploc_key, IsDockerList, Table, lapse_table, DockerLine, ended, last_line, description_in, IsOrigin}
use Rattle.cif_laws.proofs.Common.{IsDetailedText, detailed_line, padded}
use Rattle.docker_laws.proofs.dockers.FewMidnights.{HasFewMidnights}
use Rattle.docker_laws.proofs.dockers.SameDocker.{Covers, event_line_over, association_line_over}
use Rattle.docker_laws.proofs.dockers.LapsedDocker.{over, back, lapsed_docker, description_stays}

-- the text of a detailed docker with this description in its heading
abbrev pub detailed_with : List ℕ → ℕ → List (DockerLine × List ℕ) → List ℕ → List ℕ
detailed_with place day lines description =
    ended (padded (codes "DOCKER " ++ place ++ spaces 1 ++ day_text day ++ spaces 1 ++ description ++ spaces 4)) ++ flat_map
    (λ line. ended (detailed_line line)) lines ++ ended (padded last_line)

module _ {Needs : List ℕ → ℕ → Type 0} {one other : Table} {place : List ℕ} {day : ℕ} (forth : Covers Needs one other place day)
    (back : Covers Needs other one place day) where
  -- if the tables cover each other, a docker line that has an origin in `one` has the same origin in
  -- `other`
  origin_over : (line : DockerLine) (origin : List ℕ) → IsOrigin one place day line origin → IsOrigin other place day line origin
  unfolding event_line_over association_line_over
  origin_over line origin (inl event) = inl (record { line_is = event_line_over forth back line event.line_is; origin_is = event.origin_is })
  origin_over line origin (inr association) =
      inr (record { line_is = association_line_over forth back line association.line_is; origin_is = association.origin_is })

  -- if the tables cover each other, docker lines that have these origins in `one` have the same
  -- origins in `other`
  origins_over : (lines : List DockerLine) (origins : List (List ℕ)) → AllZip (IsOrigin one place day) lines origins
      → AllZip (IsOrigin other place day) lines origins
  origins_over [] [] come = come
  origins_over (line ∷ lines) (origin ∷ origins) come = (origin_over line origin come.0, origins_over lines origins come.1)
  origins_over lines origins come = absurd come

  -- if the tables cover each other, and have the same description of the place, each detailed docker
  -- of `one` is a detailed docker of `other`
  detailed_over : ((lines : List DockerLine) → IsDockerList one place day lines → IsDockerList other place day lines)
      → description_in (one (tiploc_key place)) ≡ description_in (other (tiploc_key place)) → (text : List ℕ) → IsDetailedText one place day text
      → IsDetailedText other place day text
  detailed_over listed described text is = record {
    lines = is.lines;
    docker = listed is.lines is.docker;
    origins = is.origins;
    come_from = origins_over is.lines is.origins is.come_from;
    text_is = is.text_is ∙ ap (detailed_with place day (zip is.lines is.origins)) described;
  }

-- on each day from the third day after the horizon, the table has the same detailed docker before
-- and after its rows lapse
pub detailed_text_iff : (horizon : ℕ) → horizon ≤ no_end_number → (live : Table) → HasFewMidnights live → (place : List ℕ) (day : ℕ) → horizon + 3 ≤ day
    → (text : List ℕ)
    → IsDetailedText live place day text ↔ IsDetailedText (lapse_table horizon live) place day text
detailed_text_iff horizon bound live few place day from text =
    let forth = over horizon bound live few place day from in
    let turned = back horizon bound live few place day from in
    let same = description_stays horizon bound live few place day from in
    let listed = (lapsed_docker horizon bound live few place day from).list in
    (detailed_over forth turned (λ lines. (listed lines).0) (sym same) text, detailed_over turned forth (λ lines. (listed lines).1) same text)
