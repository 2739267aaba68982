-- The needed changes of a file are made for one place and one day, and they result in a state. Each
-- docker of this state for this place and day is also a docker of the whole file's state.
use Rattle.cif_laws.proofs.Common.{ap, sym, ◌∙◌, subst}
use Rattle.docker_laws.specs.Thinning.{wanted_changes}
use Rattle.docker_excerpt.specs.Values.{Excerpt, with_entries, StandsAt}
use Rattle.docker_excerpt.proofs.ThinExcerpt.{given_is_state, state_is_summary, thin_stands}
use Rattle.docker_excerpt.proofs.ThinParts.{uids_of_thinning, parts_records, parts_state, parts_valid}
use Rattle.docker_excerpt.proofs.excerpt.Excerpt.of_file.Goals as goal

pub of_parts-requires-clause-records : goal.of_parts-requires-clause-records
of_parts-requires-clause-records c = parts_records _ c.header-header.ensures.read c.in_ok-parts.parts c.in_ok-parts.ensures

pub of_parts-requires-clause-valid : goal.of_parts-requires-clause-valid
of_parts-requires-clause-valid c = parts_valid _ c.header-header.ensures.read c.in_ok-parts.parts c.in_ok-parts.ensures

pub of-requires : goal.of-requires
of-requires c =
    let thin = c.header-header.ensures.read in
    let read = thin.read in
    let needed = c.in_ok-parts.ensures in
    let state = with_entries c.in_ok-part.part c.given_of-given.result.entries in
    subst (λ place. StandsAt place c.args.day state c.in_ok-part.part) (sym c.requires.place)
    (subst (λ day. StandsAt c.args.file.place day state c.in_ok-part.part) (sym c.requires.day)
    (thin_stands c.args.file.place c.args.file.day c.args.file.file read.records read.of_records read.is_file read.few thin.thinned thin.thinning
    needed.uids (uids_of_thinning c.args.file thin c.in_ok-parts.parts needed) c.in_ok-part.part
    (parts_state c.args.file thin c.in_ok-parts.parts needed read.records read.of_records c.in_ok-part.part c.in_ok-part.ensures)
    c.given_of-given.result.entries c.given_of-given.ensures))

pub returns-clause-place : goal.returns-clause-place
returns-clause-place c = ap (λ (it : Excerpt). it.place) c.of.ensures

pub returns-clause-day : goal.returns-clause-day
returns-clause-day c = ap (λ (it : Excerpt). it.day) c.of.ensures

pub returns-clause-state : goal.returns-clause-state
returns-clause-state c = λ records of.
    let thin = c.header-header.ensures.read in
    let needed = c.in_ok-parts.ensures in
    ap (λ (it : Excerpt). it.state) c.of.ensures
    ∙ given_is_state c.args.file.file records of (wanted_changes needed.uids thin.thinned) c.in_ok-part.part
    (parts_state c.args.file thin c.in_ok-parts.parts needed records of c.in_ok-part.part c.in_ok-part.ensures)
    c.given_of-given.result.entries c.given_of-given.ensures
    ∙ state_is_summary c.args.file.file records of
