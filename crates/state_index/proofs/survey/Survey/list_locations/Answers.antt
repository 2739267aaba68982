use Rattle.cif_laws.proofs.Common.{◌≡◌, ◌∙◌, ◌++◌, ℕ, List, [], ◌∷◌, map, ap, refl, rules, sym, subst, Contains-append_right, columns}
use Rattle.state_index.specs.NamedPlaces.{location_lines}
use Rattle.state_index.specs.Rooms.{Includes}
use Rattle.state_index.proofs.Positions.{none_left}
use Rattle.state_index.proofs.RowPlaces.{location_first, location_other}
use Rattle.state_index.proofs.Surveyed.{listed_all, listed_more}
use Rattle.state_index.proofs.survey.Survey.list_locations.Goals as goal

pub loop-line-init : goal.loop-line-init
loop-line-init c = record {
  kept = λ place among. among;
  listed = λ place among. Contains-append_right c.args.self.now.names.items (map (columns 3 9) (location_lines c.args.lines.now)) place among;
  calls = refl;
  rows = refl;
}

pub loop-line-preserved-in_ok-list : goal.loop-line-preserved-in_ok-list
loop-line-preserved-in_ok-list c =
    let whole : c.loop-line.rest.now ≡ c.in-Some.line.now ∷ c.in-Some.behind.now = search rules in
    let places = location_first _ _ _ whole (sym c.is_location.ensures ∙ c.if-is_location.true) in
    record {
      kept = λ place among. c.list.ensures.kept place (c.loop-line.invariant.kept place among);
      listed = listed_more _ _ _ _ _ c.list.ensures.kept
          (subst (λ (place : List ℕ). Includes (place ∷ []) c.list.new.self.names.items) c.tiploc_in.ensures (c.in_ok-list.ensures.listed refl))
          (subst (λ (rest : List (List ℕ)). Includes (map (columns 3 9) (location_lines c.args.lines.now)) (c.loop-line.self.names.items ++ rest)) places
          c.loop-line.invariant.listed);
      calls = c.list.ensures.calls ∙ c.loop-line.invariant.calls;
      rows = c.list.ensures.rows ∙ c.loop-line.invariant.rows;
    }

pub loop-line-preserved : goal.loop-line-preserved
loop-line-preserved c =
    let whole : c.loop-line.rest.now ≡ c.in-Some.line.now ∷ c.in-Some.behind.now = search rules in
    let places = location_other c.loop-line.rest.now c.in-Some.behind.now c.in-Some.line.now whole (sym c.is_location.ensures ∙ c.if-is_location.false) in
    record {
      kept = c.loop-line.invariant.kept;
      listed = subst (λ (rest : List (List ℕ)). Includes (map (columns 3 9) (location_lines c.args.lines.now)) (c.loop-line.self.names.items ++ rest)) places
          c.loop-line.invariant.listed;
      calls = c.loop-line.invariant.calls;
      rows = c.loop-line.invariant.rows;
    }

pub returns-clause-listed : goal.returns-clause-listed
returns-clause-listed c = λ ok. listed_all _ _ _
    (ap (λ (rest : List (List ℕ)). map (columns 3 9) (location_lines rest)) (none_left _ c.in_default.ensures.cases)) c.loop-line.invariant.listed
