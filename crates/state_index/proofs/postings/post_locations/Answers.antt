use Rattle.cif_laws.proofs.Common.{◌≡◌, ◌∙◌, ℕ, List, [], ◌∷◌, map, refl, rules, sym, subst, columns}
use Rattle.state_index.specs.NamedPlaces.{location_lines}
use Rattle.state_index.specs.Posted.{ArePosted, CanPost}
use Rattle.state_index.specs.Spots.{spot_at}
use Rattle.state_index.proofs.Positions.{none_left}
use Rattle.state_index.proofs.PostedSpots.{can_back, posted_none, posted_then}
use Rattle.state_index.proofs.RowPlaces.{location_first}
use Rattle.state_index.proofs.postings.post_locations.Goals as goal

pub loop-line-preserved-then-is_location : goal.loop-line-preserved-then-is_location
loop-line-preserved-then-is_location c =
    let whole : c.loop-line.rest.now ≡ c.in-Some.line.now ∷ c.in-Some.behind.now = search rules in
    let places = location_first c.loop-line.rest.now c.in-Some.behind.now c.in-Some.line.now whole (sym c.is_location.ensures ∙ c.if-is_location.true) in
    let posted : ArePosted c.args.places.now (spot_at c.args.at (columns 3 9 c.in-Some.line.now) ∷ []) c.loop-line.postings c.post_place.new.postings =
    subst (λ (place : List ℕ). ArePosted c.args.places.now (spot_at c.args.at place ∷ []) c.loop-line.postings c.post_place.new.postings)
    c.tiploc_in.ensures c.post_place.ensures in
    record {
      can = can_back c.args.places.now (columns 3 9 c.in-Some.line.now ∷ []) (map (columns 3 9) (location_lines c.in-Some.behind.now))
          (spot_at c.args.at (columns 3 9 c.in-Some.line.now) ∷ []) c.loop-line.postings c.post_place.new.postings refl posted
          (subst (λ (rest : List (List ℕ)). CanPost c.args.places.now rest c.loop-line.postings) places c.loop-line.invariant.can);
      posted = λ new behind. c.loop-line.invariant.posted new
          (subst (λ (rest : List (List ℕ)). ArePosted c.args.places.now (map (spot_at c.args.at) rest) c.loop-line.postings new) (sym places)
          (posted_then c.args.places.now (spot_at c.args.at (columns 3 9 c.in-Some.line.now) ∷ [])
          (map (spot_at c.args.at) (map (columns 3 9) (location_lines c.in-Some.behind.now)))
          c.loop-line.postings c.post_place.new.postings new posted behind));
    }

pub returns : goal.returns
returns c = c.loop-line.invariant.posted c.loop-line.postings
    (subst (λ (rest : List (List ℕ)). ArePosted c.args.places.now (map (spot_at c.args.at) (map (columns 3 9) (location_lines rest)))
    c.loop-line.postings c.loop-line.postings) (sym (none_left _ c.in_default.ensures.cases)) (posted_none _ _))
