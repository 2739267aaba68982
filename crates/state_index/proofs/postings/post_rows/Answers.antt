use Rattle.cif_laws.proofs.Common.{◌≡◌, ◌+◌, List, ◌∷◌, map, length, ap, rules, sym, subst, arith, length-map}
use Rattle.cif_change.specs.declared.key.Key.{Key}
use Rattle.docker_join.specs.declared.entry.Entry.{Entry}
use Rattle.docker_join.specs.Meaning.{row_meant}
use Rattle.state_index.specs.Posted.{ArePosted, CanPost, asked_places}
use Rattle.state_index.specs.Rooms.{items_of, places_in}
use Rattle.state_index.specs.Spots.{spot_at, spots_from}
use Rattle.state_index.proofs.Positions.{none_left}
use Rattle.state_index.proofs.PostedSpots.{can_back, posted_none, posted_then}
use Rattle.state_index.proofs.postings.post_rows.Goals as goal

pub loop-row-preserved : goal.loop-row-preserved
loop-row-preserved c =
    let whole : c.loop-row.rest.now ≡ c.in-Some.row.now ∷ c.in-Some.behind.now = search rules in
    let len = ap length whole in
    let next : c.loop-row.at + 1 ≡ 1 + c.loop-row.at = omega arith in
    record {
      at = (let before = c.loop-row.invariant.at in omega arith);
      can = can_back _ _ _ _ _ _
          (length-map (asked_places c.args.links (row_meant c.in-Some.row.now).0 (row_meant c.in-Some.row.now).1.op) (spot_at c.loop-row.at))
          c.post_row.ensures
          (subst (λ (rest : List (Key × Entry)). CanPost c.args.places.now (places_in (asked_places c.args.links) (items_of (map row_meant rest)))
          c.loop-row.postings) whole c.loop-row.invariant.can);
      posted = λ new behind. c.loop-row.invariant.posted new
          (subst (λ (rest : List (Key × Entry)). ArePosted c.args.places.now (spots_from (asked_places c.args.links) c.loop-row.at (map row_meant rest))
          c.loop-row.postings new) (sym whole) (posted_then _ _ _ _ _ _ c.post_row.ensures
          (subst (λ at. ArePosted c.args.places.now (spots_from (asked_places c.args.links) at (map row_meant c.in-Some.behind.now))
          c.post_row.new.postings new) next behind)));
    }

pub returns : goal.returns
returns c = c.loop-row.invariant.posted c.loop-row.postings
    (subst (λ (rest : List (Key × Entry)). ArePosted c.args.places.now (spots_from (asked_places c.args.links) c.loop-row.at (map row_meant rest))
    c.loop-row.postings c.loop-row.postings) (sym (none_left _ c.in_default.ensures.cases)) (posted_none _ _))
