use Rattle.cif_laws.proofs.Common.{length, map, Vec, columns}
use Rattle.state_index.specs.NamedPlaces.{location_lines}
use Rattle.state_index.specs.declared.posting.Posting.{Posting}
use Rattle.state_index.specs.Posted.{ArePosted, CanPost}
use Rattle.state_index.specs.Spots.{spot_at}
use Rattle.state_index.proofs.postings.post_locations.Given as goal

abbrev pub invariant-loop-line : goal.invariant-loop-line
invariant-loop-line l = record {
  can : CanPost l.places (map (columns 3 9) (location_lines l.rest)) l.postings;
  posted : (new : Vec Posting) → ArePosted l.places (map (spot_at l.at) (map (columns 3 9) (location_lines l.rest))) l.postings new
      → ArePosted l.places (map (spot_at l.at) (map (columns 3 9) (location_lines l.lines))) l.fn.postings new;
}

abbrev pub decreases-loop-line : goal.decreases-loop-line
decreases-loop-line l = length l.rest
