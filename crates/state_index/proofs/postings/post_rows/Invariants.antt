use Rattle.cif_laws.proofs.Common.{◌≡◌, ◌+◌, length, map, Vec}
use Rattle.docker_join.specs.Meaning.{row_meant}
use Rattle.state_index.specs.declared.posting.Posting.{Posting}
use Rattle.state_index.specs.Posted.{ArePosted, CanPost, asked_places}
use Rattle.state_index.specs.Rooms.{items_of, places_in}
use Rattle.state_index.specs.Spots.{spots_from}
use Rattle.state_index.proofs.postings.post_rows.Given as goal

abbrev pub invariant-loop-row : goal.invariant-loop-row
invariant-loop-row l = record {
  at : l.at + length l.rest ≡ length l.rows;
  can : CanPost l.places (places_in (asked_places l.links) (items_of (map row_meant l.rest))) l.postings;
  posted : (new : Vec Posting) → ArePosted l.places (spots_from (asked_places l.links) l.at (map row_meant l.rest)) l.postings new
      → ArePosted l.places (spots_from (asked_places l.links) 0 (map row_meant l.rows)) l.fn.postings new;
}

abbrev pub decreases-loop-row : goal.decreases-loop-row
decreases-loop-row l = length l.rest
