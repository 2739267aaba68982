use Rattle.cif_laws.proofs.Common.{map}
use Rattle.state_index.specs.NamedPlaces.{call_places, link_places}
use Rattle.docker_join.specs.Meaning.{row_meant}
use Rattle.state_index.proofs.PostedSpots.{can_all, made_all}
use Rattle.state_index.proofs.PostingSpots.{postings_made}
use Rattle.state_index.proofs.index.Index.refill.Goals as goal

pub post_rows-requires-clause-can : goal.post_rows-requires-clause-can
post_rows-requires-clause-can c = can_all _ _ _ _ c.as_slice-places.ensures.value
    c.requires.named c.requires.few_places _ _ c.requires.calls c.clear.ensures.len c.clear.ensures.capacity

pub post_rows-requires-2-clause-can : goal.post_rows-requires-2-clause-can
post_rows-requires-2-clause-can c = can_all _ _ _ _ c.as_slice-places.ensures.value
    c.requires.named c.requires.few_places _ _ c.requires.links c.clear-2.ensures.len c.clear-2.ensures.capacity

pub returns-clause-index : goal.returns-clause-index
returns-clause-index c = record {
  named = c.requires.named;
  calls = postings_made call_places (map row_meant c.args.rows.now) c.args.self.now.places.items c.post_rows.new.postings.items c.settle.new.postings.items
      c.requires.named (made_all call_places (map row_meant c.args.rows.now) c.args.self.now.places.items c.as_slice-places.result.now
      c.as_slice-places.ensures.value c.clear.new.self c.post_rows.new.postings c.clear.ensures.items c.post_rows.ensures)
      c.settle.ensures.ascending c.settle.ensures.members;
  links = postings_made link_places (map row_meant c.args.rows.now) c.args.self.now.places.items c.post_rows-2.new.postings.items
      c.settle-2.new.postings.items c.requires.named (made_all link_places (map row_meant c.args.rows.now) c.args.self.now.places.items
      c.as_slice-places.result.now c.as_slice-places.ensures.value c.clear-2.new.self c.post_rows-2.new.postings c.clear-2.ensures.items
      c.post_rows-2.ensures) c.settle-2.ensures.ascending c.settle-2.ensures.members;
}
