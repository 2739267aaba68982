use Rattle.cif_laws.proofs.Common.{map, ◌∙◌, live_table}
use Rattle.docker_join.specs.Meaning.{row_meant}
use Rattle.state_laws.specs.Index.{AreLinked}
use Rattle.state_index.specs.NamedPlaces.{link_places}
use Rattle.state_index.specs.Spots.{spots_in}
use Rattle.state_index.proofs.LiveIndexes.{linked_there, rows_found}
use Rattle.state_index.proofs.index.Index.linked.Goals as goal

pub returns : goal.returns
returns c = λ state same.
    rows_found (AreLinked (live_table state)) link_places state (map row_meant c.args.rows.now) same c.requires.ascending
    (spots_in c.args.self.now.places.items c.args.self.now.links.items) (spots_in c.as_slice.result.now c.as_slice-2.result.now)
    (λ i. spots_in (c.as_slice.ensures.value i) (c.as_slice-2.ensures.value i)) c.requires.index.links.are
    c.args.tiploc.now c.bytes.result.now c.bytes.ensures.bytes (spots_in c.as_slice.result.now c.postings_at.result.now) c.postings_at.ensures.piece
    c.of.result (c.of.ensures ∙ c.postings_at.ensures.rows (map row_meant c.args.rows.now))
    (λ up of is. linked_there state up (spots_in c.args.self.now.places.items c.args.self.now.links.items) of c.args.tiploc.now _ is)
