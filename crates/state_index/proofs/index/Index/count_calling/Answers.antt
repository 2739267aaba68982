use Rattle.cif_laws.proofs.Common.{length, refl}
use Rattle.state_index.specs.Spots.{spots_in}
use Rattle.state_index.proofs.CountedCalls.{calling_counted}
use Rattle.state_index.proofs.index.Index.count_calling.Goals as goal

pub returns : goal.returns
returns c = λ state up is.
    calling_counted state up
    (spots_in c.args.self.now.places.items c.args.self.now.calls.items) (spots_in c.as_slice.result.now c.as_slice-2.result.now)
    (λ i. spots_in (c.as_slice.ensures.value i) (c.as_slice-2.ensures.value i)) is.calls.are
    c.args.tiploc.now c.bytes.result.now c.bytes.ensures.bytes c.as_slice.result.now c.postings_at.result.now c.postings_at.ensures.piece
    c.postings_at.ensures.each (length c.postings_at.result.now) refl
