use Rattle.cif_laws.proofs.Common.{◌≡◌, refl, false, true}
use Rattle.state_index.specs.Spots.{spots_in}
use Rattle.state_index.proofs.CountedCalls.{as_many_spots}
use Rattle.state_index.proofs.PostingSpots.{piece_at, same_rows, no_piece}
use Rattle.state_index.proofs.place_rows.postings_at.Goals as goal

pub returns-in-Some-clause-piece : goal.returns-in-Some-clause-piece
returns-in-Some-clause-piece c = piece_at _ c.requires.named _ _ _ _ c.in-Some.ensures.some c.postings_of.ensures

pub returns-in-Some-clause-each : goal.returns-in-Some-clause-each
returns-in-Some-clause-each c = as_many_spots _ _ _ c.in-Some.ensures.some _ c.postings_of.ensures.here

pub returns-in-Some-clause-rows : goal.returns-in-Some-clause-rows
returns-in-Some-clause-rows c = λ rows. same_rows _ _ _ c.in-Some.ensures.some _ c.postings_of.ensures.here _

pub returns-in-None-clause-piece : goal.returns-in-None-clause-piece
returns-in-None-clause-piece c =
    no_piece c.args.places.now c.args.postings.now c.args.place.now (λ among. let bad : false ≡ true = c.in-None.ensures.among among in cc)
    (spots_in c.args.places.now c.args.postings.now) refl
