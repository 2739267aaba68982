use Rattle.cif_laws.proofs.Common.{sym, ◌∙◌, eqb-true}
use Rattle.state_index.proofs.PackedPlaces.{one_place}
use Rattle.state_index.proofs.names.is_same.Goals as goal

pub returns : goal.returns
returns c = λ told. one_place c.args.one.now c.args.other.now c.told-one c.told-other c.fits-one c.fits-other
    (sym c.packed.ensures ∙ eqb-true c.packed.result c.packed-2.result told ∙ c.packed-2.ensures)
