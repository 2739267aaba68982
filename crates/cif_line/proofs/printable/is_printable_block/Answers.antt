use Rattle.cif_laws.proofs.Common.{w8, refl, arith, length-chunk, chunk-fits, chunk, is_printable}
use Rattle.cif_line.proofs.Lanes.{above, no_lane_set}
use Rattle.cif_line.proofs.printable.is_printable_block.Goals as goal

pub returns : goal.returns
unfolding above
returns c =
    no_lane_set is_printable (chunk c.args.at 16 c.args.bytes.now) 16 above _ 94 32
    (length-chunk c.args.at 16 c.args.bytes.now c.requires) (omega arith) (chunk-fits w8 c.args.at 16 c.args.bytes.now c.type_inv.bytes) refl
