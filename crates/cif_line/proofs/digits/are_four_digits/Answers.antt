use Rattle.cif_laws.proofs.Common.{w8, refl, arith, length-chunk, chunk-fits, chunk, is_ascii_digit}
use Rattle.cif_line.proofs.Lanes.{above, no_lane_set}
use Rattle.cif_line.proofs.digits.are_four_digits.Goals as goal

pub returns : goal.returns
unfolding above
returns c =
    no_lane_set is_ascii_digit (chunk 0 4 c.args.field.now) 4 above _ 9 48 (length-chunk 0 4 c.args.field.now c.requires) (omega arith)
    (chunk-fits w8 0 4 c.args.field.now c.type_inv.field) refl
