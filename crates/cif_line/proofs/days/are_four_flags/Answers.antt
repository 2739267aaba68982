use Rattle.cif_laws.proofs.Common.{w8, refl, arith, ◌==◌, ◌||◌, length-chunk, chunk-fits, chunk}
use Rattle.cif_line.proofs.Lanes.{above, no_lane_set}
use Rattle.cif_line.proofs.days.are_four_flags.Goals as goal

pub returns : goal.returns
unfolding above
returns c =
    no_lane_set (λ b. (b == 48) || (b == 49)) (chunk 0 4 c.args.field.now) 4 above _ 1 48 (length-chunk 0 4 c.args.field.now c.requires) (omega arith)
    (chunk-fits w8 0 4 c.args.field.now c.type_inv.field) refl
