use Rattle.cif_laws.proofs.Common.{◌∙◌, sym, arith, length-chunk, chunk}
use Rattle.cif_change.proofs.SameLines.{no_lane_differs, no_lane_of_same}
use Rattle.cif_change.proofs.same.is_same_block.Goals as goal

pub returns : goal.returns
returns c =
    let own = chunk c.args.at 16 c.args.one.now in
    let other = chunk c.args.at 16 c.args.two.now in
    let first = length-chunk c.args.at 16 c.args.one.now c.requires.one in
    let second = length-chunk c.args.at 16 c.args.two.now c.requires.two in
    (no_lane_differs own other (first ∙ sym second) (omega arith), no_lane_of_same own other (omega arith))
