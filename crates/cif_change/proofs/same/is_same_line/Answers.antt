use Rattle.cif_laws.proofs.Common.{sym, ◌∙◌, arith}
use Rattle.cif_change.proofs.SameLines.{line_told}
use Rattle.cif_change.proofs.same.is_same_line.Goals as goal

pub returns : goal.returns
returns c =
    let one = c.bytes-one.ensures.bytes in
    let two = c.bytes-two.ensures.bytes in
    let told = line_told _ _ (omega arith) (omega arith) _ _ _ _ _ c.is_same_block.ensures c.is_same_block-2.ensures
    c.is_same_block-3.ensures c.is_same_block-4.ensures c.is_same_block-5.ensures in
    (λ all. sym one ∙ told.0 all ∙ two, λ same. told.1 (one ∙ same ∙ sym two))
