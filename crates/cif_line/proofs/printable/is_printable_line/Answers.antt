use Rattle.cif_laws.proofs.Common.{◌≡◌, ◌&&◌, length, sym, ◌∙◌, arith, AllPass-from_list_all, list_all, is_printable}
use Rattle.std.proofs.lemmas.List.Sums.{list_all-from_AllPass}
use Rattle.cif_line.proofs.Lanes.{five_blocks}
use Rattle.cif_line.proofs.printable.is_printable_line.Goals as goal

pub returns : goal.returns
returns c =
    let size : length c.args.bytes.now ≡ 80 = omega arith in
    let judged : ((((c.is_printable_block.result && c.is_printable_block-2.result) && c.is_printable_block-3.result) && c.is_printable_block-4.result)
    && c.is_printable_block-5.result) ≡ list_all is_printable c.args.bytes.now =
    (λ i. (((c.is_printable_block.ensures i && c.is_printable_block-2.ensures i) && c.is_printable_block-3.ensures i) && c.is_printable_block-4.ensures i)
    && c.is_printable_block-5.ensures i)
    ∙ five_blocks is_printable c.args.bytes.now size in
    (λ good. AllPass-from_list_all is_printable c.args.bytes.now (sym judged ∙ good), λ all. judged ∙ list_all-from_AllPass is_printable c.args.bytes.now all)
