-- The line that ends at the line feed is taken. Its first bytes may have been kept from earlier
-- pieces.
use Rattle.cif_laws.proofs.Common.{◌++◌, sym, ap, ◌∙◌, refl, false≢true}
use Rattle.cif_file.proofs.ParserLemmas.{empty_is, fault_in_front, line_ended, too_long}
use Rattle.cif_file.proofs.read.parser.FileReading.end_line.Goals as goal

pub returns-then-is_empty : goal.returns-then-is_empty
returns-then-is_empty g c =
    let none = empty_is c.args.self.now c.if-is_empty.ensures in
    line_ended _ _ _ _ _ _ _ _ c.requires (ap (λ l. l ++ c.args.front.now) (sym none)) c.without_return.ensures.line none c.take.ensures

pub returns-then-not-extend : goal.returns-then-not-extend
returns-then-not-extend g c = fault_in_front _ _ _ _ _ _ _ refl
    (too_long _ _ _ _ _ c.requires (λ few. false≢true (sym c.if-not-extend.true ∙ c.extend.ensures.fits.1 few)) c.too_long.ensures)

pub returns : goal.returns
returns g c = line_ended _ _ _ _ _ _ _ _ c.requires (c.as_slice.ensures.value ∙ c.extend.ensures.items c.if-not-extend.false)
    c.without_return-2.ensures.line c.clear.ensures c.take-taken.ensures
