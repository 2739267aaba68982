-- The bytes are stored, unless the line then has more than 81 bytes.
use Rattle.cif_laws.proofs.Common.{refl, sym, ◌∙◌, false≢true}
use Rattle.cif_file.proofs.ParserLemmas.{kept_read, too_long}
use Rattle.cif_file.proofs.read.parser.FileReading.keep.Goals as goal

pub returns-then-not-extend : goal.returns-then-not-extend
returns-then-not-extend g c = too_long _ _ _ _ _ c.requires (λ few. false≢true (sym c.if-not-extend.true ∙ c.extend.ensures.fits.1 few)) c.too_long.ensures

pub returns-clause-read : goal.returns-clause-read
returns-clause-read g c = λ limit text reading. kept_read _ _ _ _ reading _ _ c.requires (c.extend.ensures.fits.0 c.if-not-extend.false) refl
    (c.extend.ensures.items c.if-not-extend.false)
