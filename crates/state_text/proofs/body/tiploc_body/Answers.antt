use Rattle.cif_laws.proofs.Common.{ap, ◌∙◌, arith, take_all, tiploc_body}
use Rattle.state_text.proofs.body.tiploc_body.Goals as goal

pub returns : goal.returns
returns c = (ap tiploc_body (c.field.ensures ∙ take_all 63 c.args.bytes.now (omega arith)), (c.requires, c.is_text.ensures.0 c.if-not-is_text.false))
