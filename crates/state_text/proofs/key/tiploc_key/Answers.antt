use Rattle.cif_laws.proofs.Common.{ap, ◌∙◌, arith, refl, subst, take_all, tiploc_key, IsTiploc}
use Rattle.state_text.proofs.key.tiploc_key.Goals as goal

pub returns : goal.returns
returns c =
    let same = c.field.ensures ∙ take_all 7 c.args.bytes.now (omega arith) in
    (ap tiploc_key (c.in_ok-code.ensures.value ∙ same), subst IsTiploc same (c.in_ok-code.ensures.some.0 refl))
