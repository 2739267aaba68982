use Rattle.cif_laws.proofs.Common.{◌≡◌, true, false, sym, ◌∙◌, subst, tiploc_amend, HasKind}
use Rattle.cif_line.proofs.GoodFields.{no_new_code}
use Rattle.cif_line.proofs.tiploc_record.TiplocRecord.new_code.Goals as goal

pub returns-else-is_amendment : goal.returns-else-is_amendment
returns-else-is_amendment c =
    let never : ¬ HasKind tiploc_amend c.args.self.now =
    λ amends. let both : false ≡ true = sym c.if-is_amendment.false
    ∙ c.is_amendment.ensures.1 (subst (HasKind tiploc_amend) (sym c.self.view_is) amends) in cc in
    sym (no_new_code c.args.self.now never)
