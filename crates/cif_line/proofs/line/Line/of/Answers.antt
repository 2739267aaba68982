use Rattle.cif_laws.proofs.Common.{sym, ◌∙◌, subst, refl, rules, is_printable, AllPass}
use Rattle.cif_line.proofs.line.Line.of.Goals as goal

pub returns-then-is_printable_line-clause-some : goal.returns-then-is_printable_line-clause-some
returns-then-is_printable_line-clause-some c =
    let good = subst (AllPass is_printable) c.in-Ok.ensures.1.same (c.is_printable_line.ensures.0 c.if-is_printable_line.true) in
    (λ some. (search rules, good), λ is. refl)

pub returns-clause-some : goal.returns-clause-some
returns-clause-some c = (
  λ never. absurd (cc),
  λ is. sym c.if-is_printable_line.false ∙ c.is_printable_line.ensures.1 (subst (AllPass is_printable) (sym c.in-Ok.ensures.1.same) is.1),
)
