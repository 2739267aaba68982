use Rattle.cif_laws.proofs.Common.{sym, ◌∙◌, subst, rules, is_printable, AllPass}
use Rattle.cif_laws.proofs.records.RecordTests.{no_bad_byte}
use Rattle.cif_line.proofs.line.Line.new.Goals as goal

-- if the test `is_printable_line` passes, all bytes are printable
good : (c : goal.Then-is_printable_line) → AllPass is_printable c.args.bytes.now
good c = subst (AllPass is_printable) c.in-Ok.ensures.1.same (c.is_printable_line.ensures.0 c.if-is_printable_line.true)

pub returns-then-is_printable_line-clause-ok : goal.returns-then-is_printable_line-clause-ok
returns-then-is_printable_line-clause-ok c = search (rules, good)

pub returns-then-is_printable_line-clause-byte : goal.returns-then-is_printable_line-clause-byte
returns-then-is_printable_line-clause-byte c = search (rules, good, no_bad_byte)

pub returns-clause-ok : goal.returns-clause-ok
returns-clause-ok c = (
  λ never. absurd (cc),
  λ is. sym c.if-is_printable_line.false ∙ c.is_printable_line.ensures.1 (subst (AllPass is_printable) (sym c.in-Ok.ensures.1.same) is.1),
)
