use Rattle.cif_laws.proofs.Common.{◌∙◌}
use Rattle.cif_change.proofs.JoinedLines.{after_first_record}
use Rattle.cif_change.proofs.same.compare_lines.Goals as goal

pub loop-one-preserved : goal.loop-one-preserved
loop-one-preserved c = after_first_record _ _ _ _ _ _
    c.in-Some-Some.ensures.cases.0 c.in-Some-Some.ensures'.cases.0 (c.is_same_line.ensures.0 c.if-not-is_same_line.false)
    ∙ c.loop-one.invariant
