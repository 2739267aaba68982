use Rattle.cif_laws.proofs.Common.{nat_eq, sym, ◌∙◌}
use Rattle.std.specs.Bool.{one_answer}
use Rattle.std.specs.Cmp.Lexicographic.{pointwise, pointwise_decides, bytes_decides}
use Rattle.cif_change.proofs.lines.LinesPartialEq.eq.Goals as goal

pub returns : goal.returns
returns c =
    let own = c.args.self.now in
    let other = c.args.other.now in
    let one = c.as_slice.ensures in
    let two = c.as_slice-2.ensures in
    let told = c.are_same_lines.ensures in
    one_answer c.are_same_lines.result (pointwise (pointwise nat_eq) own other)
    (λ yes. sym one ∙ told.0 yes ∙ two, λ same. told.1 (one ∙ same ∙ sym two)) (pointwise_decides bytes_decides own other)
