use Rattle.cif_laws.proofs.Common.{ap, sym, ◌∙◌, tied_itself}
use Rattle.docker_model.specs.state.Op.{body_cmp}
use Rattle.cif_laws.proofs.orders.Orders.{body_total}
use Rattle.cif_change.specs.Meaning.{body_meant}
use Rattle.cif_change.proofs.change.BodyOrd.cmp.Goals as goal

pub returns-then-is_same : goal.returns-then-is_same
returns-then-is_same c =
    let other = body_meant c.args.other.now in
    sym (ap (λ body. body_cmp body other) (c.is_same.ensures.0 c.if-is_same.true) ∙ tied_itself body_total other)
