use Rattle.cif_laws.proofs.Common.{◌≡◌, ◌==◌, ◌∙◌, ◌++◌, Bool, false, ap, cond, sym, codes, day_text}
use Rattle.std.proofs.lemmas.Bool.{ne_eqb}
use Rattle.state_lists.proofs.known.horizon_text.Goals as goal

pub returns : goal.returns
returns c =
    let set : (c.args.horizon == 0) ≡ false = ne_eqb c.args.horizon 0 c.if-horizon-eq0.false in
    c.put-2.ensures.items
    ∙ (λ i. c.new-text.ensures i ++ (c.iso.ensures.text ∙ ap day_text c.day_of.ensures) i)
    ∙ sym (ap (λ (none : Bool). cond none (codes "NONE") (day_text c.args.horizon)) set)
