use Rattle.cif_laws.proofs.Common.{ap, sym, ◌∙◌}
use Rattle.train_choice.specs.UpTo.{up_to_last}
use Rattle.train_choice.proofs.UpTo.{last_named, last_elsewhere}
use Rattle.train_choice.proofs.up_to.up_to_last.Goals as goal

pub returns-then-names_place : goal.returns-then-names_place
returns-then-names_place c = c.in-Some.ensures.cases.0
    ∙ sym (last_named _ _ _ (sym c.names_place.ensures ∙ c.if-names_place.true))
    ∙ ap (up_to_last c.args.place.now) (sym c.in-Some.ensures.cases.0) ∙ c.loop-line.invariant

pub loop-line-preserved : goal.loop-line-preserved
loop-line-preserved c =
    sym (last_elsewhere c.args.place.now c.in-Some.line.now c.in-Some.before.now (sym c.names_place.ensures ∙ c.if-names_place.false))
    ∙ ap (up_to_last c.args.place.now) (sym c.in-Some.ensures.cases.0) ∙ c.loop-line.invariant
