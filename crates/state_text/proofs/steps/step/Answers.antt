use Rattle.cif_laws.proofs.Common.{◌∙◌, ap, refl, subst}
use Rattle.state_text.specs.Stage.{IsFresh}
use Rattle.state_text.specs.declared.stage.Stage.TheVariants as stage
use Rattle.state_text.proofs.StepLemmas.{judged_at}
use Rattle.state_text.proofs.steps.step.Goals as goal

pub returns-in-Mark : goal.returns-in-Mark
returns-in-Mark g c = judged_at _ _ _ _ c.requires.1.0 c.in-Mark.is _ _ _ _ _ _ (c.after_mark.ensures c.args.parts.now c.args.lines.now
    (subst (λ s. IsFresh s c.args.parts.now) c.in-Mark.is c.requires.1.1.0.fresh))

pub returns-in-Horizon : goal.returns-in-Horizon
returns-in-Horizon g c = judged_at _ _ _ _ refl c.in-Horizon.is _ _ _ _ _ _ (c.after_horizon.ensures c.args.lines.now)

pub returns-in-Item : goal.returns-in-Item
returns-in-Item g c = judged_at _ _ _ _ refl c.in-Item.is _ _ _ _ _ _ (c.after_item.ensures c.args.lines.now)

pub returns-in-Tag : goal.returns-in-Tag
returns-in-Tag g c = judged_at _ _ _ _ refl c.in-Tag.is _ _ _ _ _ _ (c.after_tag.ensures c.args.parts.now c.args.lines.now)

pub returns-in-Key : goal.returns-in-Key
returns-in-Key g c = judged_at _ _ _ _ refl c.in-Key.is _ _ _ _ _ _ (c.after_key.ensures c.args.lines.now)

pub returns-in-Stamp : goal.returns-in-Stamp
returns-in-Stamp g c = judged_at _ _ _ _ refl c.in-Stamp.is _ _ _ _ _ _ (c.after_stamp.ensures c.args.lines.now)

pub returns-in-Op : goal.returns-in-Op
returns-in-Op g c = judged_at _ _ _ _ c.requires.1.0 c.in-Op.is _ _ _ _ _ _ (c.after_op.ensures c.args.lines.now)

pub returns-in-Tiploc : goal.returns-in-Tiploc
returns-in-Tiploc g c = judged_at _ _ _ _ refl (c.in-Body.is ∙ ap (λ k. stage.Body c.in-Body.count k c.in-Body.stamp) c.in-Tiploc.is) _ _ _ _ _ _
    (c.after_tiploc_body.ensures c.args.lines.now)

pub returns-in-Assoc : goal.returns-in-Assoc
returns-in-Assoc g c = judged_at _ _ _ _ refl (c.in-Body.is ∙ ap (λ k. stage.Body c.in-Body.count k c.in-Body.stamp) c.in-Assoc.is) _ _ _ _ _ _
    (c.after_assoc_body.ensures c.args.lines.now)

pub returns-in-Schedule : goal.returns-in-Schedule
returns-in-Schedule g c = judged_at _ _ _ _ refl (c.in-Body.is ∙ ap (λ k. stage.Body c.in-Body.count k c.in-Body.stamp) c.in-Schedule.is) _ _ _ _ _ _
    (c.after_line_count.ensures c.args.parts.now)
