use Rattle.cif_laws.proofs.Common.{rules, inl, inr, subst, ◌∷◌, ◌++◌, [], IsOk}
use Rattle.cif_change.specs.JourneyRead.{HasLines}
use Rattle.state_text.proofs.ScheduleLemmas.{incomplete, begin_up_to}
use Rattle.state_text.proofs.schedule.Gathered.take.Goals as goal
use Rattle.state_text.proofs.schedule.Gathered.take.Goals.{else-is_last-via-then-is_last+else-not-complete, else-is_last-via-else-is_last}

pub returns-then-not-complete-clause-err : goal.returns-then-not-complete-clause-err
returns-then-not-complete-clause-err c =
    let ok : IsOk c.line.result = search rules in
    let has = c.line.ensures.read _ (subst (HasLines c.self.inside.journey) c.self.view_is c.self.invariant) ok in
    incomplete _ _ _ _ _ c.has_more-is_last.ensures c.requires c.if-is_last.true (c.complete.ensures _ has) c.if-not-complete.true

pub returns-clause-goes_on : goal.returns-clause-goes_on
returns-clause-goes_on c = λ done.
    let ok : IsOk c.line.result = search rules in
    let here = subst (HasLines c.self.inside.journey) c.self.view_is c.self.invariant in
    begin_up_to _ _ _ _ c.has_more-is_last.ensures ((c.line.ensures.ok c.args.self.now here).0 ok) (elim c.else-is_last.branch [
      | else-is_last-via-then-is_last+else-not-complete w ↦
          inr ((w.complete.ensures (c.args.self.now ++ c.args.line.now ∷ []) (c.line.ensures.read c.args.self.now here ok)).0 w.if-not-complete.false)
      | else-is_last-via-else-is_last w ↦ inl w.if-is_last.false
    ])

pub returns-then-is_err-2-clause-err : goal.returns-then-is_err-2-clause-err
returns-then-is_err-2-clause-err c =
    let ok : IsOk c.line.result = search rules in
    let here = subst (HasLines c.self.inside.journey) c.self.view_is c.self.invariant in
    begin_up_to _ _ _ _ c.has_more-is_last.ensures ((c.line.ensures.ok c.args.self.now here).0 ok) (elim c.else-is_last.branch [
      | else-is_last-via-then-is_last+else-not-complete w ↦
          inr ((w.complete.ensures (c.args.self.now ++ c.args.line.now ∷ []) (c.line.ensures.read c.args.self.now here ok)).0 w.if-not-complete.false)
      | else-is_last-via-else-is_last w ↦ inl w.if-is_last.false
    ])

pub returns-then-not-complete-clause-kept : goal.returns-then-not-complete-clause-kept
returns-then-not-complete-clause-kept c = let here = subst (HasLines c.self.inside.journey) c.self.view_is c.self.invariant in search rules

pub returns-clause-kept : goal.returns-clause-kept
returns-clause-kept c = let here = subst (HasLines c.self.inside.journey) c.self.view_is c.self.invariant in search rules

pub returns-then-is_err-2-clause-kept : goal.returns-then-is_err-2-clause-kept
returns-then-is_err-2-clause-kept c = let here = subst (HasLines c.self.inside.journey) c.self.view_is c.self.invariant in search rules
