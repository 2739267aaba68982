-- Each change adds the UID that its key names, if there is one. Sorting changes only the order.
use Rattle.cif_laws.proofs.Common.{◌∙◌, sym, ap, subst}
use Rattle.cif_laws.proofs.lists.Membership.{SameMembers}
use Rattle.docker_excerpt.proofs.SameMembers.{sorted_members}
use Rattle.docker_excerpt.proofs.WalkSteps.{names_with_some, names_with_none}
use Rattle.docker_excerpt.proofs.NeededChanges.{uids_more, uids_whole}
use Rattle.docker_excerpt.proofs.wanted.uids_named.Goals as goal
use Rattle.docker_excerpt.proofs.wanted.uids_named.Goals.{in-Some+in_ok-push, in_default}

pub loop-change-preserved : goal.loop-change-preserved
loop-change-preserved c = uids_more _ _ _ c.loop-change-test.true (sym c.change-item.is) _ _ c.loop-change.invariant (elim c.match-uid_named.branch [
  | in-Some+in_ok-push w ↦ ap (λ uids. uids.items) w.uids-is
      ∙ names_with_some _ _ _ _ _ w.in_ok-push.ensures.items w.in-Some.is c.uid_named.ensures
  | in_default w ↦ ap (λ uids. uids.items) w.uids-is ∙ names_with_none _ _ _ w.in_default.is c.uid_named.ensures
])

pub returns-clause-named : goal.returns-clause-named
returns-clause-named c = sorted_members _ _ _ c.sort_unstable.ensures.permutation (subst (SameMembers c.loop-change.uids.items)
    (uids_whole _ _ _ c.loop-change-test.false c.loop-change.invariant) (λ uid. (λ among. among, λ among. among)))
