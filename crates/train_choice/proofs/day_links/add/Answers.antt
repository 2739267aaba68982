use Rattle.cif_laws.proofs.Common.{ap, sym, subst, ◌∙◌, Some, Updates, get, on, Group, association_choice_cmp, group_of}
use Rattle.docker_laws.specs.LiveRows.{Link}
use Rattle.train_choice.specs.Known.{group_cmp}
use Rattle.train_choice.proofs.BestSoFar.{told_better}
use Rattle.train_choice.proofs.Known.{not_running, better_there, best_of_group}
use Rattle.train_choice.proofs.day_links.add.Goals as goal

pub returns-then-not-runs_on : goal.returns-then-not-runs_on
returns-then-not-runs_on c = not_running c.args.day c.args.link c.args.best.now (sym c.runs_on.ensures ∙ c.if-not-runs_on.true)

pub returns-then-not-is_better : goal.returns-then-not-is_better
returns-then-not-is_better c = better_there c.args.day c.args.link c.args.best.now
    (told_better (on (λ (l : Link). l.key) association_choice_cmp) c.args.link _ _ _
    (c.get.ensures.value ∙ ap (get group_cmp c.args.best.now) (c.of-group.ensures ∙ ap group_of c.key.ensures)) c.is_better.ensures
    ∙ c.if-not-is_better.true)

pub returns : goal.returns
returns c =
    let group = c.of-group.ensures ∙ ap group_of c.key.ensures in
    best_of_group c.args.day c.args.link c.args.best.now c.insert.new.self (sym c.runs_on.ensures ∙ c.if-not-runs_on.false)
    (told_better (on (λ (l : Link). l.key) association_choice_cmp) c.args.link _ _ _
    (c.get.ensures.value ∙ ap (get group_cmp c.args.best.now) group) c.is_better.ensures ∙ c.if-not-is_better.false)
    (subst (λ (g : Group). Updates group_cmp c.args.best.now c.insert.new.self g (Some c.args.link)) group c.in_ok-insert.ensures.updates)
