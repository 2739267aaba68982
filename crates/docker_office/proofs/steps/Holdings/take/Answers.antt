use Rattle.std.proofs.Common.{◌≡◌, Some, arith, refl, ◌∙◌, subst, get_or}
use Rattle.std.proofs.lemmas.List.{get_or_read_under}
use Rattle.docker_office.specs.Office.{TakesFile, no_state}
use Rattle.docker_office.proofs.MetEvents.{take_without_office, take_met}
use Rattle.docker_office.proofs.steps.Holdings.take.Goals as goal

pub returns-then-office-len-clause-met : goal.returns-then-office-len-clause-met
returns-then-office-len-clause-met c = λ known holds. take_without_office _ _ holds _ _ _ (omega arith)

pub returns-clause-met : goal.returns-clause-met
returns-clause-met c =
    λ known holds.
    let own : c.index_mut.result.now ≡ get_or c.args.self.now.offices.items c.args.office no_state =
    get_or_read_under c.args.self.now.offices.items c.args.office c.len.result c.index_mut.result.now no_state c.index_mut.ensures.value (omega arith)
    (omega arith) in
    take_met known c.args.self.now holds c.args.office c.args.text.now c.args.limit (omega arith) c.take_text.new.office _
    (record { offices = refl; messages = refl }) c.take_text.result c.reply_to.result c.reply_to.ensures c.requires
    (λ taken. subst (λ s. TakesFile c.args.limit (Some c.args.text.now) s c.take_text.new.office) own (c.take_text.ensures.ok taken))
    (λ wrong. c.take_text.ensures.unchanged wrong ∙ own) c.take_text.ensures.file c.take_text.ensures.source c.take_text.ensures.only
