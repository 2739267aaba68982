use Rattle.std.proofs.Common.{◌≡◌, length, Some, refl, ◌∙◌, ap, subst, get_or}
use Rattle.std.proofs.lemmas.List.{get_or_default}
use Rattle.docker_bytes.specs.SourceRead.{JoinsState}
use Rattle.docker_model.specs.state.StateText.{dks_2}
use Rattle.docker_model.specs.run.Knowledge.{message_text}
use Rattle.docker_office.specs.Office.{no_state}
use Rattle.docker_office.specs.RunMeaning.{texts_of}
use Rattle.docker_office.proofs.MetEvents.{delivery_missing, delivery_met}
use Rattle.docker_office.proofs.steps.Holdings.deliver.Goals as goal

pub returns-in-Some-clause-met : goal.returns-in-Some-clause-met
returns-in-Some-clause-met c = λ known holds. delivery_missing known c.args.self.now holds c.args.office c.args.message c.in-Some.fault c.in-Some.ensures.some

pub returns-in-None-clause-met : goal.returns-in-None-clause-met
returns-in-None-clause-met c =
    λ known holds.
    let own : c.index_mut.result.now ≡ get_or c.args.self.now.offices.items c.args.office no_state =
    c.index_mut.ensures.value
    ∙ get_or_default c.args.self.now.offices.items c.args.office c.index_mut.result.now no_state c.in-None.ensures.office in
    delivery_met known c.args.self.now holds c.args.office c.args.message c.text_at-text.result.now c.in-None.ensures.office c.in-None.ensures.message
    (c.text_at-text.ensures.text ∙ ap (λ kept. message_text (texts_of kept) c.args.message) c.as_slice.ensures.value) c.text_at-text.ensures.short
    c.receive_text.new.office _ (record { offices = refl; messages = refl }) c.receive_text.result
    c.reply_to.result c.reply_to.ensures
    (λ done. subst (λ s. JoinsState dks_2 (length c.text_at-text.result.now) (Some c.text_at-text.result.now) s c.receive_text.new.office) own
    (c.receive_text.ensures.ok done))
    (λ wrong. c.receive_text.ensures.unchanged wrong ∙ own) c.receive_text.ensures.state c.receive_text.ensures.source c.receive_text.ensures.only
