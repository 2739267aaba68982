use Rattle.std.proofs.Common.{◌≡◌, refl, ◌∙◌, ap, get_or}
use Rattle.std.proofs.lemmas.List.{get_or_default}
use Rattle.docker_model.specs.run.Knowledge.{message_text}
use Rattle.docker_office.specs.Office.{no_state}
use Rattle.docker_office.specs.RunMeaning.{texts_of}
use Rattle.docker_office.proofs.MetEvents.{reload_missing, reload_met}
use Rattle.docker_office.proofs.steps.Holdings.reload.Goals as goal

pub returns-in-Some-clause-met : goal.returns-in-Some-clause-met
returns-in-Some-clause-met c = λ known holds. reload_missing known c.args.self.now holds c.args.office c.args.message c.in-Some.fault c.in-Some.ensures.some

pub returns-in-None-clause-met : goal.returns-in-None-clause-met
returns-in-None-clause-met c =
    λ known holds.
    let own : c.index_mut.result.now ≡ get_or c.args.self.now.offices.items c.args.office no_state =
    c.index_mut.ensures.value
    ∙ get_or_default c.args.self.now.offices.items c.args.office c.index_mut.result.now no_state c.in-None.ensures.office in
    reload_met known c.args.self.now holds c.args.office c.args.message c.text_at-text.result.now c.in-None.ensures.office c.in-None.ensures.message
    (c.text_at-text.ensures.text ∙ ap (λ kept. message_text (texts_of kept) c.args.message) c.as_slice.ensures.value) c.text_at-text.ensures.short
    c.reload_text.new.office _ (record { offices = refl; messages = refl }) c.reload_text.result
    c.reply_to.result c.reply_to.ensures
    c.reload_text.ensures.ok
    (λ wrong. c.reload_text.ensures.unchanged wrong ∙ own) c.reload_text.ensures.state c.reload_text.ensures.source c.reload_text.ensures.only
