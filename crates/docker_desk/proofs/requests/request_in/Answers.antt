use Rattle.cif_laws.proofs.Common.{◌∙◌, ap, sym, true≢false}
use Rattle.docker_desk.specs.Requests.{first_word, after_word}
use Rattle.docker_desk.proofs.RequestLemmas.{asked_by, no_verb, not_allowed}
use Rattle.docker_desk.proofs.requests.request_in.Goals as goal

pub returns-in_err-verb : goal.returns-in_err-verb
returns-in_err-verb c = rw c.from_residual-in_err-verb.ensures
    (no_verb c.args.may_write c.args.line.now c.in_ok-name.name.now (c.in_ok-name.ensures.word ∙ ap first_word c.text_of.ensures) c.in_err-verb.ensures)

pub returns-then-is_allowed : goal.returns-then-is_allowed
returns-then-is_allowed c = asked_by _ _ _ _ (c.in_ok-name.ensures.word ∙ ap first_word c.text_of.ensures) c.in_ok-verb.ensures
    _ _ (c.in_ok-name.ensures.behind ∙ ap after_word c.text_of.ensures) (c.is_allowed.ensures.0 c.if-is_allowed.true) c.request_of.ensures

pub returns : goal.returns
returns c = not_allowed _ _ _ _ (c.in_ok-name.ensures.word ∙ ap first_word c.text_of.ensures) c.in_ok-verb.ensures
    (λ allowed. true≢false (sym (c.is_allowed.ensures.1 allowed) ∙ c.if-is_allowed.false))
