use Rattle.cif_laws.proofs.Common.{ap, sym, ◌∙◌, inl, inr, find, codes, has_identity}
use Rattle.std.specs.Option.{option_copied}
use Rattle.train_choice.proofs.NoEvents.{no_events}
use Rattle.train_choice.proofs.ends.ends_of.Goals as goal

pub returns-in_err-origin-clause-none : goal.returns-in_err-origin-clause-none
returns-in_err-origin-clause-none c = λ none. no_events _ _ c.lines-lines.ensures.kept
    (inl ((λ i. find (λ line. has_identity (codes "LO") line) (sym c.lines-lines.ensures.lines i)) ∙ sym c.first_of.ensures
    ∙ ap option_copied c.in_err-origin.was))

pub returns-in_err-terminus-clause-none : goal.returns-in_err-terminus-clause-none
returns-in_err-terminus-clause-none c = λ none. no_events _ _ c.lines-lines.ensures.kept
    (inr ((λ i. find (λ line. has_identity (codes "LT") line) (sym c.lines-lines.ensures.lines i)) ∙ sym c.first_of-2.ensures
    ∙ ap option_copied c.in_err-terminus.was))
