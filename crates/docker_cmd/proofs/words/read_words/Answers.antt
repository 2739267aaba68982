use Rattle.cif_laws.proofs.Common.{◌≡◌, ◌∙◌, ◌⊎◌, ap, subst, sym}
use Rattle.clap.specs.Faults.{fault_of}
use Rattle.clap.specs.Kinds.{IsAmong}
use Rattle.clap.specs.declared.error.ErrorKind.TheVariants.{OutOfMemory}
use Rattle.docker_cmd.specs.Grammar.{docker_app, found_in}
use Rattle.docker_cmd.specs.Words.{texts}
use Rattle.docker_cmd.proofs.WordsLemmas.{IsRead, not_plain, plain_texts, read_found, words_found, words_refused}
use Rattle.docker_cmd.proofs.words.read_words.Goals as goal

pub returns-then-not-are_plain-clause-usage : goal.returns-then-not-are_plain-clause-usage
returns-then-not-are_plain-clause-usage c = λ usage. not_plain (texts c.args.words.now) (plain_texts c.args.words.now _ c.if-not-are_plain.ensures)

read : (c : goal.Joined-found) → IsRead (λ held. texts held.items) (texts c.args.words.now) c.ok_or.result
read c = subst (IsRead (λ held. texts held.items) (texts c.args.words.now)) (sym c.ok_or.ensures.value)
    (read_found (λ held. texts held.items) (texts c.args.words.now) c.found_subcommand.result _
    (words_found (texts c.args.words.now) (plain_texts c.args.words.now _ c.if-not-are_plain.ensures) c.in-Ok.ensures.kinds)
    (c.found_subcommand.ensures ∙ ap found_in c.in-Ok.ensures.subcommand))

pub returns-in-Ok-clause-named : goal.returns-in-Ok-clause-named
returns-in-Ok-clause-named c = (read c).0

pub returns-in-Ok-clause-usage : goal.returns-in-Ok-clause-usage
returns-in-Ok-clause-usage c = (read c).1

pub returns-in-Err-clause-usage : goal.returns-in-Err-clause-usage
returns-in-Err-clause-usage c = λ usage.
    let words = texts c.args.words.now in
    words_refused words c.kind.result (plain_texts c.args.words.now _ c.if-not-are_plain.ensures)
    (subst (λ kind. (kind ≡ OutOfMemory) ⊎ IsAmong kind (fault_of docker_app words)) (sym c.kind.ensures) c.in-Err.ensures.kinds)
    (c.fault_at.ensures.usage (cc))
