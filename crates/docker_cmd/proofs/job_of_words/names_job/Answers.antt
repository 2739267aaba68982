use Rattle.cif_laws.proofs.Common.{refl}
use Rattle.docker_cmd.specs.Words.{texts}
use Rattle.docker_cmd.proofs.JobOfWordsLemmas.{behind_asks, no_plain_job, unnamed_job}
use Rattle.docker_cmd.proofs.WordsLemmas.{plain_texts}
use Rattle.docker_cmd.proofs.job_of_words.names_job.Goals as goal

pub returns-then-are_plain : goal.returns-then-are_plain
returns-then-are_plain c =
    behind_asks c.args.words.now _ c.in-Some.subcommand c.asks.result c.in-len1-up.len_at_least c.in-Some.ensures
    (plain_texts c.args.words.now _ c.if-are_plain.ensures) c.asks.ensures

pub returns-else-are_plain : goal.returns-else-are_plain
returns-else-are_plain c =
    ((λ never. no_plain_job (texts c.args.words.now) (plain_texts c.args.words.now _ c.if-are_plain.ensures)), (λ none. c.if-are_plain.false))

pub returns-in-None : goal.returns-in-None
returns-in-None c = ((λ never. unnamed_job c.args.words.now _ c.in-len1-up.len_at_least c.in-None.ensures), (λ none. refl))
