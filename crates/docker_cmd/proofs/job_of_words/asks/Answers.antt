use Rattle.cif_laws.proofs.Common.{refl}
use Rattle.docker_cmd.proofs.JobOfWordsLemmas.{miscounted}
use Rattle.docker_cmd.proofs.job_of_words.asks.Goals as goal

pub returns-then-words-ids : goal.returns-then-words-ids
returns-then-words-ids c = ((λ never. miscounted _ _ _ c.ids.ensures c.if-words-ids.true), (λ none. refl))
