use Rattle.cif_laws.proofs.Common.{rules}
use Rattle.docker_desk.proofs.SessionWordsLemmas.{named_to_write}
use Rattle.docker_desk.proofs.session_words.session_words_in.Goals as goal

pub returns-else-not-is_write-clause-named : goal.returns-else-not-is_write-clause-named
returns-else-not-is_write-clause-named c = named_to_write _ _ _ _ _
    c.in-len2.len_at_least c.in-len2.len_below (search rules) c.session_words_of-in-len2.ensures.named
