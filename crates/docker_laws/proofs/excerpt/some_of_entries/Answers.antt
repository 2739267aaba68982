use Rattle.docker_laws.proofs.dockers.ExcerptState.{entries_more, still_here, entry_behind, some_entries, some_valid}
use Rattle.docker_laws.proofs.excerpt.some_of_entries.Goals as goal

pub returns-clause-more : goal.returns-clause-more
returns-clause-more c = entries_more

pub returns-clause-still : goal.returns-clause-still
returns-clause-still c = still_here

pub returns-clause-behind : goal.returns-clause-behind
returns-clause-behind c = entry_behind

pub returns-clause-some : goal.returns-clause-some
returns-clause-some c = some_entries

pub returns-clause-valid : goal.returns-clause-valid
returns-clause-valid c = some_valid
