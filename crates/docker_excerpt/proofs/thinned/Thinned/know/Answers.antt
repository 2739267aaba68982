-- The key was added to the set.
use Rattle.cif_laws.proofs.Common.{rules}
use Rattle.docker_excerpt.proofs.ThinLemmas.{set_knows}
use Rattle.docker_excerpt.proofs.thinned.Thinned.know.Goals as goal

pub returns-in-Ok-clause-known : goal.returns-in-Ok-clause-known
returns-in-Ok-clause-known c = search (rules, set_knows)
