use Rattle.docker_excerpt.proofs.NameSearch.{found_iff}
use Rattle.docker_excerpt.proofs.needs.has_name.Goals as goal

pub returns : goal.returns
returns c = found_iff _ _ c.requires _ c.binary_search.ensures.bound c.binary_search.ensures.position _ c.is_ok.ensures.value
