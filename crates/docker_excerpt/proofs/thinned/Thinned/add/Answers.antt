-- A change whose key can't matter at the place is dropped. Any other change is kept unchanged.
use Rattle.cif_laws.proofs.Common.{rules}
use Rattle.cif_file.proofs.FrontLemmas.{on_ok_one}
use Rattle.docker_excerpt.proofs.ThinLemmas.{elsewhere_dropped}
use Rattle.docker_excerpt.proofs.thinned.Thinned.add.Goals as goal

pub returns-then-not-may_matter : goal.returns-then-not-may_matter
returns-then-not-may_matter c = search (rules, elsewhere_dropped)

pub returns : goal.returns
returns c = on_ok_one c.keep.result c.keep.ensures (λ kept. search rules)
