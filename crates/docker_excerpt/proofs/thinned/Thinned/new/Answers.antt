-- Before the first change, no change has to be kept.
use Rattle.cif_laws.proofs.Common.{refl}
use Rattle.docker_excerpt.proofs.ThinLemmas.{none_thinned}
use Rattle.docker_excerpt.proofs.thinned.Thinned.new.Goals as goal

pub returns : goal.returns
returns c = none_thinned c.args.place c.args.day _ refl refl c.new-2.ensures.items c.new-3.ensures.items
