-- The schedule was appended, and its key was added to the set.
use Rattle.cif_laws.proofs.Common.{ap, sym, subst, rules, Vec}
use Rattle.cif_change.specs.declared.change.Change.{Change}
use Rattle.docker_excerpt.specs.Elsewhere.{elsewhere_meant}
use Rattle.docker_excerpt.specs.declared.thinned.Thinned.{Thinned}
use Rattle.docker_excerpt.proofs.ThinLemmas.{KeepsMore, elsewhere_pushed, thin_kept}
use Rattle.docker_excerpt.proofs.thinned.Thinned.keep_elsewhere.Goals as goal

pub returns : goal.returns
returns c = λ place day whole matters same.
    let old = c.args.self.now in
    let known = c.in_ok-know.ensures.same in
    thin_kept place day old _ whole (elsewhere_meant place c.args.schedule) (search rules) (search rules) c.in_ok-know.ensures.known
    (subst (λ (made : Vec Change). KeepsMore place old.made old.elsewhere (elsewhere_meant place c.args.schedule) made c.push.new.self)
    (sym (ap (λ (t : Thinned). t.made) known)) (elsewhere_pushed place old.made old.elsewhere c.args.schedule c.push.new.self (search rules))) matters same
