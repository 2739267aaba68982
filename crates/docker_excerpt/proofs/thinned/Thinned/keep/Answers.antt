-- The change was appended, and its key was added to the set.
use Rattle.cif_laws.proofs.Common.{ap, sym, subst, rules, Vec}
use Rattle.cif_change.specs.Meaning.{change_meant}
use Rattle.docker_excerpt.specs.declared.elsewhere.Elsewhere.{Elsewhere}
use Rattle.docker_excerpt.specs.declared.thinned.Thinned.{Thinned}
use Rattle.docker_excerpt.proofs.ThinLemmas.{KeepsMore, made_pushed, thin_kept}
use Rattle.docker_excerpt.proofs.thinned.Thinned.keep.Goals as goal

pub returns : goal.returns
returns c = λ place day whole matters same.
    let old = c.args.self.now in
    let known = c.in_ok-know.ensures.same in
    thin_kept place day old _ whole (change_meant c.args.change) (search rules) (search rules) c.in_ok-know.ensures.known
    (subst (λ (others : Vec Elsewhere). KeepsMore place old.made old.elsewhere (change_meant c.args.change) c.push.new.self others)
    (sym (ap (λ (t : Thinned). t.elsewhere) known)) (made_pushed place old.made old.elsewhere c.args.change c.push.new.self (search rules))) matters same
