use Rattle.cif_laws.proofs.Common.{rules, filter_same}
use Rattle.docker_laws.specs.Thinning.{is_wanted}
use Rattle.cif_change.specs.Meaning.{key_meant}
use Rattle.cif_change.specs.declared.key.Key.TheVariants as key
use Rattle.docker_excerpt.specs.declared.elsewhere.Elsewhere.{Elsewhere}
use Rattle.docker_excerpt.proofs.wanted.wanted.Goals as goal

pub returns : goal.returns
returns c =
    filter_same _ (λ (one : Elsewhere). is_wanted c.args.uids.now (key_meant (key.Schedule one.key))) _ (λ x b q h. search rules)
    c.args.elsewhere.items c.retain.new.self.items c.retain.ensures.filtered
