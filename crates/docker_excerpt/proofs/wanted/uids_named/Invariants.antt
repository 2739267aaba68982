-- The UIDs are those that the keys of the changes before the current one name.
use Rattle.cif_laws.proofs.Common.{◌≡◌, take, filter_map}
use Rattle.cif_change.specs.Meaning.{key_meant}
use Rattle.cif_change.specs.declared.change.Change.{Change}
use Rattle.docker_excerpt.specs.Elsewhere.{uid_named}
use Rattle.docker_excerpt.proofs.wanted.uids_named.Given as goal

abbrev pub invariant-loop-change : goal.invariant-loop-change
invariant-loop-change l = l.uids.items ≡ filter_map (λ (change : Change). uid_named (key_meant change.key)) (take l.change-index l.made)
