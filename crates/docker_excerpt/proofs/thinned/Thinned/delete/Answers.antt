-- If no change to the key was kept, the deletion is dropped. Otherwise the deletion is kept.
use Rattle.cif_laws.proofs.Common.{rules}
use Rattle.cif_file.proofs.FrontLemmas.{on_ok_one}
use Rattle.docker_excerpt.proofs.ThinLemmas.{deletion_dropped}
use Rattle.docker_excerpt.proofs.thinned.Thinned.delete.Goals as goal

pub returns-then-not-has_kept : goal.returns-then-not-has_kept
returns-then-not-has_kept c = search (rules, deletion_dropped)

pub returns : goal.returns
returns c = on_ok_one c.keep.result c.keep.ensures (λ kept. search rules)
