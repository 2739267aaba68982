-- The changes so far, followed by the puts of the remaining schedules, are all changes.
use Rattle.cif_laws.proofs.Common.{◌≡◌, ◌++◌, map}
use Rattle.docker_laws.specs.Thinning.{ends_elsewhere}
use Rattle.cif_change.specs.Meaning.{change_meant}
use Rattle.docker_excerpt.specs.Elsewhere.{elsewhere_meant, all_kept}
use Rattle.docker_excerpt.proofs.wanted.with_bodies.Given as goal

abbrev pub invariant-loop-schedule : goal.invariant-loop-schedule
invariant-loop-schedule l = record {
  ends : l.ends ≡ ends_elsewhere l.place;
  whole : map change_meant l.changes.items ++ map (elsewhere_meant l.place) l.schedule-iterator.rest.items ≡ all_kept l.place l.fn.changes l.fn.elsewhere;
}
