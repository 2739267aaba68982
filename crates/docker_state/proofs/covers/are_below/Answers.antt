use Rattle.cif_laws.proofs.Common.{subst, Option, IsKept}
use Rattle.docker_join.specs.declared.stamp.FileStamp.{FileStamp}
use Rattle.docker_join.specs.Meaning.{file_stamp_meant, floor_meant}
use Rattle.docker_state.proofs.NothingToStage.{not_kept}
use Rattle.docker_state.proofs.covers.are_below.Goals as goal

pub returns-in-Some : goal.returns-in-Some
returns-in-Some c = λ told item among kept.
    not_kept item.stamp (file_stamp_meant c.in-Some.least) (c.is_above_all.ensures told item among)
    (subst (λ (floor : Option FileStamp). IsKept (floor_meant floor) item.stamp) c.in-Some.is kept)
