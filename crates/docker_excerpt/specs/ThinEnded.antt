-- Defines what the reader of a thin file returns at the end of the file.
use Rattle.std.specs.Prelude.{◌≡◌, ℕ, List, Option}
use Rattle.cif_file.specs.declared.file.ended.Ended.{Ended}
use Rattle.cif_file.specs.declared.file.parts.FileParts.{FileParts}
use Rattle.cif_file.specs.SourceRead.{ReadsText}
use Rattle.docker_excerpt.specs.declared.thin_kept.ThinSoFar.{ThinSoFar}
use Rattle.docker_excerpt.specs.ThinRead.{ThinRead, thin_of_parts}

-- converts the `Ended` of a keeper that keeps only what the docker of a place on a day needs. The
-- result has the parts of the thin file
abbrev pub thin_parts_ended : {P : Type 0} → Ended (ThinSoFar P) → FileParts
thin_parts_ended ended = record {
  header = ended.header;
  records = ended.records;
  changes = ended.keeper.thinned.made;
}

-- converts the `Ended` of a keeper that keeps only what the docker of a place on a day needs. The
-- result is the thin file
abbrev pub thin_ended : {P : Type 0} → Ended (ThinSoFar P) → ThinRead
thin_ended ended =
    thin_of_parts ended.keeper.thinned.place ended.keeper.thinned.day ended.keeper.so_far.changes (thin_parts_ended ended) ended.keeper.thinned.elsewhere

-- Says that the source held the text of a file within the limit on records, and that this is the
-- file's thin file for the place and the day.
pub record ReadsThin (place : List ℕ) (day limit : ℕ) (left : Option (List ℕ)) (thin : ThinRead) : Type 0 where
  pub reads : ReadsText limit left thin.file
  pub place_is : thin.place ≡ place
  pub day_is : thin.day ≡ day
