-- Defines what a reader returns for a CIF file if it kept only what the docker of one place on one
-- day needs.
use Rattle.std.specs.Prelude.{◌≡◌, ℕ, List, map}
use Rattle.std.specs.Global.{Vec}
use Rattle.docker_model.specs.file.Change.{Change}
use Rattle.docker_laws.specs.Thinning.{IsThinning, HasUidsOf, wanted_changes}
use Rattle.cif_change.specs.Meaning.{change_meant}
use Rattle.cif_file.specs.declared.file.parts.FileParts.{FileParts}
use Rattle.cif_file.specs.FileRead.{FileRead, IsRead}
use Rattle.docker_excerpt.specs.declared.elsewhere.Elsewhere.{Elsewhere}
use Rattle.docker_excerpt.specs.Elsewhere.{all_kept, HaveSame}

-- a file that was read, the place and the day of a docker, and the changes that were kept for this
-- docker
pub record ThinRead : Type 0 where
  pub place : List ℕ
  pub day : ℕ
  pub file : FileRead
  pub kept : List Change

-- Says that the file was read from the records of a CIF file. Also says that the kept changes are a thinning of the file's changes for the place and the day,
-- though perhaps in another order or number.
pub record IsThinRead (thin : ThinRead) : Type 0 where
  pub read : IsRead thin.file
  pub thinned : List Change
  pub thinning : IsThinning thin.place thin.day thin.file.changes_made thinned
  pub same : HaveSame thinned thin.kept

-- converts the parts of a thin file to the thin file. `all` has all changes of the file, kept or
-- not
abbrev pub thin_of_parts : List ℕ → ℕ → List Change → FileParts → Vec Elsewhere → ThinRead
thin_of_parts place day all parts elsewhere = record {
  place = place;
  day = day;
  file = record { header_line = parts.header; record_count = parts.records; changes_made = all };
  kept = all_kept place parts.changes elsewhere;
}

-- Says that these are the parts of a thin file.
abbrev pub AreThinParts : List ℕ → ℕ → List Change → FileParts → Vec Elsewhere → Type 0
AreThinParts place day all parts elsewhere = IsThinRead (thin_of_parts place day all parts elsewhere)

-- Says that the parts have the header and the number of records of the thin file, and the kept changes that its docker needs. The docker needs the changes
-- to TIPLOCs and associations, and the changes to schedules of certain UIDs.
pub record AreNeededParts (thin : ThinRead) (parts : FileParts) : Type 0 where
  pub header : parts.header ≡ thin.file.header_line
  pub records : parts.records ≡ thin.file.record_count
  pub uids : List (List ℕ)
  pub has_uids : HasUidsOf thin.place thin.kept uids
  pub same : HaveSame (map change_meant parts.changes.items) (wanted_changes uids thin.kept)
