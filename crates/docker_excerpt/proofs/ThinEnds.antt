-- Lemmas on what the reader returns at the end of a file if it kept only what the docker of a place
-- on a day needs.
use Rattle.cif_laws.proofs.Common.{◌≡◌, ℕ, ◌≤◌, List, subst, sym, arith, rules, Option, most_records}
use Rattle.cif_file.specs.declared.file.ended.Ended.{Ended}
use Rattle.docker_excerpt.specs.declared.thin_kept.ThinSoFar.{ThinSoFar}
use Rattle.cif_file.specs.EndedRead.{IsEnded}
use Rattle.cif_file.specs.FileRead.{IsOfRecords}
use Rattle.cif_file.specs.SourceRead.{ReadsEnded}
use Rattle.docker_excerpt.specs.Elsewhere.{all_kept, HaveSame}
use Rattle.docker_excerpt.specs.ThinKept.{KeepsThin}
use Rattle.docker_excerpt.specs.ThinRead.{AreThinParts}
use Rattle.docker_excerpt.specs.ThinEnded.{ReadsThin, thin_parts_ended, thin_ended}

module _ {P : Type 0} (place : List ℕ) (day : ℕ) where
  -- the header, the number of records and the changes in the thin file are correct for the records
  -- that were read
  file_of : (records : List (List ℕ)) (ended : Ended (ThinSoFar P)) → IsEnded (KeepsThin place day) records ended
      → IsOfRecords (thin_ended ended).file records
  file_of records ended is = record { header_is = is.header_is; count_is = is.count_is; changes_are = is.kept.so_far }

  -- if the reader returns a thin file for the text that a source held, it is a thin file of that text
  pub reads_thin : (there : List ℕ) (on : ℕ) (limit : ℕ) (left : Option (List ℕ)) (ended : Ended (ThinSoFar P)) → there ≡ place → on ≡ day
      → ReadsEnded (KeepsThin place day) limit left ended → ReadsThin there on limit left (thin_ended ended)
  reads_thin = search (rules, file_of)

  -- the parts that the reader returns belong to the thin file
  pub reads_thin_parts : (limit : ℕ) (left : Option (List ℕ)) (ended : Ended (ThinSoFar P)) → limit ≤ most_records
      → ReadsEnded (KeepsThin place day) limit left ended
      → AreThinParts ended.keeper.thinned.place ended.keeper.thinned.day ended.keeper.so_far.changes (thin_parts_ended ended) ended.keeper.thinned.elsewhere
  reads_thin_parts limit left ended few reads =
      let is = reads.of_text in
      let within = is.is_text.within in
      record {
        read = record { records = is.records; of_records = file_of is.records ended is.of_records; is_file = is.is_text.is; few = omega arith };
        thinned = is.of_records.kept.thinned.kept;
        thinning = let has = is.of_records.kept.thinned in search rules;
        same =
            let has = is.of_records.kept.thinned in
            subst (λ p. HaveSame has.kept (all_kept p ended.keeper.thinned.made ended.keeper.thinned.elsewhere)) (sym has.place_is) has.made;
      }
