-- Lemmas on the last line of a text. If memory runs out at this line, the text is a CIF file if the
-- line is the trailer, and otherwise the text lacks its trailer.
use Rattle.cif_laws.proofs.Common.{◌≡◌, ℕ, ◌+◌, ◌<◌, ◌≢◌, ◌⊎◌, inl, inr, true, false, List, [], ◌∷◌, ◌++◌, length, subst, refl, ap, sym, ◌∙◌, Some, arith}
use Rattle.cif_laws.proofs.Common.{rules, ◌==◌, ◌↔◌, Err, Option, strip_carriage_return, HasKind, IsRecord, Lines, trailer, Kind, kind_of, lines_of}
use Rattle.cif_laws.proofs.Common.{complete_lines, sure_lines, IsFile}
use Rattle.cif_laws.specs.CompleteLines.{open_line}
use Rattle.cif_laws.specs.FileStage.{Place, place_by_kind, IsPlaceOf}
use Rattle.cif_laws.specs.RecordCause.{is_after_end}
use Rattle.cif_laws.proofs.files.CompleteLines.{lines_of_open}
use Rattle.cif_laws.proofs.files.FileStages.{begins_iff_place, place_of_more, next_by_test, stage_stops}
use Rattle.cif_laws.proofs.files.ReportedFaults.{length_at_end}
use Rattle.cif_change.specs.declared.cause.FileCause.TheVariants.{Memory, NoEnd}
use Rattle.cif_change.specs.Cause.{cause_meant}
use Rattle.cif_file.specs.declared.fault.FileFault.{FileFault}
use Rattle.cif_file.specs.declared.read.parser.FileReading.{FileReading}
use Rattle.cif_file.specs.KeeperRead.{Keeps}
use Rattle.cif_file.specs.RecordsRead.{GoesOnWith}
use Rattle.cif_file.specs.ParserRead.{IsCauseAfter, IsFaultNext, IsLastOfFile, IsReading, IsRefused, FaultsNext}
use Rattle.cif_file.proofs.FrontLemmas.{file_by_place}
use Rattle.cif_file.proofs.ParserLemmas.{end_fault, later_than, some_is_open, Ends}
use Rattle.cif_file.proofs.ReadLemmas.{memory_or_not}

-- a record leads the reader to the end of the file if and only if it is a trailer
trailer_iff : (place next : Place) (kind : Option Kind) (line : List ℕ) → place_by_kind place kind line ≡ Some next
    → (is_after_end next ≡ true) ↔ (kind ≡ Some trailer)
trailer_iff = search (rules, stage_stops)

-- ---- the fault that is returned for the last line

-- what the fault says that is returned when the last line of a text is refused
pub record IsToldLast (wants : Type 0) (limit : ℕ) (text : List ℕ) (told : FileFault) : Type 0 where
  pub refused : IsRefused limit text told
  pub later : sure_lines text < told.number
  pub wanted : told.cause ≡ Memory → wants
  pub last : told.cause ≡ Memory → IsLastOfFile limit text told.number

-- the fault that memory ran out, or the fault of the last line, is returned as it is; or the text lacks its trailer
pub told_last : {K : Type 0} (keeps : Keeps K) (wants : Type 0) (reading : FileReading K) (limit : ℕ) (text line : List ℕ) (fault told : FileFault)
    → IsReading keeps reading limit text → 0 < length (open_line text) → line ≡ strip_carriage_return (open_line text)
    → IsFaultNext wants limit (complete_lines text) line fault
    → (fault.cause ≢ Memory → told ≡ fault) → (HasKind trailer line → IsRecord line → told ≡ fault)
    → (fault.cause ≡ Memory → IsRecord line → ¬ HasKind trailer line → fault.number < 4294967295 → told ≡ record { number = fault.number + 1; cause = NoEnd })
    → IsToldLast wants limit text told
told_last keeps wants reading limit text line fault told is some strip next other trailing cut = by (memory_or_not fault.cause)
  where
    records : Lines
    records = complete_lines text

    whole : lines_of text ≡ records ++ line ∷ []
    whole = lines_of_open text some ∙ ap (λ (l : List ℕ). records ++ l ∷ []) (sym strip)

    size : length (lines_of text) ≡ length records + 1
    size = length_at_end text some

    refused : IsRefused limit text fault
    refused = end_fault keeps reading limit text is wants fault some (subst (λ l. IsFaultNext wants limit records l fault) strip next)

    later : sure_lines text < fault.number
    later = later_than keeps reading limit text is fault next.number

    wanting : fault.cause ≡ Memory → wants × (length records < limit) × GoesOnWith records line
    wanting memory = subst (λ cause. IsCauseAfter wants limit records line (cause_meant cause)) memory next.cause

    at_end : fault.cause ≡ Memory → IsToldLast wants limit text told
    at_end memory =
        let want = wanting memory in
        let reached = want.2.0 in
        let step = next_by_test is.counted.has.place line reached (sym (place_of_more records is.counted.has.place line is.counted.has.at) ∙ want.2.1) in
        let by_trailer = trailer_iff is.counted.has.place reached (kind_of line) line step.place_is in
        let by_place = file_by_place (records ++ line ∷ []) reached want.2.1 in
        let under = want.1 in
        (elim (is_after_end reached) as (λ b. is_after_end reached ≡ b → IsToldLast wants limit text told) [
          | true ↦ λ end.
              subst (IsToldLast wants limit text) (sym (trailing (by_trailer.0 end) step.is)) (record {
                refused = refused;
                later = later;
                wanted = λ _. want.0;
                last = λ _. (
                  next.number ∙ sym size,
                  record { lines = refl; is = subst IsFile (sym whole) (by_place.0 end); within = omega (arith, size, under) },
                );
              })
          | false ↦ λ end.
              let no_trailer : ¬ HasKind trailer line = λ kind. let bad : true ≡ false = sym (by_trailer.1 kind) ∙ end in cc in
              let room = reading.records.room in
              let limit_is = is.counted.limit_is in
              let number = next.number in
              subst (IsToldLast wants limit text) (sym (cut memory step.is no_trailer (omega (arith, room, limit_is, number, under)))) (record {
                refused = inr (record {
                  within = omega (arith, size, under);
                  begin = (begins_iff_place (lines_of text)).1 (reached, subst (λ (l : Lines). IsPlaceOf l reached) (sym whole) want.2.1);
                  unended = λ is_file. let bad : true ≡ false = sym (by_place.1 (subst IsFile whole is_file)) ∙ end in cc;
                  number = omega (arith, size, number);
                  cause = refl;
                });
                later = omega (arith, later);
                wanted = λ memory. absurd cc;
                last = λ memory. absurd cc;
              })
        ]) refl

    by : (fault.cause ≡ Memory) ⊎ (fault.cause ≢ Memory) → IsToldLast wants limit text told
    by (inl memory) = at_end memory
    by (inr good) = subst (IsToldLast wants limit text) (sym (other good))
        (record { refused = refused; later = later; wanted = λ memory. absurd (good memory); last = λ memory. absurd (good memory) })

-- the fault of the last line means for the text what it means for the line
pub last_line : {K : Type 0} (keeps : Keeps K) (wants : Type 0) (reading : FileReading K) (raw line : List ℕ) (fault told : FileFault)
    → false ≡ (length reading.partial.items == 0) → raw ≡ reading.partial.items → line ≡ strip_carriage_return raw
    → FaultsNext keeps wants reading.records line fault
    → (fault.cause ≢ Memory → told ≡ fault) → (HasKind trailer line → IsRecord line → told ≡ fault)
    → (fault.cause ≡ Memory → IsRecord line → ¬ HasKind trailer line → fault.number < 4294967295 → told ≡ record { number = fault.number + 1; cause = NoEnd })
    → Ends keeps wants reading (Err told)
last_line keeps wants reading raw line fault told some same strip next other trailing cut =
    let at : (limit : ℕ) (text : List ℕ) → IsReading keeps reading limit text → IsToldLast wants limit text told =
    λ limit text is. told_last keeps wants reading limit text line fault told is (some_is_open keeps reading limit text is some)
    (strip ∙ ap strip_carriage_return (same ∙ is.partial_is)) (next limit (complete_lines text) is.counted) other trailing cut in
    record {
      ok = tt;
      err = λ limit text is. (at limit text is).refused;
      later = λ limit text is. ((at limit text is).later, (at limit text is).wanted);
      last = λ memory limit text is. (at limit text is).last memory;
    }
