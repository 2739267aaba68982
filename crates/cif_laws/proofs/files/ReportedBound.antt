-- If the first bytes of a text determine no fault, their number is bounded. Each complete line has
-- at most 82 bytes with its line feed, and the incomplete line has at most 81.
use Rattle.cif_laws.proofs.Common.{◌≡◌, ℕ, List, length, ◌∷◌, Some, ◌+◌, ◌<◌, arith, refl, Bool, ◌*◌, ◌≤◌, map, inl, inr, [], rules, ◌==◌, AllByRecursion}
use Rattle.cif_laws.proofs.Common.{slice_split, strip_carriage_return, length-map, slice_split-cons_yes, length-slice_split, Lines, FileFault, IsFaultSoFar}
use Rattle.cif_laws.proofs.Common.{complete_lines}
use Rattle.std.specs.List.{onto_first}
use Rattle.std.proofs.lemmas.List.Splits.{slice_split-cons_no}
use Rattle.docker_model.specs.file.FaultSoFar.{last_of}
use Rattle.cif_laws.specs.FileStage.{Place, next_place, place_from, before_header}
use Rattle.docker_model.specs.file.Text.{but_last, pieces_of}
use Rattle.cif_laws.proofs.lists.BoolsAndOptions.{then_some}
use Rattle.cif_laws.proofs.files.FileStages.{next_by_test, begins_iff_place}
use Rattle.cif_laws.proofs.files.ReportedFaults.{strip_long, TellsNoFault, fault_so_far_or_none}

abbrev Has80 : List ℕ → Type 0
Has80 line = length line ≡ 80

-- if records lead the reader to a `Place`, each record has 80 bytes
records_of_80 : (records : Lines) (place final : Place) → place_from place records ≡ Some final → AllByRecursion Has80 records
records_of_80 [] place final reached = tt
records_of_80 (line ∷ rest) place final reached =
    let next = then_some (λ (n : Place). place_from n rest) (next_place place line) final reached in
    ((next_by_test place line next.0 next.1).is.0, records_of_80 rest next.0 final next.2)

-- the number of bytes in these pieces of a split text, plus one for each piece
bytes_in : Lines → ℕ
bytes_in [] = 0
bytes_in (piece ∷ pieces) = length piece + 1 + bytes_in pieces

bytes_more : (b : ℕ) (pieces : Lines) → 0 < length pieces → bytes_in (onto_first b pieces) ≡ bytes_in pieces + 1
unfolding bytes_in
bytes_more = search rules

-- for the pieces of a split text, `bytes_in` is the length of the text plus one, since no separator
-- follows the last piece
bytes_of_split : (p : ℕ → Bool) (text : List ℕ) → bytes_in (slice_split p text) ≡ length text + 1
unfolding bytes_in
bytes_of_split p [] = refl
bytes_of_split p (b ∷ text) = grind (arith, bytes_in, slice_split-cons_yes, length-slice_split, slice_split-cons_no, bytes_more, (bytes_of_split p text))

-- `bytes_in` of pieces is `bytes_in` of all pieces but the last, plus the length of the last piece,
-- plus one
bytes_but_last : (pieces : Lines) → 0 < length pieces → bytes_in pieces ≡ bytes_in (but_last pieces) + length (last_of pieces) + 1
unfolding bytes_in
bytes_but_last [] some = absurd (omega arith)
bytes_but_last (piece ∷ []) some = omega arith
bytes_but_last (piece ∷ next ∷ pieces) some = let rest = bytes_but_last (next ∷ pieces) (omega arith) in omega arith

-- if each piece has 80 bytes without its carriage return, `bytes_in` is at most 82 times the number
-- of pieces
few_bytes : (pieces : Lines) → AllByRecursion Has80 (map strip_carriage_return pieces) → bytes_in pieces ≤ 82 * length pieces
unfolding bytes_in
few_bytes [] all = omega arith
few_bytes (piece ∷ pieces) all =
    let long = strip_long piece in
    let first = all.0 in
    let rest = few_bytes pieces all.1 in
    omega arith

bound_of_none : (limit : ℕ) (text : List ℕ) → TellsNoFault limit text → length text ≤ 82 * limit + 81
bound_of_none limit text none =
    let place = (begins_iff_place (complete_lines text)).0 none.begin in
    let size = length-slice_split (λ b. b == 10) text in
    let whole = bytes_of_split (λ b. b == 10) text in
    let apart = bytes_but_last (pieces_of text) (omega arith) in
    let few = few_bytes (but_last (pieces_of text)) (records_of_80 (complete_lines text) before_header place.0 place.1) in
    let told = length-map (but_last (pieces_of text)) strip_carriage_return in
    let within = none.within in
    let short = none.short in
    omega arith

-- if the first bytes of a text determine no fault, their number is at most `82 * limit + 81`
pub text_without_fault_is_bounded : (limit : ℕ) (text : List ℕ) → ((fault : FileFault) → ¬ IsFaultSoFar limit text fault) → length text ≤ 82 * limit + 81
text_without_fault_is_bounded limit text never = elim (fault_so_far_or_none limit text) [
  | inl fault ↦ absurd (never fault.0 fault.1)
  | inr none ↦ bound_of_none limit text none
]
