-- A text has at most one fault, and the text of a file has none.
use Rattle.cif_laws.proofs.Common.{ℕ, List, ◌∷◌, ◌≡◌, ◌++◌, ◌⊎◌, inl, inr, refl, sym, subst, rules, [], append_assoc, ◌≤◌, length, arith, length-append, ◌∙◌}
use Rattle.cif_laws.proofs.Common.{append-nil, ◌==◌, cases_order, Lines, leftmost_bad_byte, leftmost_bad_field, IsFile, BeginsFile, lines_of, FileFault}
use Rattle.cif_laws.proofs.Common.{IsRecordFault, FileCause, bad_byte, bad_field, too_many, after_trailer, bad_length, bad_kind, bad_place, third_midnight}
use Rattle.cif_laws.proofs.Common.{no_end, cause_rank, IsCause, IsFileFault, IsFileText}
use Rattle.std.specs.Prelude.{if◌then◌else◌, unwrap_or}
use Rattle.docker_model.specs.file.FileFault.{IsUnended}

abbrev Earlier : Lines → List ℕ → Lines → Type 0
Earlier first line second = (between : Lines) × (second ≡ first ++ line ∷ between)

abbrev Placed : Lines → List ℕ → Lines → List ℕ → Type 0
Placed first line second other = ((first ≡ second) × (line ≡ other)) ⊎ (Earlier first line second ⊎ Earlier second other first)

same_place : (first second : Lines) (line other : List ℕ) (rest more : Lines) → first ++ line ∷ rest ≡ second ++ other ∷ more → Placed first line second other
same_place [] [] line other rest more e = let whole : line ∷ rest ≡ other ∷ more = e in inl (refl, cc)
same_place [] (second ∷ seconds) line other rest more e =
    let whole : line ∷ rest ≡ second ∷ (seconds ++ other ∷ more) = e in
    let heads : line ≡ second = cc in inr (inl (seconds, λ i. sym heads i ∷ seconds))
same_place (first ∷ firsts) [] line other rest more e =
    let whole : first ∷ (firsts ++ line ∷ rest) ≡ other ∷ more = e in
    let heads : first ≡ other = cc in inr (inr (firsts, λ i. heads i ∷ firsts))
same_place (first ∷ firsts) (second ∷ seconds) line other rest more e =
    let whole : first ∷ (firsts ++ line ∷ rest) ≡ second ∷ (seconds ++ other ∷ more) = e in
    let heads : first ≡ second = cc in
    let tails : firsts ++ line ∷ rest ≡ seconds ++ other ∷ more = cc in
    grind (arith, (same_place firsts seconds line other rest more tails))

-- if records begin a file, each prefix of these records begins a file
pub begins_front : (front rest : Lines) → BeginsFile (front ++ rest) → BeginsFile front
begins_front front rest begins = (rest ++ begins.0, subst IsFile (append_assoc front rest begins.0) begins.1)

-- if records begin a file within the limit, none of these records is at fault
not_within : (limit : ℕ) (records : Lines) (fault : FileFault) (is : IsRecordFault limit records fault) (more : Lines)
    → BeginsFile (is.earlier ++ is.line ∷ more) → length (is.earlier ++ is.line ∷ more) ≤ limit → ⊥
not_within limit records fault is more begins within = elim is.here [
  | inl over ↦ let size = length-append is.earlier (is.line ∷ more) in omega arith
  | inr none ↦ none (begins_front (is.earlier ++ is.line ∷ []) more (subst BeginsFile (sym (append_assoc is.earlier (is.line ∷ []) more)) begins))
]

-- the column that a cause names, or 0 if the cause names no column. The rank and the column
-- determine the cause
unfoldable pub column_of : FileCause → ℕ
column_of (bad_byte at) = at
column_of (bad_field at) = at
column_of _ = 0

cause_at : ℕ → ℕ → FileCause
cause_at rank at =
    if rank == 0 then too_many else (if rank == 1 then after_trailer else (if rank == 2 then bad_length else (if rank == 3 then bad_byte at
    else (if rank == 4 then bad_kind else (if rank == 5 then bad_place else
    (if rank == 6 then bad_field at else (if rank == 7 then third_midnight else no_end)))))))

cause_again : (cause : FileCause) → cause_at (cause_rank cause) (column_of cause) ≡ cause
unfolding column_of cause_at
cause_again = search rules

-- two causes with the same rank and the same column are equal
pub same_cause : (first second : FileCause) → cause_rank first ≡ cause_rank second → column_of first ≡ column_of second → first ≡ second
same_cause first second same columns = sym (cause_again first) ∙ (λ i. cause_at (same i) (columns i)) ∙ cause_again second

-- the column in the cause of the fault at a line, computed from the cause's rank and the line
unfoldable pub column_told : ℕ → List ℕ → ℕ
column_told rank line = if rank == 3 then unwrap_or (leftmost_bad_byte line) 0 else (if rank == 6 then unwrap_or (leftmost_bad_field line) 0 else 0)

-- the fault at a record has at most one cause
pub one_cause : (limit : ℕ) (earlier : Lines) (line : List ℕ) (first second : FileCause) → IsCause limit earlier line first → IsCause limit earlier line second
    → first ≡ second
one_cause = search (rules, cases_order, same_cause, column_told)

-- in a list of records, the first record at fault has only one fault
record_fault_unique : (limit : ℕ) (records : Lines) (first second : FileFault) → IsRecordFault limit records first → IsRecordFault limit records second
    → first ≡ second
record_fault_unique limit records first second one two =
    elim (same_place one.earlier two.earlier one.line two.line one.later two.later (sym one.whole ∙ two.whole)) [
      | inl same ↦ search (rules, one_cause, first.cause, second.cause, two.earlier, two.line, same.1, one.line)
      | inr (inl told) ↦
          absurd (not_within limit records first one told.0 (subst BeginsFile told.1 two.earlier_begin)
          (subst (λ earlier. length earlier ≤ limit) told.1 two.earlier_within))
      | inr (inr told) ↦
          absurd (not_within limit records second two told.0 (subst BeginsFile told.1 one.earlier_begin)
          (subst (λ earlier. length earlier ≤ limit) told.1 one.earlier_within))
    ]

not_both_faults : (limit : ℕ) (records : Lines) (first second : FileFault) → IsRecordFault limit records first → IsUnended limit records second → ⊥
not_both_faults limit records first second one two =
    not_within limit records first one one.later (subst BeginsFile one.whole two.begin) (subst (λ lines. length lines ≤ limit) one.whole two.within)

-- a text has at most one fault
pub one_fault : (limit : ℕ) (text : List ℕ) (first second : FileFault) → IsFileFault limit text first → IsFileFault limit text second → first ≡ second
one_fault limit text first second (inl one) (inl two) = record_fault_unique limit (lines_of text) first second one two
one_fault limit text first second (inl one) (inr two) = absurd (not_both_faults limit (lines_of text) first second one two)
one_fault limit text first second (inr one) (inl two) = absurd (not_both_faults limit (lines_of text) second first two one)
one_fault limit text first second (inr one) (inr two) = search rules

-- the text of a file within the limit has no fault
pub no_fault_of_file : (limit : ℕ) (text : List ℕ) (file : Lines) (fault : FileFault) → IsFileText limit text file → ¬ IsFileFault limit text fault
no_fault_of_file limit text file fault is (inl one) =
    let whole : IsFile (lines_of text) = subst IsFile (sym is.lines) is.is in
    let begins : BeginsFile (lines_of text) = ([], subst IsFile (sym (append-nil (lines_of text))) whole) in
    let within : length (lines_of text) ≤ limit = subst (λ lines. length lines ≤ limit) (sym is.lines) is.within in
    not_within limit (lines_of text) fault one one.later (subst BeginsFile one.whole begins) (subst (λ lines. length lines ≤ limit) one.whole within)
no_fault_of_file limit text file fault is (inr one) = one.unended (subst IsFile (sym is.lines) is.is)
