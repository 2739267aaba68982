-- A fault that the first bytes of a text determine is the fault of the whole text. If the first
-- bytes determine no fault, their complete lines begin some file.
use Rattle.cif_laws.proofs.Common.{ℕ, ◌+◌, ◌≤◌, List, take, length, cond, arith, ◌≡◌, refl, None, rules, [], common_steps, ◌∷◌, ◌++◌, ◌<◌, sym, ◌∙◌}
use Rattle.cif_laws.proofs.Common.{append_assoc, ◌⊎◌, inl, inr, map, subst, length-append, ap, ◌≢◌, strip_carriage_return, cases_lt, lt-leb, le-leb}
use Rattle.cif_laws.proofs.Common.{length-take-le, Lines, BeginsFile, without_empty_last, lines_of, complete_lines, FileCause, bad_length, cause_rank, HoldsOf}
use Rattle.cif_laws.proofs.Common.{IsCause, FileFault, IsRecordFault, IsFileFault, IsFaultSoFar, sure_lines}
use Rattle.std.proofs.lemmas.Bool.{ne_eqb}
use Rattle.std.proofs.lemmas.List.{take_at}
use Rattle.cif_laws.specs.FileStage.{Place, next_place, IsPlaceOf}
use Rattle.cif_laws.specs.LawTerms.{BeginsWithin}
use Rattle.cif_laws.specs.RecordCause.{cause_of, cause_of_long}
use Rattle.cif_laws.specs.CompleteLines.{open_line, line_left, HasNoFeed}
use Rattle.cif_laws.proofs.files.OneFileFault.{begins_front, one_fault}
use Rattle.cif_laws.proofs.files.FileStages.{next_by_test, begins_iff_place, begins_next_iff}
use Rattle.cif_laws.proofs.files.FileCauses.{pass_or_fault, record_fault}
use Rattle.cif_laws.proofs.files.CompleteLines.{GoesOn, goes_on, lines_of_told, lines_of_open, sure_lines_is, sure_lines_grow, complete_lines_cut}

-- ---- a piece of more than 81 bytes isn't a record, even without its carriage return

-- removing a carriage return makes a piece at most one byte shorter
pub strip_long : (piece : List ℕ) → length piece ≤ length (strip_carriage_return piece) + 1
strip_long = search (rules, length-take-le)

-- a piece of more than 81 bytes doesn't have 80 bytes after a carriage return is removed from its
-- end
pub not_80 : (piece : List ℕ) → 82 ≤ length piece → length (strip_carriage_return piece) ≢ 80
not_80 piece long is = let most = strip_long piece in absurd (omega arith)

-- a line that doesn't have 80 bytes leads the reader to no next `Place`
pub no_next_place : (place : Place) (line : List ℕ) → length line ≢ 80 → next_place place line ≡ None
no_next_place = search (rules, next_by_test)

no_begin : (earlier : Lines) (line : List ℕ) → length line ≢ 80 → ¬ BeginsFile (earlier ++ line ∷ [])
no_begin earlier line apart begins =
    let reached = (begins_iff_place earlier).0 (begins_front earlier (line ∷ []) begins) in
    let told = (begins_next_iff earlier reached.0 line reached.1).0 begins in
    apart told.1.is.0

-- ---- the elements of a prefix are the first elements of the list

-- an element is in the prefix if its index is below the length of the prefix
within_front : (front more earlier : Lines) (line : List ℕ) (later : Lines) → front ++ more ≡ earlier ++ line ∷ later → length earlier < length front
    → (rest : Lines) × (front ≡ earlier ++ line ∷ rest)
within_front [] more earlier line later e below = absurd (omega arith)
within_front (first ∷ front) more [] line later e below =
    let e' : first ∷ (front ++ more) ≡ line ∷ later = e in let heads : first ≡ line = cc in (front, λ i. heads i ∷ front)
within_front (first ∷ front) more (second ∷ earlier) line later e below =
    let e' : first ∷ (front ++ more) ≡ second ∷ (earlier ++ line ∷ later) = e in
    let heads : first ≡ second = cc in
    let tails : front ++ more ≡ earlier ++ line ∷ later = cc in
    let rest = within_front front more earlier line later tails (omega arith) in
    (rest.0, λ i. heads i ∷ rest.1 i)

-- if the index of an element is the length of a prefix, the element is the first element after this
-- prefix
behind_front : (front : Lines) (last : List ℕ) (earlier : Lines) (line : List ℕ) (later : Lines) → front ++ last ∷ [] ≡ earlier ++ line ∷ later
    → length earlier ≡ length front
    → (earlier ≡ front) × (line ≡ last)
behind_front = grind (common_steps, arith)

-- ---- a fault that the first bytes of a text determine stays when more bytes are appended

-- of two lines that don't have 80 bytes, after the same earlier records, a cause with a rank of at
-- most 2 applies to both or to neither
low_stays : (limit : ℕ) (earlier : Lines) (line other : List ℕ) (cause : FileCause) → cause_rank cause ≤ 2 → length other ≢ 80
    → HoldsOf limit earlier line cause → HoldsOf limit earlier other cause
low_stays = search rules

-- after the same earlier records, the faults at two lines that don't have 80 bytes have the same
-- cause
cause_stays : (limit : ℕ) (earlier : Lines) (line other : List ℕ) (cause : FileCause) → length line ≢ 80 → length other ≢ 80 → IsCause limit earlier line cause
    → IsCause limit earlier other cause
cause_stays limit earlier line other cause one two is = elim (cases_lt 2 (cause_rank cause)) [
  | inl high ↦ absurd (is.first bad_length high one)
  | inr low ↦ record {
    holds = low_stays limit earlier line other cause low two is.holds;
    first = λ o less holds. is.first o less (low_stays limit earlier other line o (omega arith) one holds);
  }
]

-- if one of the records of a prefix is at fault, the prefix and the whole list have the same fault
fault_in_front : (limit : ℕ) (front records more : Lines) (fault : FileFault) → records ≡ front ++ more → IsRecordFault limit front fault
    → IsRecordFault limit records fault
fault_in_front = search (rules, append_assoc)

-- if the first piece isn't empty, `without_empty_last` keeps it as the first piece
first_left : (piece : List ℕ) (pieces : Lines) → 0 < length piece → (others : Lines) × (without_empty_last (piece ∷ pieces) ≡ piece ∷ others)
first_left [] [] some = absurd (omega arith)
first_left (b ∷ bytes) [] some = ([], refl)
first_left piece (next ∷ pieces) some = (without_empty_last (next ∷ pieces), refl)

-- if the incomplete line has at most 81 bytes, `sure_lines` is the number of complete lines
pub sure_lines_short : (text : List ℕ) → length (open_line text) ≤ 81 → sure_lines text ≡ length (complete_lines text)
sure_lines_short = search (rules, sure_lines_is, lt-leb)

-- if the incomplete line has more than 81 bytes, `sure_lines` is the number of complete lines plus
-- one
pub sure_lines_long : (text : List ℕ) → 82 ≤ length (open_line text) → sure_lines text ≡ length (complete_lines text) + 1
sure_lines_long text long = sure_lines_is text ∙ ap (λ b. length (complete_lines text) + cond b 1 0) (le-leb 82 (length (open_line text)) long)

-- a fault that the first bytes of a text determine is still determined after more bytes are
-- appended
pub fault_stays : (limit : ℕ) (text more : List ℕ) (fault : FileFault) → IsFaultSoFar limit text fault → IsFaultSoFar limit (text ++ more) fault
fault_stays limit text more fault told =
    record {
      is = by (cases_lt (length told.is.earlier) (length (complete_lines text)));
      told = search (rules, sure_lines_grow, told.told);
    }
  where
    on : GoesOn text more
    on = goes_on text more

    long_by : length (complete_lines text) ≤ length told.is.earlier → 82 ≤ length (open_line text)
    long_by high = elim (cases_lt (length (open_line text)) 82) [
      | inl short ↦
          let same = sure_lines_short text (omega arith) in
          let number = told.is.number in
          let within = told.told in absurd (omega arith)
      | inr long ↦ long
    ]

    by : (length told.is.earlier < length (complete_lines text)) ⊎ (length (complete_lines text) ≤ length told.is.earlier)
        → IsRecordFault limit (lines_of (text ++ more)) fault
    by (inl below) =
        let within = within_front (complete_lines text) (line_left (open_line text)) told.is.earlier told.is.line told.is.later (sym (lines_of_told text)
        ∙ told.is.whole) below in
        search (rules, fault_in_front, on.first, on.pieces, on.lines, told.is.earlier, told.is.line, within.0)
    by (inr high) =
        let long = long_by high in
        let size = length-append (open_line text) on.first in
        let left = first_left (open_line text ++ on.first) on.pieces (omega arith) in
        let same = sure_lines_long text long in
        let number = told.is.number in
        let most = told.told in
        let place = behind_front (complete_lines text) (strip_carriage_return (open_line text)) told.is.earlier told.is.line told.is.later
        (sym (lines_of_open text (omega arith)) ∙ told.is.whole) (omega arith) in
        let longer : length (strip_carriage_return (open_line text ++ on.first)) ≢ 80 = not_80 (open_line text ++ on.first) (omega arith) in
        let short : length told.is.line ≢ 80 = subst (λ line. length line ≢ 80) (sym place.1) (not_80 (open_line text) long) in
        record {
          earlier = told.is.earlier;
          line = strip_carriage_return (open_line text ++ on.first);
          later = map strip_carriage_return left.0;
          whole = on.lines ∙ (λ i. sym place.0 i ++ map strip_carriage_return (left.1 i));
          number = told.is.number;
          earlier_within = told.is.earlier_within;
          earlier_begin = told.is.earlier_begin;
          here = inr (no_begin told.is.earlier (strip_carriage_return (open_line text ++ on.first)) longer);
          cause = cause_stays limit told.is.earlier told.is.line (strip_carriage_return (open_line text ++ on.first)) fault.cause short longer told.is.cause;
        }

-- a fault that some bytes determine is the fault of each text that begins with these bytes
pub fault_in_the_end : (limit : ℕ) (text more : List ℕ) (fault : FileFault) → IsFaultSoFar limit text fault → IsFileFault limit (text ++ more) fault
fault_in_the_end limit text more fault told = inl (fault_stays limit text more fault told).is

-- the first bytes of a text determine at most one fault
pub one_fault_so_far : (limit : ℕ) (text : List ℕ) (first second : FileFault) → IsFaultSoFar limit text first → IsFaultSoFar limit text second → first ≡ second
one_fault_so_far limit text first second one two = one_fault limit text first second (inl one.is) (inl two.is)

-- ---- the first bytes of a text determine a fault, or their complete lines begin a file

-- if the incomplete line has at most 81 bytes, the first `sure_lines` lines of the text are its
-- complete lines
pub take_told : (text : List ℕ) → length (open_line text) ≤ 81 → take (sure_lines text) (lines_of text) ≡ complete_lines text
take_told = search (rules, lines_of_told, take_at, sure_lines_short)

-- the bytes determine no fault: their complete lines begin some file and are within the limit, and
-- the incomplete line has at most 81 bytes
pub record TellsNoFault (limit : ℕ) (text : List ℕ) : Type 0 where
  pub begin : BeginsFile (complete_lines text)
  pub within : length (complete_lines text) ≤ limit
  pub short : length (open_line text) ≤ 81

number_within : (limit : ℕ) (records : Lines) (fault : FileFault) → IsRecordFault limit records fault → fault.number ≤ length records
number_within limit records fault is = let size = ap length is.whole ∙ length-append is.earlier (is.line ∷ is.later) in let number = is.number in omega arith

-- either the first bytes of a text determine a fault, or their complete lines begin some file
-- within the limit and their incomplete line has at most 81 bytes
pub fault_so_far_or_none : (limit : ℕ) (text : List ℕ) → ((fault : FileFault) × IsFaultSoFar limit text fault) ⊎ TellsNoFault limit text
fault_so_far_or_none limit text = elim (cases_lt (length (open_line text)) 82) [
  | inl low ↦
      let short : length (open_line text) ≤ 81 = omega arith in
      elim (pass_or_fault limit (complete_lines text)) [
        | inl pass ↦ inr (record { begin = (begins_iff_place (complete_lines text)).1 (pass.0, pass.1); within = pass.2; short = short })
        | inr fault ↦
            let same = sure_lines_short text short in
            let number = number_within limit (complete_lines text) fault.0 fault.1 in
            inl (fault.0, search (rules, fault_in_front, lines_of_told, fault.0, fault.1))
      ]
  | inr long ↦ elim (pass_or_fault limit (lines_of text)) [
    | inl pass ↦
        absurd (no_begin (complete_lines text) (strip_carriage_return (open_line text)) (not_80 (open_line text) long)
        (subst BeginsFile (lines_of_open text (omega arith)) ((begins_iff_place (lines_of text)).1 (pass.0, pass.1))))
    | inr fault ↦
        let same = sure_lines_long text long in
        let size = ap length (lines_of_open text (omega arith)) ∙ length-append (complete_lines text) (strip_carriage_return (open_line text) ∷ []) in
        let number = number_within limit (lines_of text) fault.0 fault.1 in
        inl (fault.0, record { is = fault.1; told = omega arith })
  ]
]

-- `TellsNoFault` implies `BeginsWithin`, the same statement in terms of the definitions that the
-- laws use
pub passes_so_far : (limit : ℕ) (text : List ℕ) → TellsNoFault limit text → BeginsWithin limit text
passes_so_far limit text none =
    let same = sure_lines_short text none.short in
    let within = none.within in
    (subst BeginsFile (sym (take_told text none.short)) none.begin, omega arith, none.short)

-- like `fault_so_far_or_none`, with `BeginsWithin` in place of `TellsNoFault`
pub fault_so_far_or_passes : (limit : ℕ) (text : List ℕ) → ((fault : FileFault) × IsFaultSoFar limit text fault) ⊎ BeginsWithin limit text
fault_so_far_or_passes limit text = elim (fault_so_far_or_none limit text) [ inl fault ↦ inl fault | inr none ↦ inr (passes_so_far limit text none) ]

-- suppose that the complete lines in the first bytes of a text begin some file within the limit. If
-- the incomplete line has at most 81 bytes, the first bytes of the text determine no fault
pub passes_no_fault : (limit : ℕ) (text : List ℕ) (fault : FileFault) → BeginsWithin limit text → ¬ IsFaultSoFar limit text fault
passes_no_fault limit text fault passes told = elim told.is.here [
  | inl over ↦ let most = passes.1 in let under = below in let told_is = same in absurd (omega arith)
  | inr none ↦
      none (begins_front (told.is.earlier ++ told.is.line ∷ []) within.0
      (subst BeginsFile (take_told text passes.2 ∙ within.1 ∙ sym (append_assoc told.is.earlier (told.is.line ∷ []) within.0)) passes.0))
]
  where
    same : sure_lines text ≡ length (complete_lines text)
    same = sure_lines_short text passes.2

    below : length told.is.earlier < length (complete_lines text)
    below = let number = told.is.number in let at_number = told.told in let told_is = same in omega arith

    within : (rest : Lines) × (complete_lines text ≡ told.is.earlier ++ told.is.line ∷ rest)
    within =
        within_front (complete_lines text) (line_left (open_line text)) told.is.earlier told.is.line told.is.later
        (sym (lines_of_told text) ∙ told.is.whole) below

-- ---- which fault a reader reports while it reads a text in pieces

-- if a line doesn't have 80 bytes, the cause of the fault at the line doesn't depend on the line's
-- bytes
pub cause_of_length : (limit count : ℕ) (place : Place) (line : List ℕ) → length line ≢ 80 → cause_of limit count place line ≡ cause_of_long limit count place
cause_of_length = search (rules, ne_eqb)

-- suppose that the complete lines of a text are within the limit and lead the reader to a `Place`.
-- If the incomplete line has at most 81 bytes, the text so far determines no fault
pub no_fault_told : (limit : ℕ) (text : List ℕ) (place : Place) → IsPlaceOf (complete_lines text) place → length (complete_lines text) ≤ limit
    → length (open_line text) ≤ 81
    → (fault : FileFault) → ¬ IsFaultSoFar limit text fault
no_fault_told limit text place found within short fault = passes_no_fault limit _ fault (passes_so_far _ text (record {
  begin = (begins_iff_place _).1 (place, found);
  within = within;
  short = short;
}))

-- a complete line that leads the reader to no next `Place` is at fault, whatever bytes follow the
-- line
pub fault_at_feed : (limit : ℕ) (text front rest : List ℕ) (place : Place) → HasNoFeed front → IsPlaceOf (complete_lines text) place
    → length (complete_lines text) ≤ limit
    → (limit ≤ length (complete_lines text)) ⊎ (next_place place (strip_carriage_return (open_line text ++ front)) ≡ None)
    → IsFaultSoFar limit (text ++ (front ++ 10 ∷ rest))
    (record {
      number = length (complete_lines text) + 1;
      cause = cause_of limit (length (complete_lines text)) place
          (strip_carriage_return (open_line text ++ front));
    })
fault_at_feed limit text front rest place plain found within here = record {
  is = record_fault limit (complete_lines text) place (strip_carriage_return (open_line text ++ front)) found (lines_of (text ++ (front ++ 10 ∷ rest)))
      (complete_lines rest ++ line_left (open_line (text ++ (front ++ 10 ∷ rest))))
      (search (rules, lines_of_told, complete_lines_cut, append_assoc))
      within here;
  told = search (rules, sure_lines_is, complete_lines_cut, length-append);
}

-- an incomplete line of more than 81 bytes is at fault, whatever bytes follow
pub fault_at_long : (limit : ℕ) (text : List ℕ) (place : Place) → IsPlaceOf (complete_lines text) place → length (complete_lines text) ≤ limit
    → 82 ≤ length (open_line text)
    → IsFaultSoFar limit text (record { number = length (complete_lines text) + 1; cause = cause_of_long limit (length (complete_lines text)) place })
fault_at_long limit text place found within long =
    let apart : length (strip_carriage_return (open_line text)) ≢ 80 = not_80 (open_line text) long in
    let told_is = sure_lines_long text long in
    subst (λ cause. IsFaultSoFar limit text (record { number = length (complete_lines text) + 1; cause = cause }))
    (cause_of_length limit (length (complete_lines text)) place (strip_carriage_return (open_line text)) apart)
    (search (rules, record_fault, lines_of_open, no_next_place))

-- at the end of a text, an incomplete line that isn't empty is the last line. If that line leads
-- the reader to no next `Place` or is beyond the limit, the line is at fault
pub fault_at_end : (limit : ℕ) (text : List ℕ) (place : Place) → IsPlaceOf (complete_lines text) place → length (complete_lines text) ≤ limit
    → 0 < length (open_line text)
    → (limit ≤ length (complete_lines text)) ⊎ (next_place place (strip_carriage_return (open_line text)) ≡ None)
    → IsFileFault limit text (record {
      number = length (complete_lines text) + 1;
      cause = cause_of limit (length (complete_lines text)) place
          (strip_carriage_return (open_line text));
    })
fault_at_end = search (rules, record_fault, lines_of_open)

-- if the incomplete line isn't empty, the text has one more line than it has complete lines
pub length_at_end : (text : List ℕ) → 0 < length (open_line text) → length (lines_of text) ≡ length (complete_lines text) + 1
length_at_end text some = ap length (lines_of_open text some) ∙ length-append (complete_lines text) (strip_carriage_return (open_line text) ∷ [])
