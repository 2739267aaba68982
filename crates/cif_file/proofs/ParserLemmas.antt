-- Lemmas on which lines a parser has taken after each piece, and which faults it returns.
use Rattle.cif_laws.proofs.Common.{◌≡◌, ℕ, ◌+◌, ◌-◌, ◌≤◌, ◌<◌, inl, inr, Bool, true, false, cond, List, [], ◌∷◌, ◌++◌, length, subst, refl, ap, sym}
use Rattle.cif_laws.proofs.Common.{common_steps, rules, ◌∙◌, Some, None, arith, append_assoc, append-nil, length-append, eqb-true, take, drop, get_or, suc, ⊤}
use Rattle.cif_laws.proofs.Common.{Option, ◌↔◌, ◌==◌, ◌&&◌, nat_lt, Result, Ok, Err, OnOk, IfOk, IfErr, IsErrAnd, strip_carriage_return, take-append_seam}
use Rattle.cif_laws.proofs.Common.{position_or_len, ltb-false, lt-leb, le-leb, take-append-drop, take-append-le, take_all, get_or-take, length-take-le}
use Rattle.cif_laws.proofs.Common.{IsRecord, lines_of, complete_lines, IsFile, BeginsFile, IsFaultSoFar, sure_lines, too_many, after_trailer, bad_length}
use Rattle.cif_laws.proofs.Common.{no_end}
use Rattle.std.proofs.Common.{drop-cons}
use Rattle.std.specs.Prelude.{position}
use Rattle.std.specs.Bool.{one_answer}
use Rattle.std.proofs.lemmas.Bool.{eqb-false}
use Rattle.std.proofs.lemmas.List.Sums.{position_or_len_is, fails_before_first}
use Rattle.std.proofs.lemmas.List.Quantifiers.{position-Some}
use Rattle.docker_model.specs.file.FileFault as model
use Rattle.cif_laws.specs.RecordTest.{is_record, has_good_fields}
use Rattle.cif_laws.specs.FileStage.{Place, after_end, next_place}
use Rattle.cif_laws.proofs.files.FileStages.{next_by_test, file_iff_place, begins_iff_place}
use Rattle.cif_laws.specs.RecordCause.{end_cause, length_cause, is_after_end, cause_of_long}
use Rattle.cif_laws.specs.CompleteLines.{HasNoFeed, open_line, line_left}
use Rattle.cif_laws.proofs.files.CompleteLines.{lines_of_told, lines_of_ended, lines_of_open, complete_lines_plain, open_line_plain}
use Rattle.cif_laws.proofs.files.CompleteLines.{complete_lines_ended, open_line_ended, complete_lines_stay, sure_lines_grow}
use Rattle.cif_laws.proofs.files.ReportedFaults.{sure_lines_short}
use Rattle.cif_laws.proofs.files.ReportedFaults.{fault_at_feed, fault_at_long, fault_at_end, fault_stays, no_fault_told}
use Rattle.cif_change.specs.declared.cause.FileCause.{FileCause}
use Rattle.cif_change.specs.declared.cause.FileCause.TheVariants.{Memory}
use Rattle.cif_file.specs.declared.fault.FileFault.{FileFault}
use Rattle.cif_file.specs.declared.records.front.Front.{Front}
use Rattle.cif_file.specs.declared.file.ended.Ended.{Ended}
use Rattle.cif_file.specs.declared.records.Records.{Records}
use Rattle.cif_file.specs.declared.read.parser.FileReading.{FileReading}
use Rattle.cif_file.specs.Cut.{IsCut, BeginsWithEighty, before_rest}
use Rattle.cif_file.proofs.FrontLemmas.{file_by_place}
use Rattle.cif_file.proofs.TextLemmas.{record_cut}
use Rattle.cif_change.specs.Cause.{cause_meant}
use Rattle.cif_file.specs.KeeperRead.{Keeps, KeepsAll}
use Rattle.cif_file.specs.RecordsRead.{HasRecords, GoesOnWith, IsNoNextCause}
use Rattle.cif_file.specs.ParserRead.{ParserState, HasRead, IsReadingOrFault, HasCounted, IsCauseNext, IsCauseAfter}
use Rattle.cif_file.specs.ParserRead.{IsFaultNext, FaultsNext, EndsCounted, EndsUnended, IsLongNext, IsReading, WantsMemoryAt}
use Rattle.cif_file.specs.ParserRead.{IsCauseSoFar, IsFaultReported, IsCauseOf, IsRefused, HasNotFailed, IsLater, NamesLater, IsLast}
use Rattle.cif_file.specs.ParserRead.{NamesLast, GoesOn, TakesUpTo, TellsFault, refusal, IsRefusedNext, CountsNext, EndsBy, EndsInFault, IsLastOfFile}

abbrev Lines : Type 0
Lines = List (List ℕ)

abbrev nowhere : Option Place
nowhere = None

above : (most n : ℕ) → ¬ (n ≤ most) → most + 1 ≤ n
above = omega arith

-- ---- out of memory

-- memory may run out at a line that is within the limit if some file begins with the records before
-- the line, followed by the line
memory_answer : (limit : ℕ) (records : Lines) (line : List ℕ) (number : ℕ) (all : Lines) → length records < limit → GoesOnWith records line
    → number ≡ length records + 1 → all ≡ records ++ line ∷ []
    → WantsMemoryAt limit all number
memory_answer limit records line number all under goes_on counted whole =
    let size : length all ≡ length records + 1 = ap (λ (l : Lines). length l) whole ∙ length-append records (line ∷ []) in
    record {
      some = omega arith;
      one = omega arith;
      within = omega arith;
      sound = subst BeginsFile (sym (take_all number all (omega arith))) (subst BeginsFile (sym whole) ((begins_iff_place (records ++ line ∷ [])).1 goes_on));
    }

-- if memory may have run out at a record, it may also have run out there when more records follow
memory_more : (limit : ℕ) (records others : Lines) (number : ℕ) → WantsMemoryAt limit records number → WantsMemoryAt limit (records ++ others) number
memory_more limit records others number told = record {
  some = told.some;
  one = let one = told.one in let size = length-append records others in omega arith;
  within = told.within;
  sound = subst BeginsFile (sym (take-append-le number records others told.one)) told.sound;
}

-- if the number of bytes that the parser stores is 0, the list of these bytes is empty
pub empty_is : {K : Type 0} (old : FileReading K) → true ≡ (length old.partial.items == 0) → old.partial.items ≡ []
empty_is = grind (common_steps, arith, eqb-true)

-- ---- the next record

-- within the limit, a record after the trailer is refused with the cause `After`
pub after_cause : {K : Type 0} (keeps : Keeps K) (limit : ℕ) (front : Front K) (records : Lines) (line : List ℕ) → HasRecords keeps front records
    → IsFile records → length records < limit
    → IsCauseNext limit records line after_trailer
after_cause keeps limit front records line has is under = record {
  place = after_end;
  at = (file_iff_place records).0 is;
  here = inr (elim (is_record line && has_good_fields line) as (λ b. cond b nowhere nowhere ≡ nowhere) [ true ↦ refl | false ↦ refl ]);
  is = λ i. cond (lt-leb limit (length records) under i) too_many (end_cause after_end line);
}

-- no file can continue with a line that isn't a record
no_next : (place : Place) (line : List ℕ) → ¬ IsRecord line → next_place place line ≡ None
no_next place line bad = (elim (next_place place line) as (λ next. next_place place line ≡ next → next_place place line ≡ None) [
  | None ↦ λ h. h
  | Some next ↦ λ h. absurd (bad (next_by_test place line next h).is)
]) refl

-- the choice among three causes is always a cause, and never `None`
some_cause : (over ended : Bool) (first second third : model.FileCause)
    → cond over (Some first) (cond ended (Some second) (Some third)) ≡ Some (cond over first (cond ended second third))
some_cause = search rules

-- if the code refuses a line that isn't a record, the fault that it returns is a fault at this line
pub refused_line : (wants : Type 0) (limit : ℕ) (records : Lines) (line : List ℕ) (cause : Option model.FileCause) (fault : FileFault)
    → IsRefusedNext limit records cause fault → ¬ IsRecord line
    → ((place : Place) → cause ≡ Some (length_cause place line)) → IsFaultNext wants limit records line fault
refused_line wants limit records line cause fault next bad told = record {
  number = next.number;
  cause = subst (IsCauseAfter wants limit records line) (sym (next.is
      ∙ ap (refusal limit (length records) next.place) (told next.place)
      ∙ some_cause _ (is_after_end next.place) _ after_trailer _))
      (record { place = next.place; at = next.at; here = inr (no_next next.place _ bad); is = refl });
}

-- if a line is refused because of its length, the fault that is returned is the fault at a line of
-- more than 81 bytes
pub refused_long : (limit : ℕ) (records : Lines) (fault : FileFault) → IsRefusedNext limit records (Some bad_length) fault → IsLongNext limit records fault
refused_long = search (rules, some_cause)

-- if a record within the limit can't come next, the reason why it can't is a correct cause for refusing its line
pub front_cause : (wants : Type 0) (limit : ℕ) (records : Lines) (line : List ℕ) (cause : FileCause) → length records < limit
    → IsNoNextCause wants records line (cause_meant cause)
    → IsCauseAfter wants limit records line (cause_meant cause)
front_cause = search rules

-- ---- the text that was read, and more bytes

module _ {K : Type 0} (keeps : Keeps K) (old : FileReading K) (limit : ℕ) (text : List ℕ) (is : IsReading keeps old limit text) where
  -- if the line that ends at a line feed was taken, the parser has read the text up to and including this line feed
  ended_read : (new : FileReading K) (front : List ℕ) → HasNoFeed front
      → HasCounted keeps new.records limit (complete_lines text ++ strip_carriage_return (open_line text ++ front) ∷ []) → new.partial.items ≡ []
      → IsReading keeps new limit (text ++ (front ++ 10 ∷ []))
  ended_read = search (rules, complete_lines_ended, open_line_ended)

  -- a fault at the line that ends at a line feed is a fault of the text up to this line feed
  ended_fault : (wants : Type 0) (front : List ℕ) (number : ℕ) (meant : Option model.FileCause) → HasNoFeed front
      → number ≡ length (complete_lines text) + 1
      → IsCauseAfter wants limit (complete_lines text) (strip_carriage_return (open_line text ++ front)) meant
      → IsCauseSoFar limit (text ++ (front ++ 10 ∷ [])) number meant
  ended_fault wants front number None plain counted told =
      memory_answer _ (complete_lines text) _ number _ told.1 told.2 counted (complete_lines_ended text _ plain)
  ended_fault wants front number (Some cause) plain counted told =
      subst (λ f. IsFaultSoFar limit (text ++ (front ++ 10 ∷ [])) f) (λ i. record { number = sym counted i; cause = told.is i })
      (fault_at_feed limit _ front _ told.place plain told.at is.counted.within told.here)

  -- if further bytes of a line are stored, the parser has read the text up to and including them
  pub kept_read : (new : FileReading K) (more : List ℕ) → HasNoFeed more → length old.partial.items + length more ≤ 81 → new.records ≡ old.records
      → new.partial.items ≡ old.partial.items ++ more → IsReading keeps new limit (text ++ more)
  kept_read = search (rules, complete_lines_plain, open_line_plain, length-append)

  -- if more than 81 bytes of a line have been read, the text is refused at this line, which is too
  -- long even without a line feed
  kept_long : (more : List ℕ) (fault : FileFault) → HasNoFeed more → ¬ (length old.partial.items + length more ≤ 81)
      → IsLongNext limit (complete_lines text) fault → IsFaultReported limit (text ++ more) fault
  kept_long more fault plain many next =
      let size = ap (λ (l : List ℕ). length l) (open_line_plain text more plain) ∙ length-append (open_line text) more in
      let same = ap (λ (l : List ℕ). length l) is.partial_is in
      let told = complete_lines_plain text more plain in
      let count = ap (λ (l : Lines). length l) told in
      let within = is.counted.within in
      search (rules, fault_at_long)

  -- if the parser holds bytes of a line that hasn't ended, the text ends in an unfinished line
  pub some_is_open : false ≡ (length old.partial.items == 0) → 0 < length (open_line text)
  some_is_open = search (rules, eqb-false, above)

  -- a fault at the unfinished line at the end is a fault of the text
  pub end_fault : (wants : Type 0) (fault : FileFault) → 0 < length (open_line text)
      → IsFaultNext wants limit (complete_lines text) (strip_carriage_return (open_line text)) fault → IsRefused limit text fault
  end_fault wants fault some next = (elim (cause_meant fault.cause) as (λ meant. IsCauseAfter wants limit (complete_lines text)
      (strip_carriage_return (open_line text)) meant → IsCauseOf limit text fault.number meant) [
        | None ↦ λ told. memory_answer _ (complete_lines text) _ fault.number _ told.1 told.2 next.number (lines_of_open text some)
        | Some cause ↦ search (rules, fault_at_end)
      ]) next.cause

  -- if the parser has read a text, none of its complete records is at fault
  pub reading_tells_none : (fault : model.FileFault) → ¬ IsFaultSoFar limit text fault
  reading_tells_none = no_fault_told limit text is.counted.has.place is.counted.has.at is.counted.within is.short

  pub later_than : (fault : FileFault) → fault.number ≡ length (complete_lines text) + 1 → sure_lines text < fault.number
  later_than fault number = let same = sure_lines_short text is.short in omega arith

-- ---- more text doesn't change a fault

-- a fault of a text is a fault of any longer text that begins with it
pub reported_stays : (limit : ℕ) (text more : List ℕ) (fault : FileFault) → IsFaultReported limit text fault → IsFaultReported limit (text ++ more) fault
reported_stays limit text more fault = elim (cause_meant fault.cause) as (λ meant. IsCauseSoFar limit text fault.number meant
    → IsCauseSoFar limit (text ++ more) fault.number meant) [
      | None ↦ λ here. let stay = complete_lines_stay text more in
          subst (λ (l : Lines). WantsMemoryAt limit l fault.number) (sym stay.1) (memory_more limit _ stay.0 _ here)
      | Some cause ↦ fault_stays limit _ more _
    ]

-- ---- the end of the text

-- if the text doesn't end in an unfinished line, all lines of the text were taken
pub counted_ended : {K : Type 0} (keeps : Keeps K) (reading : FileReading K) → true ≡ (length reading.partial.items == 0)
    → (limit : ℕ) (text : List ℕ) → IsReading keeps reading limit text → HasCounted keeps reading.records limit (lines_of text)
counted_ended = search (rules, lines_of_ended, empty_is)

-- if the unfinished line at the end of the text was taken as the last line, all lines of the text
-- were taken
pub counted_last : {K : Type 0} (keeps : Keeps K) (old : FileReading K) (records : Records K) (raw line : List ℕ)
    → false ≡ (length old.partial.items == 0) → raw ≡ old.partial.items → line ≡ strip_carriage_return raw → CountsNext keeps old.records line records
    → (limit : ℕ) (text : List ℕ) → IsReading keeps old limit text → HasCounted keeps records limit (lines_of text)
counted_last keeps old records raw line some same strip taken limit text is =
    subst (HasCounted keeps records limit)
    (ap (λ (l : List ℕ). complete_lines text ++ l ∷ []) (strip ∙ ap strip_carriage_return (same ∙ is.partial_is))
    ∙ sym (lines_of_open text (some_is_open keeps old limit text is some))) (taken limit (complete_lines text) is.counted)

-- a fault of the complete lines of a text is a fault of the whole text
pub reported_refused : (limit : ℕ) (text : List ℕ) (fault : FileFault) → IsFaultReported limit text fault → IsRefused limit text fault
reported_refused limit text fault = elim (cause_meant fault.cause) as (λ meant. IsCauseSoFar limit text fault.number meant
    → IsCauseOf limit text fault.number meant) [
      | None ↦ search (rules, lines_of_told, memory_more)
      | Some cause ↦ λ here. inl here.is
    ]

-- ---- a line that isn't a record

-- a line that isn't a record is refused with the cause `TooMany` if it is beyond the limit
pub refused_over : {K : Type 0} (keeps : Keeps K) (records : Records K) (limit : ℕ) (taken : Lines) (cause : Option model.FileCause) (fault : FileFault)
    → HasCounted keeps records limit taken
    → fault.number ≡ records.next
    → records.limit < records.next → cause_meant fault.cause ≡ Some too_many
    → IsRefusedNext limit taken cause fault
refused_over = search (rules, le-leb)

-- a line within the limit that isn't a record is refused with the cause `After` if it follows the
-- trailer. Otherwise the cause is the reason why it isn't a record
pub refused_within : {K : Type 0} (keeps : Keeps K) (records : Records K) (limit : ℕ) (taken : Lines) (cause : Option model.FileCause) (fault : FileFault)
    (ended : Bool) → HasCounted keeps records limit taken
    → fault.number ≡ records.next → records.next ≤ records.limit
    → (ended ≡ true) ↔ IsFile taken → cause_meant fault.cause ≡ cond ended (Some after_trailer) cause → IsRefusedNext limit taken cause fault
refused_within keeps records limit taken cause fault ended counted number within iff told = record {
  number = number ∙ counted.next_is;
  place = counted.has.place;
  at = counted.has.at;
  is = told ∙ (λ i. cond (same i) (Some after_trailer) cause)
      ∙ (search (rules, lt-leb));
}
  where
    same : ended ≡ is_after_end counted.has.place
    same = one_answer ended (is_after_end counted.has.place) iff (file_by_place taken counted.has.place counted.has.at)

-- ---- cutting bytes at a line feed

-- `position` and `position_or_len` find the same line feed
feed_place : (text : List ℕ) (end : ℕ) → position (λ b. b == 10) text ≡ Some end → position_or_len (λ b. b == 10) text ≡ end
feed_place = search (rules, position-Some, position_or_len_is)

no_place : (place size : ℕ) (b : Bool) → nat_lt place size ≡ b → cond b (Some place) None ≡ None → size ≤ place
no_place = search (rules, ltb-false)

plain_front : (text : List ℕ) (end : ℕ) → end < length text → position (λ b. b == 10) text ≡ Some end → HasNoFeed (take end text)
plain_front = search (rules, feed_place, length-take-le, get_or-take, fails_before_first)

-- a text is cut at its first line feed
pub cut_at : (text : List ℕ) (end : ℕ) → position (λ b. b == 10) text ≡ Some end → IsCut text (take end text) (drop (end + 1) text)
cut_at text end found =
    let at = position-Some (λ b. b == 10) text end 0 found in
    let feed = eqb-true (get_or text end 0) 10 at.1 in
    let after : suc end ≡ end + 1 = omega arith in
    search (rules, take-append-drop, drop-cons, plain_front)

-- if the search finds no line feed, the text has none
pub no_feed_by : (text : List ℕ) → position (λ b. b == 10) text ≡ None → HasNoFeed text
no_feed_by = search (rules, no_place, fails_before_first)

-- let a piece be cut into bytes that were taken and a rest. Taking more bytes from the rest appends them to the bytes that were taken
cut_more : (piece rest front behind : List ℕ) → before_rest piece rest ++ rest ≡ piece → rest ≡ front ++ behind
    → (before_rest piece behind ≡ before_rest piece rest ++ front) × (before_rest piece behind ++ behind ≡ piece)
cut_more piece rest front behind whole cut =
    let done = before_rest piece rest ++ front in
    let all : done ++ behind ≡ piece =
    append_assoc (before_rest piece rest) front behind ∙ ap (λ l. before_rest piece rest ++ l) (sym cut) ∙ whole in
    let size = ap (λ (l : List ℕ). length l) (sym all) ∙ length-append done behind in
    let count : length piece - length behind ≡ length done = omega arith in
    let same : before_rest piece behind ≡ done = (λ i. take (count i) (sym all i)) ∙ take-append_seam done behind in
    (same, ap (λ l. l ++ behind) same ∙ all)

-- before any byte of a piece is taken, the list of bytes that were taken is empty, and the rest is the whole piece
cut_first : (piece : List ℕ) → (before_rest piece piece ≡ []) × (before_rest piece piece ++ piece ≡ piece)
cut_first = search rules

-- a text consists of its first line with the line feed, and the rest
pub cut_whole : (rest front behind : List ℕ) → IsCut rest front behind → rest ≡ (front ++ 10 ∷ []) ++ behind
cut_whole rest front behind cut = cut.whole ∙ sym (append_assoc front (10 ∷ []) behind)

-- ---- a text whose rest is still to be taken

-- a property of a text that is read under a limit on records
abbrev TextProperty : Type 1
TextProperty = ℕ → List ℕ → Type 0

-- at first no byte of the text has been taken
pub takes_none : (before : TextProperty) (text : List ℕ) → TakesUpTo before text text before
takes_none = search (rules, cut_first, append-nil)

-- if the first bytes of the rest are taken, only the other bytes of the rest are still to be taken
pub takes_further : (before middle after : TextProperty) (text rest front behind : List ℕ) → TakesUpTo before text rest middle → rest ≡ front ++ behind
    → GoesOn middle front after → TakesUpTo before text behind after
takes_further before middle after text rest front behind up_to cut on =
    let more = cut_more _ _ _ _ up_to.whole cut in
    record {
      whole = more.1;
      read = λ limit taken is. subst (after limit) (append_assoc taken (before_rest text rest) front ∙ ap (λ l. taken ++ l) (sym more.0))
          (on limit (taken ++ before_rest text rest) (up_to.read limit taken is));
    }

-- if the first line of the rest is taken, only the bytes after this line are still to be taken
pub takes_line : (before middle next : TextProperty) (text rest front behind : List ℕ) → TakesUpTo before text rest middle → IsCut rest front behind
    → GoesOn middle (front ++ 10 ∷ []) next → TakesUpTo before text behind next
takes_line = search (rules, takes_further, cut_whole)

-- if the rest is taken in two steps, the bytes that are left after both steps are still to be taken
pub takes_more : (before middle after : TextProperty) (text rest left : List ℕ) → TakesUpTo before text rest middle → TakesUpTo middle rest left after
    → TakesUpTo before text left after
takes_more before middle after text rest left up_to more = takes_further _ _ _ _ _ _ _ up_to (sym more.whole) more.read

-- after the whole rest is taken, the whole text is taken
pub takes_whole : (before middle after : TextProperty) (text rest : List ℕ) → TakesUpTo before text rest middle → GoesOn middle rest after
    → GoesOn before text after
takes_whole = search (rules, append_assoc)

-- ---- a parser before and after it has returned a fault

-- a parser that has returned a fault may have been fed exactly the texts that have this fault
pub failed_with : (inside parser : ParserState) (fault : FileFault) → inside ≡ parser → inside.fault ≡ Some fault
    → record {
      told : (limit : ℕ) (text : List ℕ) → HasRead parser limit text → IsFaultReported limit text fault;
      read : (limit : ℕ) (text : List ℕ) → IsFaultReported limit text fault → HasRead parser limit text;
      none : ¬ HasNotFailed parser;
    }
failed_with inside parser fault same is =
    let at : parser.fault ≡ Some fault = ap (λ (p : ParserState). p.fault) (sym same) ∙ is in
    record {
      told = λ limit text has. subst (IsReadingOrFault parser.reading limit text) at has;
      read = λ limit text told. subst (IsReadingOrFault parser.reading limit text) (sym at) told;
      none = λ none. none fault at;
    }

-- if a parser that hasn't returned a fault may have been fed a text, it has taken exactly this text
pub reading_of : (inside parser : ParserState) → inside ≡ parser → inside.fault ≡ None
    → (limit : ℕ) (text : List ℕ) → HasRead parser limit text → IsReading KeepsAll inside.reading limit text
reading_of inside parser same none limit text has =
    subst (IsReadingOrFault inside.reading limit text) none (subst (λ p. HasRead p limit text) (sym same) has)

-- if a parser that hasn't returned a fault has taken exactly this text, it may have been fed this text
pub none_at_reading : (parser : ParserState) (limit : ℕ) (text : List ℕ) → parser.fault ≡ None → IsReading KeepsAll parser.reading limit text
    → HasRead parser limit text
none_at_reading parser limit text at is = subst (IsReadingOrFault parser.reading limit text) (sym at) is

-- ---- faults after all complete lines

-- a fault has the cause `Memory` only if `wants` holds, that is, if the keeper may run out of
-- memory
wants_of : (wants : Type 0) (limit : ℕ) (records : Lines) (line : List ℕ) (fault : FileFault) → IsFaultNext wants limit records line fault
    → fault.cause ≡ Memory → wants
wants_of wants limit records line fault next memory = (subst (λ cause. IsCauseAfter wants limit records line (cause_meant cause)) memory next.cause).0

-- if the cause of a fault is one of the definitions' causes, it isn't `Memory`
no_want : (wants : Type 0) (fault : FileFault) (cause : model.FileCause) → cause_meant fault.cause ≡ Some cause → fault.cause ≡ Memory → wants
no_want wants fault cause told memory = let bad : ◌≡◌ {A = Option model.FileCause} None (Some cause) = sym (ap cause_meant memory) ∙ told in absurd cc

-- if a fault is after all complete lines that the parser has read, it is after all complete lines
-- that the parser was fed
pub names_later : (inside parser : ParserState) (fault : FileFault) → inside ≡ parser → inside.fault ≡ None → IsLater KeepsAll ⊤ inside.reading fault
    → NamesLater parser fault
names_later inside parser fault same none told = λ _ limit text has. (told limit text (reading_of inside parser same none limit text has)).0

-- if a fault is at the last record that the parser has read, it is at the last record that the parser was fed
pub names_last : (inside parser : ParserState) (fault : FileFault) → inside ≡ parser → inside.fault ≡ None → IsLast KeepsAll inside.reading fault
    → NamesLast parser fault
names_last inside parser fault same none told = λ _ memory limit text has. told memory limit text (reading_of inside parser same none limit text has)

-- ---- what the result of a parser means

module _ {K : Type 0} (keeps : Keeps K) (wants : Type 0) where
  -- Says that this is a fault of any text that was taken, followed by these bytes, and that the record at fault is complete only with the bytes.
  abbrev pub Faults : FileReading K → List ℕ → FileFault → Type 0
  Faults old bytes fault = record { read : Unit {0}; err : TellsFault (IsReading keeps old) bytes fault; later : IsLater keeps wants old fault }

  -- Says what the result means if these bytes were to be taken: all were taken, or this is their fault.
  abbrev pub Takes : {A : Type 0} → FileReading K → List ℕ → FileReading K → Result A FileFault → Type 0
  Takes old bytes new result = record {
    read : OnOk result (GoesOn (IsReading keeps old) bytes (IsReading keeps new));
    err : IfErr result (TellsFault (IsReading keeps old) bytes);
    later : IfErr result (IsLater keeps wants old);
  }

  -- a fault of some bytes is a fault of any longer bytes that begin with these
  pub fault_in_front : (old : FileReading K) (bytes front behind : List ℕ) (fault : FileFault) → bytes ≡ front ++ behind → Faults old front fault
      → Faults old bytes fault
  fault_in_front old bytes front behind fault cut told = record {
    read = tt;
    err = λ limit text is.
        subst (λ t. IsFaultReported limit t fault) (append_assoc text front behind ∙ ap (λ l. text ++ l) (sym cut))
        (reported_stays limit (text ++ front) behind fault (told.err limit text is));
    later = told.later;
  }

  -- a fault of the rest is a fault of the text
  pub fault_in_rest : (old middle : FileReading K) (text rest : List ℕ) (fault : FileFault) → TakesUpTo (IsReading keeps old) text rest (IsReading keeps middle)
      → Faults middle rest fault → Faults old text fault
  fault_in_rest old middle text rest fault up_to told = record {
    read = tt;
    err = λ limit taken is.
        subst (λ t. IsFaultReported limit t fault) (append_assoc taken (before_rest text rest) rest ∙ ap (λ l. taken ++ l) up_to.whole)
        (told.err limit (taken ++ before_rest text rest) (up_to.read limit taken is));
    later = λ limit taken is.
        let behind = told.later limit (taken ++ before_rest text rest) (up_to.read limit taken is) in
        let grown = sure_lines_grow taken (before_rest text rest) in
        (omega arith, behind.1);
  }

  -- a fault that is passed on by `?` means what it meant before
  pub passed_on : {A : Type 0} (IsRead : A → Type 0) (old : FileReading K) (bytes : List ℕ) (fault : FileFault) (result : Result A FileFault)
      → IsErrAnd result (λ told. told ≡ fault) → Faults old bytes fault
      → record { read : IfOk result IsRead; err : IfErr result (TellsFault (IsReading keeps old) bytes); later : IfErr result (IsLater keeps wants old) }
  passed_on IsRead old bytes fault (Ok value) is told = absurd is
  passed_on IsRead old bytes fault (Err other) is told = subst (Faults old bytes) (sym is) told

  -- what the result means for the rest, it means for the text
  pub rest_taken : {A : Type 0} (old middle new : FileReading K) (text rest : List ℕ) (result : Result A FileFault)
      → TakesUpTo (IsReading keeps old) text rest (IsReading keeps middle) → Takes middle rest new result → Takes old text new result
  rest_taken old middle new text rest (Ok done) up_to told =
      record { read = takes_whole (IsReading keeps old) (IsReading keeps middle) (IsReading keeps new) text rest up_to told.read; err = tt; later = tt }
  rest_taken old middle new text rest (Err fault) up_to told = fault_in_rest old middle text rest fault up_to told

  -- what the result means for the line that ends at a line feed, it means for the bytes up to and including this line feed
  pub line_ended : {A : Type 0} (old new : FileReading K) (front raw line : List ℕ) (result : Result A FileFault) → HasNoFeed front
      → raw ≡ old.partial.items ++ front → line ≡ strip_carriage_return raw → new.partial.items ≡ []
      → record { read : OnOk result (CountsNext keeps old.records line new.records); err : IfErr result (FaultsNext keeps wants old.records line) }
      → Takes old (front ++ 10 ∷ []) new result
  line_ended old new front raw line (Ok done) plain whole strip none told = record {
    read = λ limit text is.
        ended_read keeps old limit text is new front plain (subst (λ l. HasCounted keeps new.records limit (complete_lines text ++ l ∷ []))
        (strip ∙ ap strip_carriage_return (whole ∙ ap (λ l. l ++ front) is.partial_is)) (told.read limit (complete_lines text) is.counted)) none;
    err = tt;
    later = tt;
  }
  line_ended old new front raw line (Err fault) plain whole strip none told = record {
    read = tt;
    err = λ limit text is.
        let next = told.err limit (complete_lines text) is.counted in
        ended_fault keeps old limit text is wants front fault.number (cause_meant fault.cause) plain next.number
        (subst (λ l. IsCauseAfter wants limit (complete_lines text) l (cause_meant fault.cause))
        (strip ∙ ap strip_carriage_return (whole ∙ ap (λ l. l ++ front) is.partial_is)) next.cause);
    later = λ limit text is.
        let next = told.err limit (complete_lines text) is.counted in
        (later_than keeps old limit text is fault next.number, wants_of wants limit (complete_lines text) line fault next);
  }

  -- if more than 81 bytes of a line have been read, the text is refused at this line, which is too long even without a line feed
  pub too_long : (old : FileReading K) (more : List ℕ) (fault : FileFault) → HasNoFeed more → ¬ (length old.partial.items + length more ≤ 81)
      → ((limit : ℕ) (records : Lines) → HasCounted keeps old.records limit records → IsLongNext limit records fault) → Faults old more fault
  too_long old more fault plain many told = record {
    read = tt;
    err = λ limit text is. kept_long keeps old limit text is more fault plain many (told limit (complete_lines text) is.counted);
    later = λ limit text is.
        let next = told limit (complete_lines text) is.counted in
        let cause = cause_of_long limit (length (complete_lines text)) next.place in
        (later_than keeps old limit text is fault next.number, no_want wants fault cause next.cause);
  }

  -- Says what the result means at the end of a text: the text is this file, or this is its fault.
  abbrev pub Ends : FileReading K → Result (Ended K) FileFault → Type 0
  Ends reading result = record {
    ok : IfOk result (EndsBy keeps reading);
    err : IfErr result (EndsInFault (IsReading keeps reading));
    later : IfErr result (IsLater keeps wants reading);
    last : IfErr result (IsLast keeps reading);
  }

  -- if all lines of a text were taken, the result means for the text what it means for the records
  pub finished : (reading : FileReading K) (records : Records K) (result : Result (Ended K) FileFault)
      → ((limit : ℕ) (text : List ℕ) → IsReading keeps reading limit text → HasCounted keeps records limit (lines_of text))
      → record { ok : IfOk result (EndsCounted keeps records); err : IfErr result (EndsUnended keeps records) } → Ends reading result
  finished reading records (Ok ended) counted told = record {
    ok = λ limit text is.
        let taken = counted limit text is in
        let file = told.ok limit (lines_of text) taken in
        record { records = lines_of text; is_text = record { lines = refl; is = file.0; within = taken.within }; of_records = file.1 };
    err = tt;
    later = tt;
    last = tt;
  }
  finished reading records (Err fault) counted told = record {
    ok = tt;
    err = λ limit text is.
        let taken = counted limit text is in
        let ends = told.err limit (lines_of text) taken in
        subst (IsCauseOf limit text fault.number) (sym ends.1) (inr (record {
          within = taken.within;
          begin = (begins_iff_place (lines_of text)).1 (taken.has.place, taken.has.at);
          unended = ends.2;
          number = ends.0;
          cause = refl;
        }));
    later = λ limit text is.
        let ends = told.err limit (lines_of text) (counted limit text is) in
        let number = ends.0 in
        let same = sure_lines_short text is.short in
        let size = ap (λ (l : Lines). length l) (lines_of_told text) ∙ length-append (complete_lines text) (line_left (open_line text)) in
        (omega arith, no_want wants fault no_end ends.1);
    last = λ memory limit text is.
        no_want (IsLastOfFile limit text fault.number) fault no_end (told.err limit (lines_of text) (counted limit text is)).1 memory;
  }

-- ---- a record at the start of a text

-- if the record at the start of the rest of a text was taken, only the bytes after this record's
-- line end are still to be taken
pub record_read : {K : Type 0} (keeps : Keeps K) (before : TextProperty) (old new : FileReading K) (text rest front line behind : List ℕ)
    → TakesUpTo before text rest (IsReading keeps old) → BeginsWithEighty rest front behind → line ≡ front → IsRecord front
    → old.partial.items ≡ [] → CountsNext keeps old.records line new.records → new.partial.items ≡ []
    → TakesUpTo before text behind (IsReading keeps new)
record_read keeps before old new text rest front line behind up_to begins same is none taken after =
    let at = record_cut _ _ _ is begins in
    takes_line _ _ _ _ _ _ _ up_to at.cut (line_ended keeps ⊤ old new at.front at.front line (Ok line) at.cut.plain
    (ap (λ l. l ++ at.front) (sym none)) (same ∙ at.line_is) after (record { read = taken; err = tt })).read

-- a fault at the record at the start of the rest is a fault of the rest
pub record_fault : {K : Type 0} (keeps : Keeps K) (wants : Type 0) (old : FileReading K) (rest front line behind : List ℕ) (fault : FileFault)
    → BeginsWithEighty rest front behind → line ≡ front → IsRecord front → old.partial.items ≡ []
    → FaultsNext keeps wants old.records line fault
    → Faults keeps wants old rest fault
record_fault keeps wants old rest front line behind fault begins same is none tells =
    let at = record_cut _ _ _ is begins in
    fault_in_front keeps wants old rest _ _ fault (cut_whole _ _ _ at.cut) (line_ended keeps wants {A = Lines} old old at.front at.front line (Err fault)
    at.cut.plain (ap (λ l. l ++ at.front) (sym none)) (same ∙ at.line_is) none (record { read = tt; err = tells }))
