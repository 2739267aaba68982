-- The contracts of an office's methods follow from the contracts of the functions that they call.
use Rattle.std.proofs.Common.{◌≡◌, ◌≢◌, ℕ, ◌≤◌, List, [], ◌∷◌, ◌++◌, ap, arith, sym, ◌∙◌, subst, Some, Ok, Err, rules, Option, Result, max, IsOk, IfErr, OnOk}
use Rattle.std.proofs.Common.{OnErr, is_ok}
use Rattle.std.proofs.Math.Nat.{zero-max}
use Rattle.docker_model.specs.file.File.{most_records}
use Rattle.docker_model.specs.state.State.{State, IsJoin, IsValid, raise_horizon}
use Rattle.docker_model.specs.state.Summary.{IsSummary}
use Rattle.docker_model.specs.state.StateText.{Format, dks_2}
use Rattle.state_laws.proofs.joins.JoinLaws.{join_commutes}
use Rattle.state_laws.proofs.states.SummaryLaws.{join_is_summary}
use Rattle.state_laws.proofs.texts.TextsApart.{one_text}
use Rattle.cif_file.specs.FileRead.{FileRead, IsOfRecords}
use Rattle.cif_file.specs.FileEnds.{CountsWhyNoFile, IsWhyNoFile, StopsReadingFile}
use Rattle.cif_file.specs.SourceRead.{ReadsText, WantsMemory}
use Rattle.cif_file.specs.declared.fault.FileReadFault as files
use Rattle.docker_bytes.specs.Excerpts.{IsExcerptAt}
use Rattle.cif_device.specs.Device.{IsEnd, Held}
use Rattle.docker_bytes.specs.ReadEnds.{BytesLeft, CountsOutcome, CountsWhy, IsOutcome, IsWhyUnread, StopsReading, Wanting}
use Rattle.docker_bytes.specs.SourceRead.{RaisesState, ReadsMade, ReadsState, JoinsState}
use Rattle.docker_bytes.specs.SourceRead as Unread
use Rattle.docker_laws.specs.FileSummary.{summary_of}
use Rattle.docker_laws.proofs.dockers.FileSummary.{join_of_nothing, summary_is, summary_valid}
use Rattle.docker_excerpt.specs.Values.{Excerpt}
use Rattle.docker_bytes.specs.declared.read.ReadFault as states
use Rattle.docker_office.specs.declared.fault.OfficeFault.{OfficeFault}
use Rattle.docker_office.specs.declared.fault.OfficeFault.TheVariants as office
use Rattle.docker_office.specs.Faults.{IsOfFile, IsOfState, office_fault_of_file, office_fault_of_state}
use Rattle.docker_office.specs.Office.{HoldsFile, TakesFile, KnowsFileToo, HoldsState, no_state}
use Rattle.docker_office.specs.OfficeReads.{CountsTaking, IsTakingOutcome, why_unread}

-- ---- two results that are both `Ok` or both `Err`

-- if two results are both `Ok` or both `Err`, and `P` holds if the first is `Ok`, then `P` also
-- holds if the second is `Ok`
pub on_ok_with : {A B E F : Type 0} (P : Type 0) (first : Result A E) (second : Result B F) → is_ok second ≡ is_ok first → OnOk first P → OnOk second P
on_ok_with = search rules

-- suppose that two results are both `Ok` or both `Err`, and that `P` holds if the first is `Ok`. If
-- the second is `Ok`, then the first is `Ok` too, so `P` holds
pub of_ok : {A B E F : Type 0} (P : Type 0) (first : Result A E) (second : Result B F) → is_ok second ≡ is_ok first → OnOk first P → IsOk second → P
of_ok = search rules

-- suppose that two results are both `Ok` or both `Err`, and that `P` holds if the first is `Err`.
-- If the second is `Err`, then the first is `Err` too, so `P` holds
pub of_err : {A B E F : Type 0} (P : Type 0) (first : Result A E) (second : Result B F) → is_ok second ≡ is_ok first → OnErr first P → (e : F) → second ≡ Err e
    → P
of_err = search rules

-- ---- how reading ends

-- if a file was read from a source, the source held the text of a file
pub holds_file : (limit : ℕ) (left : BytesLeft) (read : FileRead) → ReadsText limit left read → HoldsFile limit left
holds_file = search rules

-- if the reader of states returns a fault, the office returns a fault with the same meaning
pub unread_by_office : {S : Type 0} (left : S → BytesLeft) (failures : S → ℕ) (format : Format) (limit : ℕ) (old new : S) (cause : states.ReadFault)
    → StopsReading format limit (left old) (left new) (IsWhyUnread Unread.WantsMemory format limit (left old) (left new) (Some cause))
    (CountsWhy (Some cause) (failures old) (failures new))
    → StopsReading format limit (left old) (left new)
    (IsWhyUnread Unread.WantsMemory format limit (left old) (left new) (why_unread (office_fault_of_state cause)))
    (CountsWhy (why_unread (office_fault_of_state cause)) (failures old) (failures new))
unread_by_office = search rules

-- if the reader of files returns a fault, the office returns a fault with the same meaning
pub untaken : {A : Type 0} (limit : ℕ) (IsMade : A → Type 0) (left left_now : BytesLeft) (failures failures_now : ℕ) (cause : files.FileReadFault)
    → StopsReadingFile limit left left_now (IsWhyNoFile WantsMemory limit left left_now cause) (CountsWhyNoFile cause failures failures_now)
    → StopsReadingFile limit left left_now (IsTakingOutcome limit IsMade left left_now (Err (office_fault_of_file cause)))
    (CountsTaking {A = A} failures failures_now (Err (office_fault_of_file cause)))
untaken = search rules

-- if a whole file was read, either the office takes the file or memory runs out for the file's
-- state
pub taken_whole : {A : Type 0} (limit : ℕ) (IsMade : A → Type 0) (left left_now : BytesLeft) (failures failures_now : ℕ) (read : FileRead)
    (result : Result A OfficeFault) → StopsReadingFile limit left left_now (ReadsText limit left read × IsEnd left_now) (failures_now ≡ failures)
    → ((made : A) → result ≡ Ok made → IsMade made) → IfErr result (λ fault. fault ≡ office.Memory)
    → StopsReadingFile limit left left_now (IsTakingOutcome limit IsMade left left_now result) (CountsTaking failures failures_now result)
taken_whole = search (rules, holds_file)

-- ---- states

-- if a file was read, and the new state is the join of the office's state and the file's state, the
-- office has taken the file
pub takes_file : (limit : ℕ) (left : Option (List ℕ)) (read : FileRead) (old own new : State) → ReadsText limit left read
    → ((file : List (List ℕ)) → IsOfRecords read file → IsSummary (file ∷ []) 0 own) → IsJoin old own new → TakesFile limit left old new
takes_file = search rules

-- if the state of an office that knew no file is now the summary of the file that was read, the
-- office has taken the file
pub takes_whole : (limit : ℕ) (left : Option (List ℕ)) (read : FileRead) (state : State) → ReadsText limit left read → limit ≤ most_records
    → ((file : List (List ℕ)) → IsOfRecords read file → state ≡ summary_of file) → TakesFile limit left no_state state
takes_whole limit left read state reads few told =
    let within = reads.of_text.is_text.within in
    let lines = reads.of_text.records in
    let same = told lines reads.of_text.of_records in
    record {
      text = reads.text;
      held = reads.held;
      file = lines;
      is_text = reads.of_text.is_text;
      own = state;
      of_file = subst (λ (own : State). IsSummary (lines ∷ []) 0 own) (sym same) (summary_is lines);
      joined = join_of_nothing state (subst IsValid (sym same) (summary_valid lines reads.of_text.is_text.is (omega arith)));
    }

-- after an office took a file, the office's state is the summary of the files that it knew before
-- and of this file
pub knows_file_too : (limit : ℕ) (left : Option (List ℕ)) (old new : State) (files : List (List (List ℕ))) (horizon : ℕ) → TakesFile limit left old new
    → IsSummary files horizon old → KnowsFileToo limit left files horizon new
knows_file_too limit left old new files horizon takes is = record {
  text = takes.text;
  held = takes.held;
  file = takes.file;
  is_text = takes.is_text;
  summary = subst (λ h. IsSummary (takes.file ∷ files) h new) (zero-max horizon)
      (join_is_summary (takes.file ∷ []) files 0 horizon takes.own old new takes.of_file is (join_commutes old takes.own new takes.joined));
}

-- if contracts can say which bytes a source holds, only one state can be read from the source
pub one_read : (format : Format) (limit : ℕ) (left : Option (List ℕ)) (read sent : State) → ReadsState format limit left read
    → HoldsState format limit left sent → read ≡ sent
one_read format limit left read sent reads holds =
    let same : holds.text ≡ reads.text = subst (λ bytes. Held bytes reads.text) holds.told reads.held in
    one_text format read sent reads.is.valid holds.is.valid (sym reads.is.is ∙ sym same ∙ holds.is.is)

-- if contracts can say which bytes a source holds, only one state can be read from the source and
-- raised to a day
pub one_raised : (format : Format) (limit : ℕ) (left : Option (List ℕ)) (day : ℕ) (read sent : State) → RaisesState format limit left day read
    → HoldsState format limit left sent → read ≡ raise_horizon day sent
one_raised format limit left day read sent raises holds = raises.raised ∙ ap (raise_horizon day) (one_read _ _ _ _ _ raises.reads holds)

-- the join of two summaries is the summary of all their files
pub joins_summaries : (limit : ℕ) (left : Option (List ℕ)) (old new : State) → JoinsState dks_2 limit left old new
    → (files others : List (List (List ℕ))) (g h : ℕ) (sent : State) → IsSummary files g old → IsSummary others h sent → HoldsState dks_2 limit left sent
    → IsSummary (files ++ others) (max g h) new
joins_summaries limit left old new joins files others g h sent of_files of_others holds = join_is_summary _ _ _ _ _ _ _ of_files
    (subst (IsSummary others h) (sym (one_read _ _ _ _ _ joins.read holds)) of_others) joins.join

-- ---- excerpts

-- in contracts, the value of an excerpt that was read includes the whole state whose text the
-- source held
pub state_read : (place : List ℕ) (day limit : ℕ) (left : Option (List ℕ)) (excerpt : Excerpt)
    → ReadsMade (IsExcerptAt place day) dks_2 limit left excerpt → ReadsState dks_2 limit left excerpt.state
state_read = search rules

-- in contracts, the value of an excerpt that was read includes the whole state whose text the
-- source held. If contracts can say which bytes the source held, no other state can be read from
-- the source
pub one_excerpt : (place : List ℕ) (day limit : ℕ) (left : Option (List ℕ)) (excerpt : Excerpt)
    → ReadsMade (IsExcerptAt place day) dks_2 limit left excerpt → (sent : State) → HoldsState dks_2 limit left sent → excerpt.state ≡ sent
one_excerpt = search (rules, one_read, state_read)

-- ---- reading from a text in memory

-- if reading a state has ended with a value, the promise `IsMade` about this value holds
pub read_ok : {A : Type 0} (wants : Wanting) (format : Format) (limit : ℕ) (IsMade : Type 0) (left left_now : BytesLeft) (result : Result A OfficeFault)
    → IsOutcome wants why_unread format limit (λ _. IsMade) left left_now result → IsOk result → IsMade
read_ok = search rules

-- if the source's failure count is unchanged, reading a state hasn't ended with a failure of the
-- source
pub read_unfailed : {A : Type 0} (failures : ℕ) (result : Result A OfficeFault) → CountsOutcome why_unread failures failures result → result ≢ Err office.Source
read_unfailed = search rules

-- reading a state can end only with a value, a fault of the text, a failure of the source, or the
-- fault `Memory`
pub read_only : {A : Type 0} (wants : Wanting) (format : Format) (limit : ℕ) (IsMade : A → Type 0) (left left_now : BytesLeft) (result : Result A OfficeFault)
    → IsOutcome wants why_unread format limit IsMade left left_now result → IfErr result IsOfState
read_only = search rules

-- if taking a file has ended with a value, the promise `IsMade` about this value holds
pub taken_ok : {A : Type 0} (limit : ℕ) (IsMade : Type 0) (left left_now : BytesLeft) (result : Result A OfficeFault)
    → IsTakingOutcome limit (λ _. IsMade) left left_now result → IsOk result → IsMade
taken_ok = search rules

-- if the source's failure count is unchanged, taking a file hasn't ended with a failure of the
-- source
pub taken_unfailed : {A : Type 0} (failures : ℕ) (result : Result A OfficeFault) → CountsTaking failures failures result → result ≢ Err office.Source
taken_unfailed = search rules

-- taking a file can end only with a value, a fault of the text, a failure of the source, or the
-- fault `Memory`
pub taken_only : {A : Type 0} (limit : ℕ) (IsMade : A → Type 0) (left left_now : BytesLeft) (result : Result A OfficeFault)
    → IsTakingOutcome limit IsMade left left_now result → IfErr result IsOfFile
taken_only = search rules
