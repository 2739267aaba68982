-- What a desk knows, how it answers each request, and what each request changes.
use Rattle.std.specs.Prelude.{◌≡◌, ◌≢◌, ℕ, Bool, true, false, List, [], ◌∷◌, ◌++◌, Option, Some, None, Result, Ok, Err, ⊤}
use Rattle.docker_model.specs.file.File.{most_records}
use Rattle.docker_model.specs.state.State.{State}
use Rattle.docker_model.specs.state.StateText.{dks_2, state_text}
use Rattle.cif_file.specs.SourceRead.{RefusesText}
use Rattle.docker_cmd.specs.Prepared.{WantsForState, most_bytes}
use Rattle.cif_device.specs.Device.{IsEnd, Held}
use Rattle.docker_host.specs.History.{Bytes, Event, Text, drafted, looked, named_if, placed}
use Rattle.docker_host.specs.Asked.{FailsToStore, IsStored, IsUndrafted}
use Rattle.docker_bytes.specs.SourceRead.{JoinsState, ReadsState, RefusesState}
use Rattle.docker_office.specs.Faults.{IsReason, no_fault}
use Rattle.docker_office.specs.Office.{TakesFile, WantsForFile}
use Rattle.docker_office.specs.declared.fault.OfficeFault.{OfficeFault}
use Rattle.docker_desk.specs.Reading.{HasOpened, Reading}
use Rattle.docker_desk.specs.declared.compared.Compared.{Compared}
use Rattle.docker_desk.specs.declared.compared.Compared.TheVariants as compared
use Rattle.docker_desk.specs.Queries.{IsQueryLapsed, IsQueryText}
use Rattle.docker_desk.specs.Replies.{AnswerView, done_with, refused_for, no_request}
use Rattle.docker_desk.specs.declared.query.Query.{Query}

-- what a desk knows: its state, and whether the desk may have unsaved changes. The flag is set if
-- the state may differ from the state that the file was last seen to hold
pub record DeskView : Type 0 where
  pub state : State
  pub unsaved : Bool

-- the answer has a text for which `Is` holds, or is a refusal: for `Lapsed` if the day is refused,
-- otherwise for `Memory`
abbrev pub IsAnswer : (List ℕ → Type 0) → (IsRefused : Type 0) → AnswerView → Type 0
IsAnswer Is IsRefused (done_with text) = Is text × (¬ IsRefused)
IsAnswer Is IsRefused (refused_for fault) =
    IsReason (record no_fault { lapsed = IsRefused; memory = ¬ IsRefused }) fault
IsAnswer Is IsRefused no_request = ⊥

-- this is an answer to the query
abbrev pub IsShown : State → Query → AnswerView → Type 0
IsShown state query answer = IsAnswer (IsQueryText state query) (IsQueryLapsed state query) answer

-- ---- how files are read

-- this fault is why a file can't be opened: `Source` if its device failed, otherwise
-- `Memory`
abbrev pub IsWhyUnopened : OfficeFault → Type 0
IsWhyUnopened = IsReason (record no_fault { source = ⊤; memory = ⊤ })

-- this fault is why a file isn't taken: its text is refused, its device failed, or memory
-- ran out. If memory ran out, no record that was read before has a fault
abbrev pub RefusesToTake : Reading → OfficeFault → Type 0
RefusesToTake read = IsReason (record no_fault {
  file = λ fault. RefusesText most_records read.held fault;
  source = ⊤;
  memory = WantsForFile most_records read.held read.left;
})

-- this fault is why no state is received from a file: its text is refused, its device
-- failed, or memory ran out. If memory ran out, no part that was read before has a fault
abbrev pub RefusesToReceive : Reading → OfficeFault → Type 0
RefusesToReceive read = IsReason (record no_fault {
  state = λ fault. RefusesState dks_2 most_bytes read.held fault;
  source = ⊤;
  memory = WantsForState dks_2 read.held read.left;
})

-- this fault is why a file couldn't be read. If there is no reading, the file couldn't be opened.
-- Otherwise the file was opened, and `Refuses` holds for the reading and the fault
abbrev pub IsWhyNot : (Reading → OfficeFault → Type 0) → OfficeFault → Option Reading → Type 0
IsWhyNot Refuses fault (Some read) = Refuses read fault
IsWhyNot Refuses fault None = IsWhyUnopened fault

-- the file was read to its end, and the new state is the join of the old state and the file's state
pub record TakesReading (old new : State) (read : Reading) : Type 0 where
  pub takes : TakesFile most_records read.held old new
  pub end : IsEnd read.left

-- taking a file ended with this result. If the file couldn't be opened, there is no reading. A
-- refusal leaves the state unchanged
abbrev pub EndsTaking : State → State → Result ⊤ OfficeFault → Option Reading → Type 0
EndsTaking old new (Ok done) read = HasOpened (TakesReading old new) read
EndsTaking old new (Err fault) read = IsWhyNot RefusesToTake fault read × (new ≡ old)

-- receiving the state in a file ended with this result. If the file couldn't be opened, there is no
-- reading. A refusal leaves the state unchanged
abbrev pub EndsReceiving : {A : Type 0} → State → State → Result A OfficeFault → Option Reading
    → Type 0
EndsReceiving old new (Ok done) read =
    HasOpened (λ it. JoinsState dks_2 most_bytes it.held old new) read
EndsReceiving old new (Err fault) read = IsWhyNot RefusesToReceive fault read × (new ≡ old)

-- reloading the state in a file ended with this result. If the file couldn't be opened, there is no
-- reading
abbrev pub EndsReloading : State → Result ⊤ OfficeFault → Option Reading → Type 0
EndsReloading new (Ok done) read = HasOpened (λ it. ReadsState dks_2 most_bytes it.held new) read
EndsReloading new (Err fault) read = IsWhyNot RefusesToReceive fault read

-- ---- how a file is compared with a state

-- these bytes differ from the text. The definition is also true if contracts can't say which bytes
-- these are
abbrev pub IsOtherText : Bytes → Text → Type 0
IsOtherText None text = ⊤
IsOtherText (Some bytes) text = bytes ≢ text

-- comparing the text in a file with the text of a state has this result: `Same` if they are equal,
-- `Other` if they differ. `Unknown` is possible in both cases. If contracts can't say which bytes
-- the file held, every result is possible
abbrev pub IsFound : Compared → State → Reading → Type 0
IsFound compared.Same state read = Held read.held (state_text dks_2 state)
IsFound compared.Other state read = IsOtherText read.held (state_text dks_2 state)
IsFound compared.Unknown state read = ⊤

-- the result of a comparison is `Unknown` unless the texts are compared
abbrev pub IsUnknownUnless : (compares : Bool) → Compared → Type 0
IsUnknownUnless compares found = compares ≡ false → found ≡ compared.Unknown

-- receiving the state in a file, and comparing what the file held with the text of the new state,
-- ended with this result
abbrev pub EndsComparing : State → State → Result Compared OfficeFault → Option Reading → Type 0
EndsComparing old new (Ok found) read =
    EndsReceiving old new (Ok found) read × HasOpened (IsFound found new) read
EndsComparing old new (Err fault) read = EndsReceiving {A = Compared} old new (Err fault) read

-- the unsaved flag after a renewal: cleared if the file held the text of the new state, otherwise
-- set
abbrev pub unsaved_if : Compared → Bool
unsaved_if compared.Same = false
unsaved_if compared.Other = true
unsaved_if compared.Unknown = true

-- renewing a desk from its state's file ended with this result. The desk then has unsaved changes
-- unless the comparison showed that the file held the text of the new state. A refusal leaves the
-- desk unchanged
abbrev pub EndsRenewing : DeskView → DeskView → Result Compared OfficeFault → Option Reading
    → Type 0
EndsRenewing old new (Ok found) read =
    EndsComparing old.state new.state (Ok found) read × (new.unsaved ≡ unsaved_if found)
EndsRenewing old new (Err fault) read = IsWhyNot RefusesToReceive fault read × (new ≡ old)

-- ---- the unsaved flag and the look

-- the unsaved flag after a request that may change the state: set if the request succeeded,
-- unchanged if it was refused
abbrev pub unsaved_by : Result ⊤ OfficeFault → Bool → Bool
unsaved_by (Ok done) unsaved = true
unsaved_by (Err fault) unsaved = unsaved

-- the position of the desk's look after a request: `look` if the request succeeded, otherwise
-- `before`
abbrev pub look_by : {A : Type 0} → Result A OfficeFault → ℕ → ℕ → ℕ
look_by (Ok done) look before = look
look_by (Err fault) look before = before

-- ---- how a text is stored

-- storing a text in the named file, by a draft based on the look at this position in the history,
-- ended with this result. Either the draft replaced the file, or a device failed, or there was no
-- memory for a draft
abbrev pub EndsStoring : (names_bytes : Bool) (name : Text) (look : ℕ) (text : List ℕ)
    (old new : List Event) → Result ⊤ OfficeFault → Type 0
EndsStoring names_bytes name look text old new (Ok done) = IsStored names_bytes name look text old new
EndsStoring names_bytes name look text old new (Err fault) = IsReason (record no_fault {
  sink = FailsToStore names_bytes name look text old new;
  memory = IsUndrafted name look old new;
}) fault

-- saving a text in the named file ended with this result. A draft with the text was made, and if it
-- replaced the file, the file was looked at again
abbrev pub EndsSaving : (names_bytes : Bool) (name : Text) (look : ℕ) (text : List ℕ)
    (old new : List Event) → Result ⊤ OfficeFault → Type 0
EndsSaving names_bytes name look text old new (Ok done) =
    new ≡ old ++ drafted name look ∷ placed name (named_if names_bytes text) ∷ looked name ∷ []
EndsSaving names_bytes name look text old new (Err fault) =
    EndsStoring names_bytes name look text old new (Err fault)
