-- The results of judging a part of a state's text.
use Rattle.std.specs.Prelude.{◌≡◌, ℕ, ◌≤◌, List, Option, Some, None, Result, Ok, Err}
use Rattle.docker_model.specs.state.Stamp as stamps
use Rattle.docker_model.specs.file.Change as model
use Rattle.docker_model.specs.state.State.{State, IsGoodItem, IsGoodKey, IsAssociationOf}
use Rattle.docker_model.specs.records.Field.{HasNewTransaction, HasGoodFields}
use Rattle.docker_model.specs.records.Record.{HasKind, basic_schedule, columns}
use Rattle.docker_model.specs.file.Change.{schedule_named, schedule_key, association_body}
use Rattle.docker_model.specs.state.Op.{body_end, readable_end}
use Rattle.docker_model.specs.state.StatePart.{IsAboveItems, RaisesFloor, IsAboveEntries}
use Rattle.docker_model.specs.state.StateFault.{IsBadItem, IsBadKey}
use Rattle.docker_model.specs.state.StateFault as fault
use Rattle.docker_model.specs.state.StatePart as fault_statepart
use Rattle.docker_model.specs.state.StateText.{Format}
use Rattle.cif_change.specs.declared.key.Key.{Key}
use Rattle.cif_change.specs.Meaning.{key_meant}
use Rattle.docker_state.specs.declared.item.LedgerItem.{LedgerItem}
use Rattle.docker_state.specs.Meaning.{item_meant}
use Rattle.state_text.specs.declared.cause.StateCause.{StateCause}
use Rattle.state_text.specs.FaultMeaning.{cause_meant, IsBadHere}
use Rattle.state_text.specs.declared.stage.Stage.{Stage}
use Rattle.state_text.specs.Stage.{LeadsTo}

-- says what the result of judging a part means. `Ok` means that the part is good, and gives the stage after the part. `Err` gives a cause: the part is bad for
-- this cause, or there was no memory for the part
abbrev pub Judges : Format → fault_statepart.Before → List ℕ → State → List (List ℕ) → Result Stage StateCause → Type 0
Judges format before bytes state lines (Ok stage) = LeadsTo format before bytes stage state lines
Judges format before bytes state lines (Err cause) = IsBadHere format before bytes (cause_meant cause)

-- says that this ledger item may come next in the ledger
pub record MayFollow (ledger : List stamps.LedgerItem) (item : stamps.LedgerItem) : Type 0 where
  pub good : IsGoodItem item
  pub above : IsAboveItems ledger item
  pub keeps_floor : ¬ RaisesFloor ledger item

-- says that this ledger item is bad for this cause. `None` means that memory ran out, which never
-- makes an item bad
abbrev pub IsItemCause : List stamps.LedgerItem → stamps.LedgerItem → Option fault.StateCause → Type 0
IsItemCause ledger item None = ⊥
IsItemCause ledger item (Some cause) = IsBadItem ledger item cause

-- says what the result of judging a ledger item means. `Ok` gives the item, which may come next.
-- `Err` gives the cause for which the item may not come next
abbrev pub IsJudgedItem : List stamps.LedgerItem → stamps.LedgerItem → Result LedgerItem StateCause → Type 0
IsJudgedItem ledger item (Ok told) = (item_meant told ≡ item) × MayFollow ledger item
IsJudgedItem ledger item (Err cause) = IsItemCause ledger item (cause_meant cause)

-- says that this key is bad for this cause. `None` means that memory ran out, which never makes a
-- key bad
abbrev pub IsKeyCause : State → model.Key → Option fault.StateCause → Type 0
IsKeyCause state key None = ⊥
IsKeyCause state key (Some cause) = IsBadKey state key cause

-- says what the result of judging a key means. `Ok` gives the key, which may come next. `Err` gives
-- the cause for which the key may not come next
abbrev pub IsJudgedKey : State → model.Key → Result Key StateCause → Type 0
IsJudgedKey state key (Ok told) = (key_meant told ≡ key) × IsGoodKey key × IsAboveEntries state key
IsJudgedKey state key (Err cause) = IsKeyCause state key (cause_meant cause)

-- says that the line is an association with this key, and that the association doesn't end before the horizon
abbrev pub IsAssociationUnder : ℕ → model.AssociationKey → List ℕ → Type 0
IsAssociationUnder horizon key line = IsAssociationOf key line × (horizon ≤ body_end (association_body line))

-- says that the line has the transaction `N` and this key, and that its schedule doesn't end before the horizon
pub record IsOfKey (horizon : ℕ) (key : model.ScheduleKey) (line : List ℕ) : Type 0 where
  pub new : HasNewTransaction line
  pub key_is : schedule_named line ≡ schedule_key key
  pub stays : horizon ≤ readable_end (columns 16 21 line)

-- says that the line may begin a schedule with this key. The line is a basic schedule with good fields, the transaction `N` and this key, and its schedule
-- doesn't end before the horizon
pub record IsFirstOf (horizon : ℕ) (key : model.ScheduleKey) (line : List ℕ) : Type 0 where
  pub kind : HasKind basic_schedule line
  pub fields : HasGoodFields line
  pub of_key : IsOfKey horizon key line
