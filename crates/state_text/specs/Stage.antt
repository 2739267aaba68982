-- Converts stages from the code's type to the definitions' type. A stage says which part comes
-- next. What comes before that part follows from the stage, the parts that were read, and the lines
-- of a schedule that isn't complete.
use Rattle.std.specs.Prelude.{◌≡◌, ℕ, ◌+◌, ◌≤◌, Bool, true, false, List, [], length, ⊤}
use Rattle.docker_model.specs.state.State.{State}
use Rattle.docker_model.specs.state.StateText.{Format}
use Rattle.docker_model.specs.state.StateFault.{StateCause, IsBadPart}
use Rattle.docker_model.specs.state.StatePart.{EntryPart, before_tag, before_key, before_stamp, before_op, before_body, before_line, Before, before_mark}
use Rattle.docker_model.specs.state.StatePart.{before_horizon, before_ledger_count, before_item, before_entry_count, in_entry, at_end, AreGood}
use Rattle.cif_change.specs.Meaning.{key_meant, schedule_key_meant}
use Rattle.docker_join.specs.Meaning.{stamp_meant}
use Rattle.state_text.specs.declared.stage.Tag.{Tag}
use Rattle.state_text.specs.declared.stage.Tag.TheVariants as tag
use Rattle.state_text.specs.declared.stage.Stage.{Stage}
use Rattle.state_text.specs.declared.stage.Stage.TheVariants as stage
use Rattle.state_laws.specs.TextStage.{advance}

-- the number of a tag: 1 for TIPLOCs, 2 for associations, 3 for schedules
abbrev pub tag_meant : Tag → ℕ
tag_meant tag.Tiploc = 1
tag_meant tag.Assoc = 2
tag_meant tag.Schedule = 3

-- converts a stage to a `Before`, which says what part comes next and has the values of the parts before it. Besides the stage, the conversion needs the parts
-- that were read, and the lines of a schedule that isn't complete
abbrev pub stage_meant : Stage → State → List (List ℕ) → Before
stage_meant stage.Mark state lines = before_mark
stage_meant stage.Horizon state lines = before_horizon
stage_meant stage.LedgerCount state lines = before_ledger_count state.horizon
stage_meant (stage.Item count) state lines = before_item state.horizon count state.ledger
stage_meant stage.EntryCount state lines = before_entry_count state.horizon state.ledger
stage_meant (stage.Tag count) state lines = in_entry count state before_tag
stage_meant (stage.Key count kind) state lines = in_entry count state (before_key (tag_meant kind))
stage_meant (stage.Stamp count key) state lines = in_entry count state (before_stamp (key_meant key))
stage_meant (stage.Op count key stamp) state lines = in_entry count state (before_op (key_meant key) (stamp_meant stamp))
stage_meant (stage.Body count key stamp) state lines = in_entry count state (before_body (key_meant key) (stamp_meant stamp))
stage_meant (stage.Line count key stamp n) state lines = in_entry count state (before_line (schedule_key_meant key) (stamp_meant stamp) n lines)
stage_meant stage.End state lines = at_end state

-- whether the next part is the tag, with which an entry begins
abbrev pub begins_part : EntryPart → Bool
begins_part before_tag = true
begins_part _ = false

-- whether the next part begins an item of the text. The result is false for the parts of an entry
-- after its tag, and true at the end of the text
abbrev pub begins_item : Before → Bool
begins_item (in_entry count state part) = begins_part part
begins_item _ = true

-- says that the parts of the state that are read after this stage are still empty
abbrev pub IsFresh : Stage → State → Type 0
IsFresh stage.Mark state = (state.ledger ≡ []) × (state.entries ≡ []) × (state.horizon ≡ 0)
IsFresh stage.Horizon state = (state.ledger ≡ []) × (state.entries ≡ [])
IsFresh stage.LedgerCount state = (state.ledger ≡ []) × (state.entries ≡ [])
IsFresh (stage.Item count) state = state.entries ≡ []
IsFresh stage.EntryCount state = state.entries ≡ []
IsFresh _ state = ⊤

-- says that the next part isn't a line of a schedule, or is the schedule's last line
abbrev pub IsLast : Stage → List (List ℕ) → Type 0
IsLast (stage.Line count key stamp n) lines = n ≤ length lines + 1
IsLast _ lines = ⊤

-- says that the parts before this stage are good, and that the parts after it are still empty
pub record IsReady (format : Format) (stage : Stage) (state : State) (lines : List (List ℕ)) : Type 0 where
  pub good : AreGood format (stage_meant stage state lines)
  pub fresh : IsFresh stage state

-- says that these bytes are a part that isn't bad, and that this is the stage after the part
pub record LeadsTo (format : Format) (before : Before) (bytes : List ℕ) (stage : Stage) (state : State) (lines : List (List ℕ)) : Type 0 where
  pub is : stage_meant stage state lines ≡ advance format before bytes
  pub not_bad : (cause : StateCause) → ¬ IsBadPart format before bytes cause
  pub fresh : IsFresh stage state
