-- Converts causes of faults from the code's type to the definitions' type, and defines when a part
-- of a text is bad for a cause.
use Rattle.std.specs.Prelude.{◌≢◌, ℕ, List, Option, Some, None, slice_index, ⊤}
use Rattle.docker_model.specs.file.Change.{tiploc_key, association_key, schedule_key}
use Rattle.docker_model.specs.state.StateText.{Format}
use Rattle.docker_model.specs.state.StateFault.{bad_mark, bad_item, bad_order, bad_floor, bad_tag, bad_stamp, bad_body, too_short, has_tail, too_long}
use Rattle.docker_model.specs.state.StateFault.{bad_horizon, IsBadPart}
use Rattle.docker_model.specs.state.StatePart.{EntryPart, before_tag, before_key, before_stamp, before_op, before_body, before_line, Before, before_item}
use Rattle.docker_model.specs.state.StatePart.{in_entry}
use Rattle.docker_model.specs.state.StateFault as model
use Rattle.state_text.specs.declared.cause.StateCause.{StateCause}
use Rattle.state_text.specs.declared.cause.StateCause.TheVariants as cause

-- converts a cause from the code's type to the definitions' type. The result is `None` for `Memory`, which is never a fault of a text
abbrev pub cause_meant : StateCause → Option model.StateCause
cause_meant cause.Mark = Some bad_mark
cause_meant cause.Item = Some bad_item
cause_meant cause.Order = Some bad_order
cause_meant cause.Floor = Some bad_floor
cause_meant cause.Tag = Some bad_tag
cause_meant cause.Stamp = Some bad_stamp
cause_meant cause.Body = Some bad_body
cause_meant cause.Short = Some too_short
cause_meant cause.Tail = Some has_tail
cause_meant cause.Long = Some too_long
cause_meant cause.Memory = None
cause_meant cause.Horizon = Some bad_horizon

-- says that this part of an entry needs memory. Each line of a schedule does, and so does the last
-- part of an entry: its body or, if the op isn't a put (1), its op
abbrev pub PartTakesMemory : EntryPart → List ℕ → Type 0
PartTakesMemory before_tag bytes = ⊥
PartTakesMemory (before_key tag) bytes = ⊥
PartTakesMemory (before_stamp key) bytes = ⊥
PartTakesMemory (before_op key stamp) bytes = slice_index bytes 0 ≢ 1
PartTakesMemory (before_body (tiploc_key code) stamp) bytes = ⊤
PartTakesMemory (before_body (association_key key) stamp) bytes = ⊤
PartTakesMemory (before_body (schedule_key key) stamp) bytes = ⊥
PartTakesMemory (before_line key stamp count lines) bytes = ⊤

-- says that this part needs memory: a ledger item, or a part of an entry that needs memory
abbrev pub TakesMemory : Before → List ℕ → Type 0
TakesMemory (before_item horizon count ledger) bytes = ⊤
TakesMemory (in_entry count state part) bytes = PartTakesMemory part bytes
TakesMemory _ bytes = ⊥

-- says that reading this part needs memory and that no cause makes the part bad. Only then may the
-- reader report that memory ran out
pub record IsWantingHere (format : Format) (before : Before) (bytes : List ℕ) : Type 0 where
  pub takes : TakesMemory before bytes
  pub not_bad : (cause : model.StateCause) → ¬ IsBadPart format before bytes cause

-- says that the part is bad for this cause. `None` means that there was no memory for the part
abbrev pub IsBadHere : Format → Before → List ℕ → Option model.StateCause → Type 0
IsBadHere format before bytes None = IsWantingHere format before bytes
IsBadHere format before bytes (Some cause) = IsBadPart format before bytes cause
