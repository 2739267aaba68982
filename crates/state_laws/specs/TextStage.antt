-- The stage that a reader reaches after each part of a state's text.
use Rattle.std.specs.Prelude.{ℕ, List, length, nat_le, if◌then◌else◌, [], ◌∷◌, ◌++◌, slice_index}
use Rattle.std.proofs.Common.{zero, suc}
use Rattle.std.specs.Int.{w32, from_be_bytes, w16, w64}
use Rattle.docker_model.specs.file.Change.{Key, schedule_key, ScheduleKey, schedule_body, tiploc_key, association_key, tiploc_body, association_body}
use Rattle.docker_model.specs.state.Stamp.{LedgerItem, Stamp}
use Rattle.docker_model.specs.state.Op.{Op, put_with, deleted, lapsed}
use Rattle.docker_model.specs.state.State.{State}
use Rattle.docker_model.specs.state.StateText.{key_in, stamp_in, Format, dks_1, dks_2, item_in}
use Rattle.docker_model.specs.state.StatePart.{Before, before_item, before_entry_count, before_tag, in_entry, at_end, before_line, before_body}
use Rattle.docker_model.specs.state.StatePart.{EntryPart, before_key, before_stamp, before_op, before_horizon, before_ledger_count, before_mark}

-- the stage after these ledger items of a ledger with `count` items: before the next item, or
-- before the number of entries
abbrev pub after_items : (horizon : ℕ) → ℕ → List LedgerItem → Before
after_items horizon count ledger = if nat_le count (length ledger) then before_entry_count horizon ledger else before_item horizon count ledger

-- the stage after these entries of a state with `count` entries: before the next entry, or at the
-- end
abbrev pub after_entries : ℕ → State → Before
after_entries count state = if nat_le count (length state.entries) then at_end state else in_entry count state before_tag

-- the state with this entry appended to its entries
abbrev pub with_entry : State → Key → Stamp → Op → State
with_entry state key stamp op =
    record { horizon = state.horizon; ledger = state.ledger; entries = state.entries ++ (key, record { stamp = stamp; op = op }) ∷ [] }

-- the stage after these lines of a schedule with `n` lines: before the next line, or after the
-- entry
abbrev pub after_lines : ℕ → State → ScheduleKey → Stamp → ℕ → List (List ℕ) → Before
after_lines count state key stamp n lines =
    if nat_le n (length lines) then after_entries count (with_entry state (schedule_key key) stamp (put_with (schedule_body lines)))
    else in_entry count state (before_line key stamp n lines)

-- the stage after the first byte of an op. After the byte 1 a body follows. After the byte 0, for
-- deleted, and after the byte 2, for lapsed, the entry ends
abbrev pub after_op : ℕ → State → Key → Stamp → ℕ → Before
after_op count state key stamp zero = after_entries count (with_entry state key stamp deleted)
after_op count state key stamp (suc zero) = in_entry count state (before_body key stamp)
after_op count state key stamp (suc (suc op)) = after_entries count (with_entry state key stamp lapsed)

-- the stage after a body, or after a schedule's number of lines
abbrev pub after_body : ℕ → State → Key → Stamp → List ℕ → Before
after_body count state (tiploc_key code) stamp bytes = after_entries count (with_entry state (tiploc_key code) stamp (put_with (tiploc_body bytes)))
after_body count state (association_key key) stamp bytes =
    after_entries count (with_entry state (association_key key) stamp (put_with (association_body bytes)))
after_body count state (schedule_key key) stamp bytes = after_lines count state key stamp (from_be_bytes w32 bytes) []

-- the stage after the next part of an entry, if this part has these bytes
abbrev pub after_part : ℕ → State → EntryPart → List ℕ → Before
after_part count state before_tag bytes = in_entry count state (before_key (slice_index bytes 0))
after_part count state (before_key tag) bytes = in_entry count state (before_stamp (key_in tag bytes))
after_part count state (before_stamp key) bytes = in_entry count state (before_op key (stamp_in bytes))
after_part count state (before_op key stamp) bytes = after_op count state key stamp (slice_index bytes 0)
after_part count state (before_body key stamp) bytes = after_body count state key stamp bytes
after_part count state (before_line key stamp n lines) bytes = after_lines count state key stamp n (lines ++ bytes ∷ [])

-- the stage after the mark
abbrev pub after_mark : Format → Before
after_mark dks_1 = before_ledger_count 0
after_mark dks_2 = before_horizon

-- the stage after the next part of the text, if this part has these bytes
abbrev pub advance : (format : Format) → Before → List ℕ → Before
advance format before_mark bytes = after_mark format
advance format before_horizon bytes = before_ledger_count (from_be_bytes w16 bytes)
advance format (before_ledger_count horizon) bytes = after_items horizon (from_be_bytes w64 bytes) []
advance format (before_item horizon count ledger) bytes = after_items horizon count (ledger ++ item_in bytes ∷ [])
advance format (before_entry_count horizon ledger) bytes = after_entries (from_be_bytes w64 bytes) (record { horizon = horizon; ledger = ledger; entries = [] })
advance format (in_entry count state part) bytes = after_part count state part bytes
advance format (at_end state) bytes = at_end state
