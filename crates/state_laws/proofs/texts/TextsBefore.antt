-- Lemmas on the stage after the first items, entries or lines, and on the text that has been read
-- at this stage.
use Rattle.cif_laws.proofs.Common.{◌≡◌, ℕ, ◌<◌, ◌≤◌, ◌^◌, List, ◌++◌, length, rules, append_assoc, append-nil, length-append, nat_le, cond, w32, to_be_bytes}
use Rattle.cif_laws.proofs.Common.{from_be_bytes, lt-leb, le-leb, leb_tells, flat_map-append, Key, schedule_key, ScheduleKey, schedule_body, Stamp, LedgerItem}
use Rattle.cif_laws.proofs.Common.{Op, put_with, State, stamp_bytes, Format, entries_text, before_tag, before_line, key_text, before_item, before_entry_count}
use Rattle.cif_laws.proofs.Common.{in_entry, at_end, text_before}
use Rattle.std.proofs.lemmas.Nat.{from_be_bytes-to_be_bytes_4}
use Rattle.docker_model.specs.state.StateText.{op_bytes, ledger_text}
use Rattle.docker_model.specs.state.StatePart.{part_text}
use Rattle.state_laws.specs.TextStage.{after_items, after_entries, with_entry, after_lines}

-- a number below 2^32 can be decoded from its four bytes
pub read_32 : (n : ℕ) → n < 2 ^ 32 → from_be_bytes w32 (to_be_bytes w32 n) ≡ n
read_32 = from_be_bytes-to_be_bytes_4

-- if fewer than `count` items have been read, the next part is another item
pub more_items : (horizon : ℕ) → (count : ℕ) (ledger : List LedgerItem) → length ledger < count
    → after_items horizon count ledger ≡ before_item horizon count ledger
more_items horizon count ledger below = λ i. cond (lt-leb count (length ledger) below i) (before_entry_count horizon ledger) (before_item horizon count ledger)

-- after all items the next part is the number of entries
pub all_items : (horizon : ℕ) → (ledger : List LedgerItem) → after_items horizon (length ledger) ledger ≡ before_entry_count horizon ledger
all_items = search (rules, le-leb)

-- if fewer than `count` entries have been read, the next part belongs to another entry
pub more_entries : (count : ℕ) (state : State) → length state.entries < count → after_entries count state ≡ in_entry count state before_tag
more_entries count state below = λ i. cond (lt-leb count (length state.entries) below i) (at_end state) (in_entry count state before_tag)

-- after all entries a reader is at the end of the text
pub all_entries : (state : State) → after_entries (length state.entries) state ≡ at_end state
all_entries = search (rules, le-leb)

-- if fewer than `n` lines of a schedule with `n` lines have been read, the next part is another
-- line
pub more_lines : (count : ℕ) (state : State) (key : ScheduleKey) (stamp : Stamp) (n : ℕ) (lines : List (List ℕ)) → length lines < n
    → after_lines count state key stamp n lines ≡ in_entry count state (before_line key stamp n lines)
more_lines = search (rules, lt-leb)

-- after all lines of a schedule its entry is complete
pub all_lines : (count : ℕ) (state : State) (key : ScheduleKey) (stamp : Stamp) (lines : List (List ℕ))
    → after_lines count state key stamp (length lines) lines ≡ after_entries count (with_entry state (schedule_key key) stamp (put_with (schedule_body lines)))
all_lines = search (rules, le-leb)

-- the text up to and including the first items of a ledger is `ledger_text` of these items
pub after_items_text : (format : Format) (horizon : ℕ) → (count : ℕ) (ledger : List LedgerItem) → length ledger ≤ count
    → text_before format (after_items horizon count ledger) ≡ ledger_text format horizon count ledger
after_items_text = search (rules, leb_tells, nat_le, append-nil)

-- the text up to and including the first entries of a state is `entries_text` of these entries
pub after_entries_text : (format : Format) → (count : ℕ) (state : State) → length state.entries ≤ count
    → text_before format (after_entries count state) ≡ entries_text format count state
after_entries_text = search (rules, leb_tells, nat_le, append-nil)

-- the text up to and including an entry ends with the bytes of the entry
pub entry_done_text : (format : Format) → (count : ℕ) (state : State) (key : Key) (stamp : Stamp) (op : Op) → length state.entries < count
    → text_before format (after_entries count (with_entry state key stamp op)) ≡ entries_text format count state ++
    (key_text key ++ stamp_bytes stamp ++ op_bytes op)
entry_done_text = search (rules, length-append, after_entries_text, flat_map-append, append-nil, append_assoc)

-- the text up to and including the first lines of a schedule ends with these lines
pub after_lines_text : (format : Format) → (count : ℕ) (state : State) (key : ScheduleKey) (stamp : Stamp) (n : ℕ) (lines : List (List ℕ))
    → length state.entries < count → length lines ≤ n
    → text_before format (after_lines count state key stamp n lines) ≡ entries_text format count state ++ part_text (before_line key stamp n lines)
after_lines_text = search (rules, leb_tells, nat_le, entry_done_text, append_assoc)
