-- A part of a state's text that has the right number of bytes either is bad for some cause or is
-- good.
use Rattle.cif_laws.proofs.Common.{◌≡◌, ℕ, ◌<◌, ◌≤◌, ◌^◌, List, ◌∷◌, ◌++◌, length, refl, ap, sym, ◌∙◌, rules, [], inl, inr, ◌⊎◌, arith, nat_le, append-nil}
use Rattle.cif_laws.proofs.Common.{length-append, w16, to_be_bytes, from_be_bytes, leb_tells, nat_list_cmp_total, exact_bytes, Key, tiploc_key, association_key}
use Rattle.cif_laws.proofs.Common.{schedule_key, ScheduleKey, Stamp, LedgerItem, Op, lapsed, HasNotToLapse, IsGoodItem, IsGoodKey, State, IsOpOf, item_in}
use Rattle.cif_laws.proofs.Common.{key_in, Format, dks_1, dks_2, entries_text, IsOpByte, TellsOp, IsToldState, EntryPart, before_tag, before_key, before_stamp}
use Rattle.cif_laws.proofs.Common.{before_op, before_body, before_line, key_width, IsTag, IsLineCount, IsAboveItems, RaisesFloor, AreLinesUpTo, Before}
use Rattle.cif_laws.proofs.Common.{before_mark, before_horizon, before_ledger_count, before_item, before_entry_count, in_entry, at_end, text_before, width}
use Rattle.cif_laws.proofs.Common.{HaveNotToLapse, IsAboveEntries, IsStampHere, IsPartHere, AreGood, StateCause, bad_mark, bad_body, IsBadPart}
use Rattle.std.proofs.lemmas.Nat.{be_bytes_2}
use Rattle.docker_model.specs.state.StateText.{mark}
use Rattle.docker_model.specs.state.StatePart.{part_width}
use Rattle.docker_model.specs.state.StatePart.{IsKeyHere}
use Rattle.docker_model.specs.state.StateFault.{bad_item, bad_order, bad_floor, bad_tag}
use Rattle.docker_model.specs.state.StateFault.{bad_stamp, IsBodyPart}
use Rattle.state_laws.specs.TextStage.{after_entries, with_entry, after_lines, advance}
use Rattle.state_laws.proofs.texts.TextsBefore.{after_entries_text, entry_done_text}
use Rattle.state_laws.proofs.texts.GoodPartLeads.{count_of_ledger, item_text, body_text, count_text, line_text, part_more}
use Rattle.cif_laws.proofs.lists.Decisions.{Decided, le_decided, same_decided}
use Rattle.state_laws.proofs.texts.StateBytes.{AreBytes, small_at, four_bytes, eight_bytes, eight_fit}
use Rattle.state_laws.proofs.texts.StateBytes.{item_written, stamp_written, key_written, tag_of_key, single}
use Rattle.state_laws.proofs.texts.PartDecisions.{good_item_decided, above_items_decided, raises_floor_decided, tag_decided, good_key_decided}
use Rattle.state_laws.proofs.texts.PartDecisions.{stamp_in_decided, above_entries_decided, op_byte_decided, body_part_decided, lines_here_decided}
use Rattle.state_laws.proofs.texts.LedgerGrown.{one_item_more, no_items}
use Rattle.state_laws.proofs.texts.StateGrown.{good_after_items, good_after_entries, tells_deleted, no_entries, one_entry_more}

-- the part is good: once a reader has read it, all parts read are good, and the text read ends with
-- this part
abbrev pub Good : (format : Format) → Before → List ℕ → Type 0
Good format before bytes =
    AreGood format (advance format before bytes) × (text_before format (advance format before bytes) ≡ text_before format before ++ bytes)

-- the part is bad for some cause, or it is good
abbrev pub Judged : (format : Format) → Before → List ℕ → Type 0
Judged format before bytes = ((cause : StateCause) × IsBadPart format before bytes cause) ⊎ Good format before bytes

same_bytes_decided : (first second : List ℕ) → Decided (first ≡ second)
same_bytes_decided = same_decided nat_list_cmp_total exact_bytes

judge_mark : (format : Format) (bytes : List ℕ) → Judged format before_mark bytes
judge_mark dks_1 bytes = elim (same_bytes_decided bytes (mark dks_1)) [ inl same ↦ inr (refl, sym same) | inr other ↦ inl (bad_mark, (refl, other)) ]
judge_mark dks_2 bytes = elim (same_bytes_decided bytes (mark dks_2)) [ inl same ↦ inr (tt, sym same) | inr other ↦ inl (bad_mark, (refl, other)) ]

two_bytes : (bytes : List ℕ) → length bytes ≡ 2 → AreBytes bytes → to_be_bytes w16 (from_be_bytes w16 bytes) ≡ bytes
two_bytes bytes size small = be_bytes_2 bytes _ size (small_at bytes small) refl

judge_horizon : (format : Format) (bytes : List ℕ) → AreGood format before_horizon → length bytes ≡ 2 → AreBytes bytes → Judged format before_horizon bytes
judge_horizon = search (rules, le_decided, append-nil, two_bytes)

judge_item : (format : Format) (horizon : ℕ) → (count : ℕ) (ledger : List LedgerItem) (bytes : List ℕ) → AreGood format (before_item horizon count ledger)
    → length bytes ≡ 19 → AreBytes bytes → Judged format (before_item horizon count ledger) bytes
judge_item format horizon count ledger bytes good size small = by (good_item_decided _) (above_items_decided _ _) (raises_floor_decided _ _)
  where
    by : Decided (IsGoodItem (item_in bytes)) → Decided (IsAboveItems ledger (item_in bytes)) → Decided (RaisesFloor ledger (item_in bytes))
        → Judged format (before_item horizon count ledger) bytes
    by (inr bad) above raises = inl (bad_item, bad)
    by (inl fine) (inr low) raises = inl (bad_order, (fine, low))
    by (inl fine) (inl above) (inl high) = inl (bad_floor, (fine, above, high))
    by (inl fine) (inl above) (inr not_high) =
        let longer = length-append ledger (item_in bytes ∷ []) in
        let below = good.2 in
        inr (
          good_after_items _ _ _ _ good.0 (one_item_more _ _ good.1 fine above not_high) (omega arith) good.3,
          item_text _ _ _ _ _ good.2 ∙ ap (λ xs. text_before format (before_item horizon count ledger) ++ xs) (item_written _ size small),
        )

judge_ledger_count : (format : Format) (horizon : ℕ) (bytes : List ℕ) → AreGood format (before_ledger_count horizon) → length bytes ≡ 8 → AreBytes bytes
    → Judged format (before_ledger_count horizon) bytes
judge_ledger_count = search (rules, good_after_items, no_items, eight_fit, count_of_ledger, eight_bytes)

judge_entry_count : (format : Format) (horizon : ℕ) → (ledger : List LedgerItem) (bytes : List ℕ) → AreGood format (before_entry_count horizon ledger)
    → length bytes ≡ 8 → AreBytes bytes → Judged format (before_entry_count horizon ledger) bytes
judge_entry_count = grind (arith, good_after_entries, no_entries, eight_fit, after_entries_text, append-nil, eight_bytes)

-- the state can be written in the format, and at least one entry follows the state's entries in the
-- text
abbrev pub StateHere : (format : Format) → ℕ → State → Type 0
StateHere format count state = IsToldState format state × (length state.ledger < 2 ^ 64) × (length state.entries < count) × (count < 2 ^ 64)

-- if all parts before an entry are good, and the entry is good, all parts up to the end of the
-- entry are good
pub entry_done : (format : Format) → (count : ℕ) (state : State) (key : Key) (stamp : Stamp) (op : Op) → StateHere format count state
    → IsStampHere state key stamp → IsOpOf key op → HasNotToLapse state.horizon op → TellsOp format op
    → AreGood format (after_entries count (with_entry state key stamp op))
entry_done = search (rules, length-append, good_after_entries, one_entry_more)

-- if all parts before the lines of a schedule are good, and these lines are good, all parts up to
-- the end of these lines are good
pub good_after_lines : (format : Format) → (count : ℕ) (state : State) (key : ScheduleKey) (stamp : Stamp) (n : ℕ) (lines : List (List ℕ))
    → StateHere format count state → IsStampHere state (schedule_key key) stamp
    → IsLineCount n → length lines ≤ n → (lines ≡ []) ⊎ (AreLinesUpTo key n lines × HaveNotToLapse state lines)
    → AreGood format (after_lines count state key stamp n lines)
good_after_lines = grind (arith, leb_tells, nat_le, entry_done)

judge_tag : (format : Format) → (count : ℕ) (state : State) (bytes : List ℕ) → StateHere format count state → length bytes ≡ 1
    → Judged format (in_entry count state before_tag) bytes
judge_tag format count state bytes told size = elim (tag_decided _) [
  | inl is ↦ inr (
    (told.0, told.1, told.2, told.3, is),
    search (rules, single),
  )
  | inr bad ↦ inl (bad_tag, (refl, bad))
]

judge_key : (format : Format) → (count : ℕ) (state : State) (tag : ℕ) (bytes : List ℕ) → StateHere format count state → IsTag tag → length bytes ≡ key_width tag
    → AreBytes bytes → Judged format (in_entry count state (before_key tag)) bytes
judge_key format count state tag bytes told is size small = by (good_key_decided (key_in tag bytes)) (above_entries_decided state (key_in tag bytes))
  where
    by : Decided (IsGoodKey (key_in tag bytes)) → Decided (IsAboveEntries state (key_in tag bytes))
        → Judged format (in_entry count state (before_key tag)) bytes
    by (inr bad) above = inl (bad_body, bad)
    by (inl fine) (inr low) = inl (bad_order, (fine, low))
    by (inl fine) (inl above) =
        inr (
          (told.0, told.1, told.2, told.3, (fine, above)),
          (λ i. entries_text format count state ++ (tag_of_key tag bytes is i ∷ key_written tag bytes is size small i))
              ∙ part_more format count state (tag ∷ []) bytes,
        )

judge_stamp : (format : Format) → (count : ℕ) (state : State) (key : Key) (bytes : List ℕ) → StateHere format count state → IsKeyHere state key
    → length bytes ≡ 15 → AreBytes bytes → Judged format (in_entry count state (before_stamp key)) bytes
judge_stamp format count state key bytes told here size small = elim (stamp_in_decided _ _) [
  | inl is ↦ inr (
    (told.0, told.1, told.2, told.3, (here, is)),
    search (rules, stamp_written, part_more),
  )
  | inr bad ↦ inl (bad_stamp, (refl, bad))
]

-- the first byte of an op is 0 or 1, or it is 2 and the format has lapsed ops
op_of_byte : (format : Format) (byte : ℕ) → IsOpByte format byte → (byte ≡ 0) ⊎ (byte ≡ 1) ⊎ ((byte ≡ 2) × TellsOp format lapsed)
op_of_byte = search rules

judge_op : (format : Format) → (count : ℕ) (state : State) (key : Key) (stamp : Stamp) (bytes : List ℕ) → StateHere format count state
    → IsStampHere state key stamp → length bytes ≡ 1 → Judged format (in_entry count state (before_op key stamp)) bytes
judge_op = grind (arith, op_byte_decided, single, op_of_byte, entry_done, tells_deleted, entry_done_text, part_more)

judge_body : (format : Format) → (count : ℕ) (state : State) (key : Key) (stamp : Stamp) (bytes : List ℕ) → StateHere format count state
    → IsStampHere state key stamp → length bytes ≡ width (in_entry count state (before_body key stamp)) → AreBytes bytes
    → Judged format (in_entry count state (before_body key stamp)) bytes
judge_body format count state key stamp bytes told here size small = by key here size (body_part_decided state _ bytes)
  where
    by : (key : Key) → IsStampHere state key stamp → length bytes ≡ width (in_entry count state (before_body key stamp)) → Decided (IsBodyPart state key bytes)
        → Judged format (in_entry count state (before_body key stamp)) bytes
    by key at wide (inr bad) = inl (bad_body, (refl, bad))
    by (tiploc_key code) at wide (inl fine) = search (rules, entry_done, body_text)
    by (association_key key) at wide (inl fine) = search (rules, entry_done, body_text)
    by (schedule_key key) at wide (inl fine) = search (rules, count_text, four_bytes)

judge_line : (format : Format) → (count : ℕ) (state : State) (key : ScheduleKey) (stamp : Stamp) (n : ℕ) (lines : List (List ℕ)) (bytes : List ℕ)
    → StateHere format count state → IsPartHere state (before_line key stamp n lines)
    → Judged format (in_entry count state (before_line key stamp n lines)) bytes
judge_line format count state key stamp n lines bytes told here = by (lines_here_decided state _ n _)
  where
    by : Decided (AreLinesUpTo key n (lines ++ bytes ∷ []) × HaveNotToLapse state (lines ++ bytes ∷ []))
        → Judged format (in_entry count state (before_line key stamp n lines)) bytes
    by (inl are) = search (rules, length-append, good_after_lines, line_text)
    by (inr bad) = inl (bad_body, (refl, bad))

judge_part : (format : Format) → (count : ℕ) (state : State) (part : EntryPart) (bytes : List ℕ) → StateHere format count state → IsPartHere state part
    → length bytes ≡ part_width part → AreBytes bytes → Judged format (in_entry count state part) bytes
judge_part format count state before_tag bytes told here size small = judge_tag format count state bytes told size
judge_part format count state (before_key tag) bytes told here size small = judge_key format count state tag bytes told here size small
judge_part format count state (before_stamp key) bytes told here size small = judge_stamp format count state key bytes told here size small
judge_part format count state (before_op key stamp) bytes told here size small = judge_op format count state key stamp bytes told here size
judge_part format count state (before_body key stamp) bytes told here size small = judge_body format count state key stamp bytes told here size small
judge_part format count state (before_line key stamp n lines) bytes told here size small = judge_line format count state key stamp n lines bytes told here

-- a part with the right number of bytes is bad for some cause, or is good
pub judge : (format : Format) → (before : Before) (bytes : List ℕ) → AreGood format before → 0 < width before → length bytes ≡ width before → AreBytes bytes
    → Judged format before bytes
judge format before_mark bytes good some size small = judge_mark format bytes
judge format before_horizon bytes good some size small = judge_horizon format bytes good size small
judge format (before_ledger_count horizon) bytes good some size small = judge_ledger_count format horizon bytes good size small
judge format (before_item horizon count ledger) bytes good some size small = judge_item format horizon count ledger bytes good size small
judge format (before_entry_count horizon ledger) bytes good some size small = judge_entry_count format horizon ledger bytes good size small
judge format (in_entry count state part) bytes good some size small = search (rules, judge_part)
judge format (at_end state) bytes good some size small = absurd (omega arith)
