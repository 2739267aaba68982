-- A good part of a state's text leads a reader to the next stage.
use Rattle.cif_laws.proofs.Common.{refl, arith, ◌≡◌, ℕ, ap, sym, subst, [], ◌++◌, ◌∙◌, append-nil, ◌<◌, rules, ◌^◌, List, ◌∷◌, length, append_assoc}
use Rattle.cif_laws.proofs.Common.{length-append, ◌≤◌, concat, w16, to_be_bytes, from_be_bytes, w64, w32, flat_map-append, IsTextOfLength, IsDay, Key}
use Rattle.cif_laws.proofs.Common.{tiploc_key, association_key, schedule_key, Body, tiploc_body, association_body, ScheduleKey, LedgerItem, Stamp, key_tag}
use Rattle.cif_laws.proofs.Common.{lapsed, deleted, put_with, body_end, IsGoodItem, State, IsGoodKey, IsLedger, IsStampIn, IsAssociationOf, dks_1, dks_2}
use Rattle.cif_laws.proofs.Common.{Format, item_bytes, entries_text, key_bytes, stamp_bytes, IsHorizonOf, IsOpByte, TellsOp, before_mark, before_ledger_count}
use Rattle.cif_laws.proofs.Common.{before_horizon, AreGood, text_before, before_item, IsAboveItems, RaisesFloor, before_entry_count, before_tag, before_key}
use Rattle.cif_laws.proofs.Common.{IsTag, in_entry, IsAboveEntries, key_width, before_stamp, before_op, key_text, before_body, IsLineCount, before_line}
use Rattle.cif_laws.proofs.Common.{AreLinesUpTo, HaveNotToLapse, StateCause}
use Rattle.std.proofs.lemmas.Nat.{from_be_bytes-to_be_bytes_8}
use Rattle.docker_model.specs.state.StateText.{mark}
use Rattle.docker_model.specs.state.StateText.{put_bytes}
use Rattle.docker_model.specs.state.StateFault.{IsBadItem, IsBadKey}
use Rattle.state_laws.specs.TextStage.{after_items, after_entries, with_entry, after_lines}
use Rattle.state_laws.proofs.texts.StateReadBack.{read_16, item_read, item_width, key_read, key_width_is, stamp_read, stamp_width}
use Rattle.state_laws.proofs.texts.TextStages.{Leads, one_step, then_leads}
use Rattle.state_laws.proofs.texts.TextsBefore.{after_items_text, entry_done_text, after_lines_text, read_32}

-- after the mark, in the format DKS1 the next part is the number of items; in the format DKS2 it is
-- the horizon
step_mark_1 : Leads dks_1 before_mark (before_ledger_count 0)
step_mark_1 = one_step dks_1 before_mark (before_ledger_count 0) (mark dks_1) refl (omega arith) (λ cause bad. bad.1 refl) refl refl

step_mark_2 : Leads dks_2 before_mark before_horizon
step_mark_2 = one_step dks_2 before_mark before_horizon (mark dks_2) refl (omega arith) (λ cause bad. bad.1 refl) refl refl

day_read : (horizon : ℕ) → IsDay horizon → from_be_bytes w16 (to_be_bytes w16 horizon) ≡ horizon
day_read horizon day = read_16 horizon (omega arith)

step_horizon : (horizon : ℕ) → IsDay horizon → Leads dks_2 before_horizon (before_ledger_count horizon)
step_horizon horizon day = one_step _ _ _ _ refl (omega arith)
    (λ cause bad. bad.1 (subst IsDay (sym (day_read _ day)) day)) (ap before_ledger_count (day_read _ day)) refl

-- in the format with a horizon, the next part after the mark is the horizon
pub horizon_leads : (format : Format) → AreGood format before_horizon → Leads format before_mark before_horizon
horizon_leads = search (rules, step_mark_2)

-- after the mark and, if the format has one, the horizon, a reader reaches the number of items
pub head_leads : (format : Format) (horizon : ℕ) → IsHorizonOf format horizon → Leads format before_mark (before_ledger_count horizon)
head_leads dks_1 horizon none = subst (λ h. Leads dks_1 before_mark (before_ledger_count h)) (sym none) step_mark_1
head_leads dks_2 horizon day = then_leads dks_2 before_mark before_horizon (before_ledger_count horizon) step_mark_2 (step_horizon horizon day)

-- the text up to and including the number of items ends with this number
pub count_of_ledger : (format : Format) (horizon count : ℕ) → text_before format (after_items horizon count []) ≡ text_before format
    (before_ledger_count horizon) ++ to_be_bytes w64 count
count_of_ledger = search (rules, after_items_text, append-nil)

-- after the number of items, a reader reaches the first item, or the number of entries if there are
-- no items
pub step_ledger_count : (format : Format) (horizon : ℕ) (count : ℕ) → count < 2 ^ 64 → Leads format (before_ledger_count horizon) (after_items horizon count [])
step_ledger_count format horizon count fits = one_step _ _ _ _ refl (omega arith) (λ cause bad. bad)
    (ap (λ n. after_items horizon n []) (from_be_bytes-to_be_bytes_8 _ fits)) (count_of_ledger _ _ _)

-- the text up to and including an item ends with the bytes of the item
pub item_text : (format : Format) (horizon : ℕ) → (count : ℕ) (ledger : List LedgerItem) (item : LedgerItem) → length ledger < count
    → text_before format (after_items horizon count (ledger ++ item ∷ [])) ≡ text_before format (before_item horizon count ledger) ++ item_bytes item
item_text = search (rules, length-append, after_items_text, flat_map-append, append-nil, append_assoc)

-- an item isn't bad if it is well formed, is above the items before it, and doesn't raise the floor
pub no_bad_item : (ledger : List LedgerItem) (item : LedgerItem) (cause : StateCause) → IsGoodItem item → IsAboveItems ledger item → ¬ RaisesFloor ledger item
    → ¬ IsBadItem ledger item cause
no_bad_item = search rules

-- after an item that isn't bad, a reader reaches the next part
pub step_item : (format : Format) (horizon : ℕ) → (count : ℕ) (ledger : List LedgerItem) (item : LedgerItem) → length ledger < count → IsGoodItem item
    → IsAboveItems ledger item → ¬ RaisesFloor ledger item
    → Leads format (before_item horizon count ledger) (after_items horizon count (ledger ++ item ∷ []))
step_item format horizon count ledger item below good above floor = one_step _ _ _ _ (item_width _ good) (omega arith)
    (λ cause bad. no_bad_item _ _ _ good above floor (subst (λ it. IsBadItem ledger it cause) (item_read _ good) bad))
    (ap (λ it. after_items horizon count (ledger ++ it ∷ [])) (item_read _ good)) (item_text _ _ _ _ _ below)

-- after the number of entries, a reader reaches the first entry, or the end of the text if there
-- are no entries
pub step_entry_count : (format : Format) (horizon : ℕ) → (count : ℕ) (ledger : List LedgerItem) → count < 2 ^ 64
    → Leads format (before_entry_count horizon ledger) (after_entries count (record { horizon = horizon; ledger = ledger; entries = [] }))
step_entry_count format horizon count ledger fits =
    one_step format (before_entry_count horizon ledger) (after_entries count (record { horizon = horizon; ledger = ledger; entries = [] }))
    (to_be_bytes w64 count) refl (omega arith) (λ cause bad. bad)
    (ap (λ n. after_entries n (record { horizon = horizon; ledger = ledger; entries = [] })) (from_be_bytes-to_be_bytes_8 _ fits)) (search rules)

-- the text up to and including one more part of an entry is the text before this part, followed by
-- the part
pub part_more : (format : Format) → (count : ℕ) (state : State) (old part : List ℕ) → entries_text format count state ++ (old ++ part) ≡
    (entries_text format count state ++ old) ++ part
part_more format count state old part = sym (append_assoc (entries_text format count state) old part)

-- after a tag, a reader reaches the key
pub step_tag : (format : Format) → (count : ℕ) (state : State) (tag : ℕ) → IsTag tag → Leads format (in_entry count state before_tag)
    (in_entry count state (before_key tag))
step_tag format count state tag is = one_step _ _ _ _ refl (omega arith) (λ cause bad. bad.1 is) refl (part_more _ _ _ _ _)

-- a key isn't bad if it is well formed and above the keys before it
pub no_bad_key : (state : State) (key : Key) (cause : StateCause) → IsGoodKey key → IsAboveEntries state key → ¬ IsBadKey state key cause
no_bad_key = search rules

-- a key has at least one byte
pub key_some : (key : Key) → 0 < key_width (key_tag key)
key_some = search rules

-- after a key that isn't bad, a reader reaches the stamp
pub step_key : (format : Format) → (count : ℕ) (state : State) (key : Key) → IsGoodKey key → IsAboveEntries state key
    → Leads format (in_entry count state (before_key (key_tag key))) (in_entry count state (before_stamp key))
step_key format count state key good above =
    one_step format (in_entry count state (before_key (key_tag key))) (in_entry count state (before_stamp key)) (key_bytes key) (key_width_is key good)
    (key_some key)
    (λ cause bad. no_bad_key state key cause good above (subst (λ k. IsBadKey state k cause) (key_read key good) bad))
    (ap (λ k. in_entry count state (before_stamp k)) (key_read key good))
    (part_more format count state (key_tag key ∷ []) (key_bytes key))

-- after a stamp whose file is in the ledger, a reader reaches the op
pub step_stamp : (format : Format) → (count : ℕ) (state : State) (key : Key) (stamp : Stamp) → IsLedger state.ledger → IsStampIn state.ledger stamp
    → Leads format (in_entry count state (before_stamp key)) (in_entry count state (before_op key stamp))
step_stamp format count state key stamp ledger is = one_step _ _ _ _ (stamp_width _ _ ledger is) (omega arith)
    (λ cause bad. bad.1 (subst (IsStampIn state.ledger) (sym (stamp_read _ _ ledger is)) is))
    (ap (λ s. in_entry count state (before_op key s)) (stamp_read _ _ ledger is)) (part_more _ _ _ _ _)

-- an op may begin with the byte 0 or 1 in each format, and with the byte 2 in the format that has
-- lapsed ops
zero_told : (format : Format) → IsOpByte format 0
zero_told = search rules

one_told : (format : Format) → IsOpByte format 1
one_told = search rules

two_told : (format : Format) → TellsOp format lapsed → IsOpByte format 2
two_told = search rules

-- after a deletion, a reader reaches the part after the deletion's entry
pub step_deleted : (format : Format) → (count : ℕ) (state : State) (key : Key) (stamp : Stamp) → length state.entries < count
    → Leads format (in_entry count state (before_op key stamp)) (after_entries count (with_entry state key stamp deleted))
step_deleted format count state key stamp below = one_step _ _ _ _ refl (omega arith) (λ cause bad. bad.1 (zero_told _)) refl
    (entry_done_text _ _ _ _ _ _ below ∙ part_more _ _ _ _ _)

-- in a format that has lapsed ops, a reader gets from a lapsed op to the part after the op's entry
pub step_lapsed : (format : Format) → (count : ℕ) (state : State) (key : Key) (stamp : Stamp) → TellsOp format lapsed → length state.entries < count
    → Leads format (in_entry count state (before_op key stamp)) (after_entries count (with_entry state key stamp lapsed))
step_lapsed format count state key stamp told below = one_step _ _ _ _ refl (omega arith) (λ cause bad. bad.1 (two_told _ told)) refl
    (entry_done_text _ _ _ _ _ _ below ∙ part_more _ _ _ _ _)

-- after the op of a put, a reader reaches the body
pub step_put : (format : Format) → (count : ℕ) (state : State) (key : Key) (stamp : Stamp) → Leads format (in_entry count state (before_op key stamp))
    (in_entry count state (before_body key stamp))
step_put format count state key stamp = one_step _ _ _ _ refl (omega arith) (λ cause bad. bad.1 (one_told _)) refl (part_more _ _ _ _ _)

-- the text up to and including an entry that puts a body ends with the bytes of this body
pub body_text : (format : Format) → (count : ℕ) (state : State) (key : Key) (stamp : Stamp) (body : Body) → length state.entries < count
    → text_before format (after_entries count (with_entry state key stamp (put_with body))) ≡
    (entries_text format count state ++ (key_text key ++ stamp_bytes stamp ++ 1 ∷ [])) ++ put_bytes body
body_text = search (rules, entry_done_text, append_assoc, part_more)

-- after the body of a TIPLOC, a reader reaches the part after the TIPLOC's entry
pub step_tiploc : (format : Format) → (count : ℕ) (state : State) (code : List ℕ) (stamp : Stamp) (bytes : List ℕ) → length state.entries < count
    → IsTextOfLength 63 bytes
    → Leads format (in_entry count state (before_body (tiploc_key code) stamp))
    (after_entries count (with_entry state (tiploc_key code) stamp (put_with (tiploc_body bytes))))
step_tiploc = search (rules, one_step, body_text)

-- after the body of an association that doesn't have to lapse, a reader reaches the part after the
-- association's entry
pub step_association : (format : Format) → (count : ℕ) (state : State) (key : _) (stamp : Stamp) (line : List ℕ) → length state.entries < count
    → IsAssociationOf key line → state.horizon ≤ body_end (association_body line)
    → Leads format (in_entry count state (before_body (association_key key) stamp))
    (after_entries count (with_entry state (association_key key) stamp (put_with (association_body line))))
step_association = search (rules, one_step, body_text)

-- the text up to and including a schedule's number of lines ends with this number
pub count_text : (format : Format) → (count : ℕ) (state : State) (key : ScheduleKey) (stamp : Stamp) (n : ℕ) → length state.entries < count
    → text_before format (after_lines count state key stamp n []) ≡ text_before format
    (in_entry count state (before_body (schedule_key key) stamp)) ++ to_be_bytes w32 n
count_text = search (rules, after_lines_text, append-nil, append_assoc, part_more)

-- after the number of a schedule's lines, a reader reaches the first line
pub step_count : (format : Format) → (count : ℕ) (state : State) (key : ScheduleKey) (stamp : Stamp) (n : ℕ) → length state.entries < count → IsLineCount n
    → Leads format (in_entry count state (before_body (schedule_key key) stamp)) (after_lines count state key stamp n [])
step_count format count state key stamp n below is =
    let high = is.1 in
    let read = read_32 _ (omega arith) in
    one_step _ _ _ _ refl (omega arith) (λ cause bad. bad.1 (subst IsLineCount (sym read) is)) (ap (λ m. after_lines count state key stamp m []) read)
    (count_text _ _ _ _ _ _ below)

concat-append : (xs ys : List (List ℕ)) → concat (xs ++ ys) ≡ concat xs ++ concat ys
concat-append [] ys = refl
concat-append (x ∷ xs) ys = ap (λ zs. x ++ zs) (concat-append xs ys) ∙ sym (append_assoc x (concat xs) (concat ys))

-- the text up to and including a line of a schedule ends with this line
pub line_text : (format : Format) → (count : ℕ) (state : State) (key : ScheduleKey) (stamp : Stamp) (n : ℕ) (lines : List (List ℕ)) (line : List ℕ)
    → length state.entries < count → length lines < n
    → text_before format (after_lines count state key stamp n (lines ++ line ∷ [])) ≡ text_before format
    (in_entry count state (before_line key stamp n lines)) ++ line
line_text = search (rules, length-append, after_lines_text, concat-append, append-nil, append_assoc, part_more)

-- after a good line of a schedule, a reader reaches the next part
pub step_line : (format : Format) → (count : ℕ) (state : State) (key : ScheduleKey) (stamp : Stamp) (n : ℕ) (lines : List (List ℕ)) (line : List ℕ)
    → length state.entries < count → length lines < n
    → length line ≡ 80 → AreLinesUpTo key n (lines ++ line ∷ []) → HaveNotToLapse state (lines ++ line ∷ [])
    → Leads format (in_entry count state (before_line key stamp n lines)) (after_lines count state key stamp n (lines ++ line ∷ []))
step_line = search (rules, one_step, line_text)
