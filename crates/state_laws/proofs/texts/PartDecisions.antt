-- It is decidable whether a part of a state's text is good.
use Rattle.cif_laws.proofs.Common.{◌≡◌, ℕ, ◌-◌, ◌^◌, List, [], ◌∷◌, subst, inl, inr, Contains, rules, slice_index, w32, from_be_bytes, association}
use Rattle.cif_laws.proofs.Common.{is_printable, column, IsTextOfLength, last_day, is_stp_letter, IsTiploc, Key, tiploc_key, association_key, schedule_key}
use Rattle.cif_laws.proofs.Common.{AssociationKey, ScheduleKey, schedule_body, IsBelow, FileStamp, Stamp, LedgerItem, file_stamp_cmp, ledger_item_cmp, key_cmp}
use Rattle.cif_laws.proofs.Common.{body_end, State, IsGoodItem, IsGoodKey, IsGoodScheduleKey, IsAssociationOf, IsStampIn, Format, dks_1, dks_2, IsOpByte, IsTag}
use Rattle.cif_laws.proofs.Common.{IsLineCount, IsAboveItems, IsAboveEntries, RaisesFloor, AreLinesUpTo, HaveNotToLapse}
use Rattle.docker_model.specs.file.Change.{association_named}
use Rattle.docker_model.specs.state.State.{IsGoodAssociationKey}
use Rattle.docker_model.specs.state.StateFault.{IsBodyPart}
use Rattle.cif_laws.proofs.orders.Orders.{file_stamp_total, exact_file_stamp, key_total, exact_key}
use Rattle.cif_laws.proofs.lists.Membership.{Contains-cons, cons-Contains, cons-Contains-first, nil-Contains}
use Rattle.cif_laws.proofs.lists.Decisions.{Decided, both_decided, either_decided, not_decided, decided_along, bool_decided}
use Rattle.cif_laws.proofs.lists.Decisions.{nat_decided, le_decided, lt_decided, All_decided, less_decided, same_decided}
use Rattle.cif_laws.proofs.schedules.ScheduleFronts.{record_decided, has_kind_decided, good_fields_decided, schedule_decided, begins_decided}

text_of_length_decided : (n : ℕ) (bytes : List ℕ) → Decided (IsTextOfLength n bytes)
text_of_length_decided n bytes = both_decided (nat_decided _ n) (All_decided _ (λ b. bool_decided (is_printable b)) _)

tiploc_decided : (code : List ℕ) → Decided (IsTiploc code)
tiploc_decided code = both_decided (text_of_length_decided 7 code) (not_decided (nat_decided (slice_index code 0) 32))

-- it is decidable whether an item is well formed
pub good_item_decided : (item : LedgerItem) → Decided (IsGoodItem item)
good_item_decided item =
    decided_along (λ h. record { day = h.0; minute = h.1.0; reference = h.1.1.0; indicator = h.1.1.1.0; last_reference = h.1.1.1.1 })
    (λ good. (good.day, (good.minute, (good.reference, (good.indicator, good.last_reference))))) (both_decided (le_decided _ _) (both_decided (lt_decided _ _)
    (both_decided (text_of_length_decided _ _) (both_decided (either_decided (nat_decided _ _) (nat_decided _ _)) (text_of_length_decided _ _)))))

-- it is decidable whether an item is above the items before it
pub above_items_decided : (ledger : List LedgerItem) (item : LedgerItem) → Decided (IsAboveItems ledger item)
above_items_decided ledger item = All_decided (λ earlier. IsBelow ledger_item_cmp earlier item) (λ earlier. less_decided (ledger_item_cmp earlier item)) ledger

-- it is decidable whether an item raises the floor
pub raises_floor_decided : (ledger : List LedgerItem) (item : LedgerItem) → Decided (RaisesFloor ledger item)
raises_floor_decided [] item = inr (λ h. h)
raises_floor_decided (first ∷ ledger) item = both_decided (nat_decided item.indicator 70) (less_decided (file_stamp_cmp first.stamp item.stamp))

-- it is decidable whether a number is a tag
pub tag_decided : (tag : ℕ) → Decided (IsTag tag)
tag_decided = search (rules, nat_decided)

association_key_decided : (key : AssociationKey) → Decided (IsGoodAssociationKey key)
association_key_decided key =
    decided_along (λ h. record { base = h.0; associated = h.1.0; start = h.1.1.0; location = h.1.1.1.0; suffix = h.1.1.1.1.0; indicator = h.1.1.1.1.1 })
    (λ good. (good.base, (good.associated, (good.start, (good.location, (good.suffix, good.indicator))))))
    (both_decided (text_of_length_decided 6 key.base) (both_decided (text_of_length_decided 6 key.associated) (both_decided (le_decided key.start last_day)
    (both_decided (tiploc_decided key.location) (both_decided (bool_decided (is_printable key.suffix)) (bool_decided (is_stp_letter key.indicator)))))))

schedule_key_decided : (key : ScheduleKey) → Decided (IsGoodScheduleKey key)
schedule_key_decided key =
    decided_along (λ h. record { uid = h.0; runs_from = h.1.0; indicator = h.1.1 }) (λ good. (good.uid, (good.runs_from, good.indicator)))
    (both_decided (text_of_length_decided 6 key.uid) (both_decided (le_decided key.runs_from last_day) (bool_decided (is_stp_letter key.indicator))))

-- it is decidable whether a key is well formed
pub good_key_decided : (key : Key) → Decided (IsGoodKey key)
good_key_decided = search (rules, tiploc_decided, association_key_decided, schedule_key_decided)

-- it is decidable whether a key is above the keys before it
pub above_entries_decided : (state : State) (key : Key) → Decided (IsAboveEntries state key)
above_entries_decided state key = All_decided (λ entry. IsBelow key_cmp entry.0 key) (λ entry. less_decided (key_cmp entry.0 key)) state.entries

contains_decided : (xs : List FileStamp) (x : FileStamp) → Decided (Contains xs x)
contains_decided [] x = inr (nil-Contains x)
contains_decided (y ∷ xs) x = by (same_decided file_stamp_total exact_file_stamp y x) (contains_decided xs x)
  where
    by : Decided (y ≡ x) → Decided (Contains xs x) → Decided (Contains (y ∷ xs) x)
    by (inl same) rest = inl (subst (λ z. Contains (y ∷ xs) z) same (cons-Contains-first y xs))
    by (inr apart) (inl inside) = inl (cons-Contains y xs x inside)
    by (inr apart) (inr out) = inr (λ among. elim (Contains-cons y xs x among) [ inl same ↦ apart same | inr inside ↦ out inside ])

-- it is decidable whether a stamp is the stamp of a change in a file of the ledger
pub stamp_in_decided : (ledger : List LedgerItem) (stamp : Stamp) → Decided (IsStampIn ledger stamp)
stamp_in_decided ledger stamp =
    decided_along (λ h. record { in_ledger = h.0; low = h.1.0; high = h.1.1 }) (λ is. (is.in_ledger, (is.low, is.high))) (both_decided (contains_decided _ _)
    (both_decided (le_decided _ _) (lt_decided _ _)))

-- it is decidable whether a byte may begin an op in the format
pub op_byte_decided : (format : Format) (byte : ℕ) → Decided (IsOpByte format byte)
op_byte_decided dks_1 byte = either_decided (nat_decided byte 0) (nat_decided byte 1)
op_byte_decided dks_2 byte = either_decided (nat_decided byte 0) (either_decided (nat_decided byte 1) (nat_decided byte 2))

same_key_decided : (first second : Key) → Decided (first ≡ second)
same_key_decided = same_decided key_total exact_key

association_decided : (key : AssociationKey) (line : List ℕ) → Decided (IsAssociationOf key line)
association_decided key line =
    decided_along (λ h. record { is_record = h.0; kind = h.1.0; fields = h.1.1.0; new = h.1.1.1.0; key_is = h.1.1.1.1 })
    (λ is. (is.is_record, (is.kind, (is.fields, (is.new, is.key_is)))))
    (both_decided (record_decided line) (both_decided (has_kind_decided association line) (both_decided (good_fields_decided line)
    (both_decided (nat_decided (column 3 line) 78) (same_key_decided (association_named line) (association_key key))))))

-- it is decidable whether a schedule may have this number of lines
pub line_count_decided : (count : ℕ) → Decided (IsLineCount count)
line_count_decided count = both_decided (lt_decided 0 count) (lt_decided count (2 ^ 32 - 1))

-- it is decidable whether the bytes are a good body for a key in a state
pub body_part_decided : (state : State) (key : Key) (bytes : List ℕ) → Decided (IsBodyPart state key bytes)
body_part_decided state (tiploc_key code) bytes = text_of_length_decided 63 bytes
body_part_decided state (association_key key) bytes = search (rules, both_decided, association_decided, le_decided)
body_part_decided state (schedule_key key) bytes = line_count_decided (from_be_bytes w32 bytes)

implied_decided : {P Q : Type 0} → Decided P → Decided Q → Decided (P → Q)
implied_decided = search rules

-- it is decidable whether these lines are the beginning of a schedule with this key
pub lines_decided : (key : ScheduleKey) (count : ℕ) (lines : List (List ℕ)) → Decided (AreLinesUpTo key count lines)
lines_decided key count lines =
    decided_along (λ h. record { lines_of = record { begin = h.0; new = h.1.0; key_is = h.1.1.0 }; complete = h.1.1.1 })
    (λ are. (are.lines_of.begin, (are.lines_of.new, (are.lines_of.key_is, are.complete)))) (both_decided (begins_decided _) (both_decided (nat_decided _ _)
    (both_decided (same_key_decided _ _) (implied_decided (nat_decided _ _) (schedule_decided _)))))

-- it is decidable whether these lines are the beginning of a schedule that has this key and doesn't
-- have to lapse
pub lines_here_decided : (state : State) (key : ScheduleKey) (count : ℕ) (lines : List (List ℕ))
    → Decided (AreLinesUpTo key count lines × HaveNotToLapse state lines)
lines_here_decided state key count lines = both_decided (lines_decided key count lines) (le_decided state.horizon (body_end (schedule_body lines)))
