-- If all parts before a stage of a state's text are good, a reader gets to this stage part by part.
use Rattle.cif_laws.proofs.Common.{List, ◌∷◌, ◌++◌, ◌≡◌, [], refl, ap, sym, ◌∙◌, subst, Contains, Some, None, ℕ, ◌<◌, rules, ◌≤◌, length, arith, append_assoc}
use Rattle.cif_laws.proofs.Common.{append-nil, length-append, inl, inr, ◌^◌, Option, AllByRecursion, on, Ordering, Less, Equal, Greater, recursion_from_All}
use Rattle.cif_laws.proofs.Common.{All-from_recursion, Contains-append_right, columns, IsRecord, IsSchedule, BeginsSchedule, first_record, schedule_key}
use Rattle.cif_laws.proofs.Common.{ScheduleKey, Key, tiploc_key, association_key, Body, tiploc_body, association_body, schedule_body, IsBelow, LedgerItem}
use Rattle.cif_laws.proofs.Common.{ledger_item_cmp, FileStamp, file_stamp_cmp, IsFloor, IsKept, Stamp, readable_end, key_tag, put_with, body_end, Entry, Op}
use Rattle.cif_laws.proofs.Common.{deleted, lapsed, key_cmp, HasNotToLapse, IsGoodItem, IsLedger, State, IsScheduleOf, IsBodyOf, IsGoodEntry, AreAscending}
use Rattle.cif_laws.proofs.Common.{Format, TellsOp, IsHorizonOf, IsToldState, IsAboveItems, RaisesFloor, AreLinesUpTo, HaveNotToLapse, IsTag, before_key}
use Rattle.cif_laws.proofs.Common.{in_entry, before_stamp, before_op, IsStampHere, before_body, IsAboveEntries, before_mark, before_entry_count, EntryPart}
use Rattle.cif_laws.proofs.Common.{before_tag, before_line, IsPartHere, Before, before_horizon, before_ledger_count, before_item, at_end, AreGood}
use Rattle.docker_model.specs.state.StatePart.{IsKeyHere}
use Rattle.state_laws.specs.TextStage.{after_items, after_lines, after_entries, with_entry}
use Rattle.cif_laws.proofs.orders.Orders.{file_stamp_total}
use Rattle.cif_laws.proofs.lists.Membership.{cons-Contains-first}
use Rattle.state_laws.proofs.texts.TextStages.{Leads, no_step, then_leads}
use Rattle.state_laws.proofs.texts.TextsBefore.{more_items, more_lines, more_entries, all_lines, all_items, all_entries}
use Rattle.state_laws.proofs.texts.GoodPartLeads.{step_item, step_line, step_tag, step_key, step_stamp, step_put, step_tiploc, step_association}
use Rattle.state_laws.proofs.texts.GoodPartLeads.{step_count, step_deleted, step_lapsed, head_leads, step_ledger_count, step_entry_count, horizon_leads}
use Rattle.cif_laws.proofs.lists.AllOf.{all_behind, all_front}
use Rattle.cif_laws.proofs.orders.Ascending.{below_next}

-- each item of a ledger is well formed
pub item_good : (before : List LedgerItem) (item : LedgerItem) (later : List LedgerItem) → IsLedger (before ++ item ∷ later) → IsGoodItem item
item_good before item later is = (all_behind IsGoodItem before (item ∷ later) (recursion_from_All IsGoodItem (before ++ item ∷ later) is.each)).0

-- each item of a ledger is above the items before it
pub item_above : (before : List LedgerItem) (item : LedgerItem) (later : List LedgerItem) → IsLedger (before ++ item ∷ later) → IsAboveItems before item
item_above before item later is = All-from_recursion (λ earlier. IsBelow ledger_item_cmp earlier item) before (below_next _ _ _ _ is.ascending)

-- no item of a ledger raises the floor of the items before it
pub item_floor : (before : List LedgerItem) (item : LedgerItem) (later : List LedgerItem) → IsLedger (before ++ item ∷ later) → ¬ RaisesFloor before item
item_floor [] item later is raises = raises
item_floor (first ∷ before) item later is raises =
    by is.floor is.is_floor (recursion_from_All (λ it. IsKept is.floor it.stamp) (first ∷ before ++ item ∷ later) is.kept).0
  where
    among : Contains ((first ∷ before) ++ item ∷ later) item
    among = Contains-append_right (first ∷ before) (item ∷ later) item (cons-Contains-first _ _)

    not_above : (stamp : FileStamp) (o : Ordering) → file_stamp_cmp stamp first.stamp ≡ o → ¬ (o ≡ Greater) → ¬ (file_stamp_cmp item.stamp stamp ≡ Greater) → ⊥
    not_above stamp Less told low high = search (rules, file_stamp_total)
    not_above stamp Equal told low high = search (rules, file_stamp_total)
    not_above stamp Greater told low high = low refl

    by : (floor : Option FileStamp) → IsFloor ((first ∷ before) ++ item ∷ later) floor → IsKept floor first.stamp → ⊥
    by None none kept = none item among raises.0
    by (Some stamp) greatest kept = not_above stamp (file_stamp_cmp stamp first.stamp) refl kept (greatest.greatest item among raises.0)

-- after the first items of a ledger, a reader gets to the end of all items of the ledger
pub items_lead : (format : Format) (horizon : ℕ) → (count : ℕ) (before later : List LedgerItem) → IsLedger (before ++ later) → length (before ++ later) ≤ count
    → Leads format (after_items horizon count before) (after_items horizon count (before ++ later))
items_lead format horizon count before [] is within = no_step format _ _ (ap (after_items horizon count) (sym (append-nil before)))
items_lead format horizon count before (item ∷ later) is within =
    let size = length-append before (item ∷ later) in
    let below : length before < count = omega arith in
    let grouped = append_assoc before (item ∷ []) later in
    let rest = items_lead _ horizon _ (before ++ item ∷ []) _ (subst IsLedger (sym grouped) is) (subst (λ xs. length xs ≤ count) (sym grouped) within) in
    then_leads format _ _ _ (no_step _ _ _ (more_items horizon _ before below))
    (then_leads _ _ _ _ (step_item format _ count _ item below (item_good _ item _ is) (item_above before _ later is) (item_floor _ item _ is))
    (then_leads format _ _ _ rest (no_step _ _ _ (ap (after_items horizon count) grouped))))

-- if lines are the beginning of a schedule, so is each prefix of these lines
pub begins_front : (front rest : List (List ℕ)) → BeginsSchedule (front ++ rest) → BeginsSchedule front
begins_front front rest begins = (rest ++ begins.0, subst IsSchedule (append_assoc front rest begins.0) begins.1)

first_of_front : (front rest : List (List ℕ)) → 0 < length front → first_record (front ++ rest) ≡ first_record front
first_of_front = search rules

lines_front : (key : ScheduleKey) (n : ℕ) (front rest : List (List ℕ)) → 0 < length front → AreLinesUpTo key n (front ++ rest) → length (front ++ rest) ≤ n
    → AreLinesUpTo key n front
lines_front key n front rest some are within =
    let same = first_of_front front rest some in
    record {
      lines_of = search (rules, begins_front);
      complete = λ whole. by rest within whole are.complete;
    }
  where
    by : (more : List (List ℕ)) → length (front ++ more) ≤ n → length front ≡ n → (length (front ++ more) ≡ n → IsSchedule (front ++ more)) → IsSchedule front
    by [] low whole done = subst IsSchedule (append-nil front) (done (ap length (append-nil front) ∙ whole))
    by (line ∷ more) low whole done = let size = length-append front (line ∷ more) in absurd (omega arith)

-- if the lines of a schedule don't have to lapse, a non-empty prefix of these lines doesn't have to
-- lapse either
front_stays : (state : State) (front rest : List (List ℕ)) → 0 < length front → HaveNotToLapse state (front ++ rest) → HaveNotToLapse state front
front_stays state front rest some stays = subst (λ line. state.horizon ≤ readable_end (columns 16 21 line)) (first_of_front front rest some) stays

line_size : (lines : List (List ℕ)) (line : List ℕ) (more : List (List ℕ)) → BeginsSchedule (lines ++ line ∷ more) → length line ≡ 80
line_size lines line more begins =
    let all = recursion_from_All IsRecord ((lines ++ line ∷ more) ++ begins.0) begins.1.records in
    (all_behind IsRecord lines (line ∷ more) (all_front IsRecord (lines ++ line ∷ more) begins.0 all)).0.0

-- after the first lines of a schedule, a reader gets to the end of all lines of the schedule
pub lines_lead : (format : Format) → (count : ℕ) (state : State) (key : ScheduleKey) (stamp : Stamp) (n : ℕ) (lines more : List (List ℕ))
    → length state.entries < count
    → AreLinesUpTo key n (lines ++ more) → HaveNotToLapse state (lines ++ more) → length (lines ++ more) ≤ n
    → Leads format (after_lines count state key stamp n lines) (after_lines count state key stamp n (lines ++ more))
lines_lead format count state key stamp n lines [] below are stays within = search (rules, no_step, append-nil)
lines_lead format count state key stamp n lines (line ∷ more) below are stays within =
    let size = length-append lines (line ∷ more) in
    let one = length-append lines (line ∷ []) in
    let to_come : length lines < n = omega arith in
    let grouped = append_assoc lines (line ∷ []) more in
    let are_grouped = subst (AreLinesUpTo key n) (sym grouped) are in
    let stays_grouped = subst (HaveNotToLapse state) (sym grouped) stays in
    let within_grouped = subst (λ xs. length xs ≤ n) (sym grouped) within in
    let rest = lines_lead format count state key stamp n (lines ++ line ∷ []) more below are_grouped stays_grouped within_grouped in
    then_leads format _ _ _ (no_step format _ _ (more_lines count state key stamp n lines to_come))
    (then_leads format _ _ _ (step_line format count state key stamp n lines line below to_come (line_size lines line more are.lines_of.begin)
    (lines_front key n (lines ++ line ∷ []) more (omega arith) are_grouped within_grouped)
    (front_stays state (lines ++ line ∷ []) more (omega arith) stays_grouped))
    (then_leads format _ _ _ rest (no_step format _ _ (ap (after_lines count state key stamp n) grouped))))

is_tag : (key : Key) → IsTag (key_tag key)
is_tag = search rules

-- from the beginning of an entry, a reader gets to each part of the entry, and then to the end of
-- the entry
tag_leads : (format : Format) → (count : ℕ) (state : State) (tag : ℕ) → length state.entries < count → IsTag tag → Leads format (after_entries count state)
    (in_entry count state (before_key tag))
tag_leads format count state tag below is = then_leads format _ _ _ (no_step format _ _ (more_entries count state below)) (step_tag format count state tag is)

key_leads : (format : Format) → (count : ℕ) (state : State) (key : Key) → length state.entries < count → IsKeyHere state key
    → Leads format (after_entries count state) (in_entry count state (before_stamp key))
key_leads format count state key below here = then_leads _ _ _ _ (tag_leads _ _ _ _ below (is_tag _)) (step_key _ _ _ _ here.0 here.1)

stamp_leads : (format : Format) → (count : ℕ) (state : State) (key : Key) (stamp : Stamp) → length state.entries < count → IsLedger state.ledger
    → IsStampHere state key stamp
    → Leads format (after_entries count state) (in_entry count state (before_op key stamp))
stamp_leads format count state key stamp below ledger here = then_leads _ _ _ _ (key_leads _ _ _ _ below here.0) (step_stamp _ _ _ _ _ ledger here.1)

put_leads : (format : Format) → (count : ℕ) (state : State) (key : Key) (stamp : Stamp) → length state.entries < count → IsLedger state.ledger
    → IsStampHere state key stamp
    → Leads format (after_entries count state) (in_entry count state (before_body key stamp))
put_leads format count state key stamp below ledger here = then_leads _ _ _ _ (stamp_leads _ _ _ _ _ below ledger here) (step_put _ _ _ _ _)

some_lines : (lines : List (List ℕ)) → IsSchedule lines → 0 < length lines
some_lines lines is = let size = ap length is.whole in omega arith

whole_lines : (key : ScheduleKey) (lines : List (List ℕ)) → IsScheduleOf key lines → AreLinesUpTo key (length lines) lines
whole_lines key lines is = record {
  lines_of = record { begin = ([], subst IsSchedule (sym (append-nil lines)) is.schedule); new = is.new; key_is = is.key_is };
  complete = λ whole. is.schedule;
}

body_leads : (format : Format) → (count : ℕ) (state : State) (key : Key) (stamp : Stamp) (body : Body) → length state.entries < count → IsBodyOf key body
    → state.horizon ≤ body_end body
    → Leads format (in_entry count state (before_body key stamp)) (after_entries count (with_entry state key stamp (put_with body)))
body_leads format count state (tiploc_key code) stamp (tiploc_body bytes) below is stays = step_tiploc format count state code stamp bytes below is
body_leads format count state (association_key key) stamp (association_body line) below is stays = search (rules, step_association)
body_leads format count state (schedule_key key) stamp (schedule_body lines) below is stays =
    then_leads format _ _ _ (step_count format count state key stamp (length lines) below (some_lines lines is.schedule, is.few))
    (then_leads format _ _ _ (lines_lead format count state key stamp (length lines) [] lines below (whole_lines key lines is) stays (omega arith))
    (no_step format _ _ (all_lines count state key stamp lines)))
body_leads format count state _ stamp _ below is stays = absurd is

-- a state with this horizon and this ledger may have the entry, and the entry can be written in the
-- format
abbrev pub IsToldEntry : Format → ℕ → List LedgerItem → Key × Entry → Type 0
IsToldEntry format horizon ledger entry = IsGoodEntry ledger entry × HasNotToLapse horizon entry.1.op × TellsOp format entry.1.op

entry_leads : (format : Format) → (count : ℕ) (state : State) (key : Key) (stamp : Stamp) (op : Op) → length state.entries < count → IsLedger state.ledger
    → IsToldEntry format state.horizon state.ledger (key, record { stamp = stamp; op = op }) → IsAboveEntries state key
    → Leads format (after_entries count state) (after_entries count (with_entry state key stamp op))
entry_leads format count state key stamp deleted below ledger told above =
    then_leads _ _ _ _ (stamp_leads _ _ _ _ _ below ledger ((told.0.key, above), told.0.stamp)) (step_deleted _ _ _ _ _ below)
entry_leads format count state key stamp lapsed below ledger told above =
    then_leads _ _ _ _ (stamp_leads _ _ _ _ _ below ledger ((told.0.key, above), told.0.stamp)) (step_lapsed _ _ _ _ _ told.2 below)
entry_leads format count state key stamp (put_with body) below ledger told above =
    then_leads _ _ _ _ (put_leads _ _ _ _ _ below ledger ((told.0.key, above), told.0.stamp)) (body_leads _ _ _ _ _ _ below told.0.op told.1)

-- the state that has this horizon, this ledger and these entries
abbrev state_of : (horizon : ℕ) → List LedgerItem → List (Key × Entry) → State
state_of horizon ledger entries = record { horizon = horizon; ledger = ledger; entries = entries }

-- after the first entries of a state, a reader gets to the end of all entries of the state
pub entries_lead : (format : Format) (horizon : ℕ) → (count : ℕ) (ledger : List LedgerItem) (before later : List (Key × Entry)) → IsLedger ledger
    → AllByRecursion (IsToldEntry format horizon ledger) later → AreAscending (before ++ later)
    → length (before ++ later) ≤ count → Leads format (after_entries count (record { horizon = horizon; ledger = ledger; entries = before }))
    (after_entries count (record { horizon = horizon; ledger = ledger; entries = before ++ later }))
entries_lead format horizon count ledger before [] is good up within = search (rules, no_step, append-nil)
entries_lead format horizon count ledger before (entry ∷ later) is good up within =
    let size = length-append before (entry ∷ later) in
    let grouped = append_assoc before (entry ∷ []) later in
    let above = All-from_recursion (λ (e : Key × Entry). IsBelow key_cmp e.0 entry.0) before
    (below_next (on (λ (e : Key × Entry). e.0) key_cmp) before entry later up) in
    let rest = entries_lead format horizon count ledger (before ++ entry ∷ []) later is good.1 (subst AreAscending (sym grouped) up)
    (subst (λ xs. length xs ≤ count) (sym grouped) within) in
    then_leads format _ _ _ (entry_leads format count (state_of horizon ledger before) entry.0 entry.1.stamp entry.1.op (omega arith) is good.0 above)
    (then_leads format _ _ _ rest (no_step format _ _ (ap (λ entries. after_entries count (state_of horizon ledger entries)) grouped)))

-- from the beginning of a text, a reader gets to the end of the ledger's first items
ledger_leads : (format : Format) (horizon : ℕ) → (count : ℕ) (ledger : List LedgerItem) → IsHorizonOf format horizon → IsLedger ledger → count < 2 ^ 64
    → length ledger ≤ count → Leads format before_mark (after_items horizon count ledger)
ledger_leads format horizon count ledger is_horizon is fits within =
    then_leads format _ _ _ (head_leads format horizon is_horizon) (then_leads format _ _ _ (step_ledger_count format horizon count fits)
    (items_lead format horizon count [] ledger is within))

entry_count_leads : (format : Format) (horizon : ℕ) → (ledger : List LedgerItem) → IsHorizonOf format horizon → IsLedger ledger → length ledger < 2 ^ 64
    → Leads format before_mark (before_entry_count horizon ledger)
entry_count_leads format horizon ledger is_horizon is fits = then_leads _ _ _ _ (ledger_leads _ _ _ _ is_horizon is fits (omega arith))
    (no_step _ _ _ (all_items _ _))

-- entries that are good and don't have to lapse can be written in the format, if their ops can be
-- written in the format
told_entries : (format : Format) (horizon : ℕ) (ledger : List LedgerItem) (entries : List (Key × Entry)) → AllByRecursion (IsGoodEntry ledger) entries
    → AllByRecursion (λ (entry : Key × Entry). HasNotToLapse horizon entry.1.op) entries
    → AllByRecursion (λ (entry : Key × Entry). TellsOp format entry.1.op) entries
    → AllByRecursion (IsToldEntry format horizon ledger) entries
told_entries format horizon ledger [] good stay told = tt
told_entries format horizon ledger (entry ∷ entries) good stay told = ((good.0, stay.0, told.0), told_entries _ horizon _ entries good.1 stay.1 told.1)

state_leads : (format : Format) → (count : ℕ) (state : State) → IsToldState format state → length state.ledger < 2 ^ 64 → count < 2 ^ 64
    → length state.entries ≤ count → Leads format before_mark (after_entries count state)
state_leads format count state told items fits within =
    let all = told_entries _ state.horizon _ state.entries (recursion_from_All (IsGoodEntry state.ledger) state.entries told.valid.entries.0)
    (recursion_from_All (λ (entry : Key × Entry). HasNotToLapse state.horizon entry.1.op) state.entries told.valid.have_lapsed)
    (recursion_from_All (λ (entry : Key × Entry). TellsOp format entry.1.op) state.entries told.ops) in
    then_leads _ _ _ _ (entry_count_leads format _ state.ledger told.horizon told.valid.ledger items)
    (then_leads _ _ _ _ (step_entry_count format _ count _ fits) (entries_lead format _ count _ [] _ told.valid.ledger all told.valid.entries.1 within))

part_leads : (format : Format) → (count : ℕ) (state : State) (part : EntryPart) → length state.entries < count → IsLedger state.ledger → IsPartHere state part
    → Leads format (after_entries count state) (in_entry count state part)
part_leads format count state before_tag below ledger here = no_step _ _ _ (more_entries _ _ below)
part_leads format count state (before_key tag) below ledger here = tag_leads _ _ _ _ below here
part_leads format count state (before_stamp key) below ledger here = key_leads _ _ _ _ below here
part_leads format count state (before_op key stamp) below ledger here = stamp_leads _ _ _ _ _ below ledger here
part_leads format count state (before_body key stamp) below ledger here = put_leads _ _ _ _ _ below ledger here
part_leads format count state (before_line key stamp n lines) below ledger here = then_leads _ _ _ _ (put_leads _ _ _ _ _ below ledger here.0)
    (then_leads _ _ _ _ (step_count _ _ _ _ _ _ below here.1) (then_leads _ _ _ _ (elim here.3 [
      | inl none ↦ no_step _ _ _ (ap (after_lines count state key stamp n) (sym none))
      | inr are ↦
          let more = here.2 in
          lines_lead format count state key stamp n [] lines below (record { lines_of = are.0; complete = λ whole. absurd (omega arith) }) are.1 (omega arith)
    ]) (no_step _ _ _ (more_lines _ _ _ _ _ _ here.2))))

-- if all parts before a stage are good, a reader gets from the beginning of the text to this stage
pub reach : (format : Format) (before : Before) → AreGood format before → Leads format before_mark before
reach format before_mark good = no_step _ _ _ refl
reach format before_horizon good = horizon_leads _ good
reach format (before_ledger_count horizon) good = head_leads _ _ good
reach format (before_item horizon count ledger) good =
    let below = good.2 in
    then_leads _ _ _ _ (ledger_leads _ _ _ _ good.0 good.1 good.3 (omega arith)) (no_step _ _ _ (more_items _ _ _ good.2))
reach format (before_entry_count horizon ledger) good = entry_count_leads _ _ _ good.0 good.1 good.2
reach format (in_entry count state part) good =
    let below = good.2 in
    then_leads _ _ _ _ (state_leads _ _ _ good.0 good.1 good.3 (omega arith)) (part_leads _ _ _ _ good.2 good.0.valid.ledger good.4)
reach format (at_end state) good = then_leads _ _ _ _ (state_leads _ _ _ good.0 good.1 good.2 (omega arith)) (no_step _ _ _ (all_entries _))
