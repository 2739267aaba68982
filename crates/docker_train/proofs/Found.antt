-- The entry of a live schedule, and the stamp of that entry.
use Rattle.cif_laws.proofs.Common.{◌≡◌, ◌<◌, subst, Some, None, rules, All-contains, Key, Body, schedule_key, LedgerItem, FileStamp, Op, put_with, Entry}
use Rattle.cif_laws.proofs.Common.{body_of, State, IsValid, IsGoodItem, IsGoodEntry, entry_at, live_table, Train, IsStampOf}
use Rattle.cif_laws.proofs.lists.BoolsAndOptions.{none_some}
use Rattle.cif_laws.proofs.lists.Membership.{Contains-map}
use Rattle.state_laws.proofs.joins.StagedEntry.{entry_at_iff}
use Rattle.train_choice.specs.Along.{IsLiveTrain}

-- an op with a body is the op `put_with` of this body
put_of : (op : Op) (body : Body) → body_of op ≡ Some body → op ≡ put_with body
put_of = search (rules, none_some)

-- the entry at a live schedule's key has the schedule's lines, so the entry's stamp is the
-- schedule's stamp
pub stamp_is : (state : State) (train : Train) (entry : Entry) → IsLiveTrain (live_table state) train
    → Some entry ≡ entry_at state (schedule_key train.key) → IsStampOf state train entry.stamp
stamp_is = search (rules, put_of)

-- a live schedule has an entry in the state
pub entry_there : (state : State) (train : Train) → IsLiveTrain (live_table state) train → None ≡ entry_at state (schedule_key train.key) → ⊥
entry_there = search (rules, none_some)

-- the minute in an entry's stamp is below 1440, the number of minutes in a day
pub minute_of_day : (state : State) (key : Key) (entry : Entry) → IsValid state → entry_at state key ≡ Some entry → entry.stamp.file.moment.minute < 1440
minute_of_day state key entry valid at =
    let among = (entry_at_iff state valid.entries.1 key entry).0 at in
    let good = All-contains (IsGoodEntry state.ledger) state.entries (key, entry) valid.entries.0 among in
    let item = Contains-map (λ (it : LedgerItem). it.stamp) state.ledger entry.stamp.file good.stamp.in_ledger in
    let is = All-contains IsGoodItem state.ledger item.0 valid.ledger.each item.1 in
    subst (λ (stamp : FileStamp). stamp.moment.minute < 1440) item.2 is.minute
