-- Thinning removes from a table what the docker of one place on one day doesn't need. It removes
-- TIPLOCs and associations of other places, and schedules that run on no start day near the day. Of
-- a schedule that can't have an event at the place on the day, it leaves only the basic schedule,
-- followed by a made-up origin and terminus. Each change can be thinned by itself.
use Rattle.std.specs.Prelude.{◌≡◌, ℕ, Bool, true, if◌then◌else◌, List, [], ◌∷◌, ◌++◌, map, filter, codes}
use Rattle.std.specs.Prelude.{fold, ◌&&◌, Option, Some, None, option_and_then, not, Contains, ◌↔◌}
use Rattle.std.specs.Ordering.{is_eq}
use Rattle.std.specs.List.{list_any}
use Rattle.std.specs.Str.{bytes_eq}
use Rattle.docker_model.specs.records.PrintedTime.{spaces}
use Rattle.docker_model.specs.file.Journey.{calls_at}
use Rattle.docker_model.specs.file.File.{first_record}
use Rattle.docker_model.specs.file.Change.{Key, tiploc_key, association_key, schedule_key, AssociationKey, ScheduleKey}
use Rattle.docker_model.specs.file.Change.{Body, schedule_body, association_body, Act, delete, put, Change}
use Rattle.docker_model.specs.state.Order.{IsAtMost}
use Rattle.docker_model.specs.state.Stamp.{ledger_item_of}
use Rattle.docker_model.specs.state.Op.{Op, key_cmp, put_with, Entry}
use Rattle.docker_model.specs.state.Table.{Table, empty_table, after_change}
use Rattle.docker_model.specs.state.State.{State, AreAscending, IsGreatestAmong}
use Rattle.docker_model.specs.state.Summary.{entry_of}
use Rattle.docker_laws.specs.Excerpt.{IsSublist}
use Rattle.docker_laws.specs.ExcerptWalk.{excerpt_for}
use Rattle.docker_laws.specs.NearDay.{may_count, may_reach, near_entries}

-- a made-up origin and terminus at this TIPLOC, both with the time 0000
abbrev pub ends_at : List ℕ → List (List ℕ)
ends_at code = (codes "LO" ++ code ++ codes " 0000 0000" ++ spaces 61) ∷ (codes "LT" ++ code ++ codes " 0000 0000" ++ spaces 61) ∷ []

-- a made-up origin and terminus at a TIPLOC that isn't the place
abbrev pub ends_elsewhere : List ℕ → List (List ℕ)
ends_elsewhere place = if bytes_eq place (codes "NOWHERE") then ends_at (codes "ANOTHER") else ends_at (codes "NOWHERE")

-- the thin records of a schedule whose basic schedule is `basic`. For example, if the schedule has
-- the records BS, BX, LO, LI, LT, its thin records are BS and a made-up LO and LT
abbrev pub thin_lines : List ℕ → List ℕ → List (List ℕ)
thin_lines place basic = basic ∷ ends_elsewhere place

-- the records of a schedule that the docker of the place and the day needs. If the schedule calls
-- at the place, and an event of it may be on the day, these are all records. Otherwise they are the
-- thin records
abbrev pub lines_for : List ℕ → ℕ → List (List ℕ) → List (List ℕ)
lines_for place day lines = if calls_at place lines && may_reach day lines then lines else thin_lines place (first_record lines)

-- the body that the docker of the place and the day needs: of a schedule the records that
-- `lines_for` leaves, and any other body unchanged
abbrev pub body_for : List ℕ → ℕ → Body → Body
body_for place day (schedule_body lines) = schedule_body (lines_for place day lines)
body_for place day body = body

-- whether the docker of the place may depend on the body at this key, judged only by the key. It
-- may depend on the place's TIPLOC, on the associations at the place, and on all schedules
abbrev pub may_matter : List ℕ → Key → Bool
may_matter place (tiploc_key code) = bytes_eq code place
may_matter place (association_key key) = bytes_eq key.location place
may_matter place (schedule_key key) = true

-- a body, thinned for the place and the day, or `None` if the body can't count on the day
abbrev pub thin_body : List ℕ → ℕ → Body → Option Body
thin_body place day body = if may_count day (put_with body) then Some (body_for place day body) else None

-- a table, thinned for the place and the day
abbrev pub thinned : List ℕ → ℕ → Table → Table
thinned place day live key = if may_matter place key then option_and_then (thin_body place day) (live key) else None

-- the thin form of an act. A put of a schedule that can't count on the day becomes a deletion. Any
-- other put becomes a put of the body that the docker of the place needs
abbrev pub thin_act : List ℕ → ℕ → Act → Act
thin_act place day delete = delete
thin_act place day (put body) = if may_count day (put_with body) then put (body_for place day body) else delete

-- the thin form of a change: the same record number and key, and the thin form of the act
abbrev pub thin_change : List ℕ → ℕ → Change → Change
thin_change place day change = record { number = change.number; key = change.key; act = thin_act place day change.act }

-- the thin forms of the changes whose keys may matter to the docker of the place
abbrev pub thin_changes : List ℕ → ℕ → List Change → List Change
thin_changes place day changes = map (thin_change place day) (filter (λ (change : Change). may_matter place change.key) changes)

-- the table after these changes, starting from the empty table
abbrev pub table_of : List Change → Table
table_of changes = fold after_change empty_table changes

-- the kept changes are enough for the place and the day: the table after the kept changes equals
-- the thinned table after all changes
abbrev pub AreEnough : List ℕ → ℕ → List Change → List Change → Type 0
AreEnough place day changes kept = (key : Key) → table_of kept key ≡ thinned place day (table_of changes) key

-- for the place and the day, the kept changes may replace all changes. They are a sublist of the
-- thin forms of all changes, and they are enough for the docker
pub record IsThinning (place : List ℕ) (day : ℕ) (changes kept : List Change) : Type 0 where
  pub some : IsSublist kept (map (thin_change place day) changes)
  pub enough : AreEnough place day changes kept

-- no change in the list is a change to this key
abbrev pub HasNoChangeOf : Key → List Change → Type 0
HasNoChangeOf key changes = (change : Change) → Contains changes change → ¬ (change.key ≡ key)

-- no change in the list has a key above this key
abbrev pub AreAtMost : Key → List Change → Type 0
AreAtMost highest changes = (change : Change) → Contains changes change → IsAtMost key_cmp change.key highest

-- the list without the changes to this key
abbrev pub without : Key → List Change → List Change
without key changes = filter (λ (change : Change). not (is_eq (key_cmp change.key key))) changes

-- `state` is the state after these changes of a file. The changes may be thin. The state has the
-- file's ledger item and, at each key, the greatest of the entries that the changes leave
pub record IsStateOfChanges (file : List (List ℕ)) (changes : List Change) (state : State) : Type 0 where
  pub horizon : state.horizon ≡ 0
  pub ledger : state.ledger ≡ ledger_item_of file ∷ []
  pub ascending : AreAscending state.entries
  pub entries : (key : Key) (entry : Entry) → Contains state.entries (key, entry)
      ↔ IsGreatestAmong (map (λ (change : Change). (change.key, entry_of file change)) changes) key entry

-- whether a key isn't the key of a schedule, or is the key of a schedule with one of these UIDs
abbrev pub is_wanted : List (List ℕ) → Key → Bool
is_wanted uids (tiploc_key code) = true
is_wanted uids (association_key key) = true
is_wanted uids (schedule_key key) = list_any (λ uid. bytes_eq uid key.uid) uids

-- the changes without those to schedules whose UIDs aren't among these UIDs
abbrev pub wanted_changes : List (List ℕ) → List Change → List Change
wanted_changes uids changes = filter (λ (change : Change). is_wanted uids change.key) changes

-- the UIDs are enough for the docker of the place. Among them are the UID of each schedule that is
-- put and calls at the place, and the UID of the associated train of each association that is put
pub record HasUidsOf (place : List ℕ) (kept : List Change) (uids : List (List ℕ)) : Type 0 where
  pub calls : (change : Change) (key : ScheduleKey) (lines : List (List ℕ)) → Contains kept change → change.key ≡ schedule_key key
      → change.act ≡ put (schedule_body lines) → calls_at place lines ≡ true → Contains uids key.uid
  pub names : (change : Change) (key : AssociationKey) (line : List ℕ) → Contains kept change → change.key ≡ association_key key
      → change.act ≡ put (association_body line) → Contains uids key.associated

-- the records of a schedule in the excerpt of a state. If the schedule calls at the place, they are
-- the records that the docker needs, and otherwise all records
abbrev pub excerpt_lines : List ℕ → ℕ → List (List ℕ) → List (List ℕ)
excerpt_lines place day lines = if calls_at place lines then lines_for place day lines else lines

-- a body in the excerpt of a state: of a schedule the records that `excerpt_lines` leaves, and any
-- other body unchanged
abbrev pub excerpt_body : List ℕ → ℕ → Body → Body
excerpt_body place day (schedule_body lines) = schedule_body (excerpt_lines place day lines)
excerpt_body place day body = body

-- an op in the excerpt of a state: a put of the body that `excerpt_body` leaves, and any other op
-- unchanged
abbrev pub excerpt_op : List ℕ → ℕ → Op → Op
excerpt_op place day (put_with body) = put_with (excerpt_body place day body)
excerpt_op place day op = op

-- a key with its entry, whose op is the one that the excerpt has. The key and the stamp are
-- unchanged
abbrev pub excerpt_entry : List ℕ → ℕ → Key × Entry → Key × Entry
excerpt_entry place day entry = (entry.0, record { stamp = entry.1.stamp; op = excerpt_op place day entry.1.op })

-- the entries that may count on the day, as the excerpt of a state has them
abbrev pub excerpt_entries : List ℕ → ℕ → List (Key × Entry) → List (Key × Entry)
excerpt_entries place day entries = map (excerpt_entry place day) (near_entries day entries)

-- the state with only the entries that may count on the day. Of a schedule that calls at the place,
-- it has only the records that the docker needs
abbrev pub shortened : List ℕ → ℕ → State → State
shortened place day state = record { horizon = state.horizon; ledger = state.ledger; entries = excerpt_entries place day state.entries }

-- the excerpt of a state for a place and a day
abbrev pub excerpt_on : List ℕ → ℕ → State → State
excerpt_on place day state = excerpt_for place (shortened place day state)
