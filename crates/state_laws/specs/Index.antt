-- The two indexes of a live table. The index of calls lists the schedules that call at each place,
-- and the index of associations lists the associations at each place. The rows of a UID's schedules
-- are defined here too.
use Rattle.std.specs.Prelude.{◌≡◌, ℕ, ◌↔◌, List, [], ◌∷◌, map, filter, Some, Contains}
use Rattle.std.specs.Str.{bytes_eq}
use Rattle.std.specs.declared.cmp.Ordering.{Ordering}
use Rattle.std.specs.Ordering.{ordering_then}
use Rattle.docker_model.specs.records.Record.{kind_of, columns, is_location}
use Rattle.docker_model.specs.file.Journey.{CallsAt}
use Rattle.docker_model.specs.file.Change.{Key, association_key, schedule_key, AssociationKey, ScheduleKey, Body, association_body, schedule_body}
use Rattle.docker_model.specs.state.Order.{bytes_cmp, IsStrictlyAscending}
use Rattle.docker_model.specs.state.Op.{schedule_key_cmp, association_key_cmp}
use Rattle.docker_model.specs.state.Table.{Table}
use Rattle.docker_model.specs.state.Row.{Row, AreInKeyOrder}

-- a row of the index of calls: a TIPLOC, and the key of a schedule that calls at this TIPLOC
abbrev pub CallingRow : Type 0
CallingRow = List ℕ × ScheduleKey

-- a row of the index of associations: a TIPLOC, and the key of an association at this TIPLOC
abbrev pub LinkedRow : Type 0
LinkedRow = List ℕ × AssociationKey

-- the order of the index of calls: by TIPLOC, then by schedule key
abbrev pub calling_cmp : CallingRow → CallingRow → Ordering
calling_cmp a b = ordering_then (bytes_cmp a.0 b.0) (schedule_key_cmp a.1 b.1)

-- the order of the index of associations: by TIPLOC, then by association key
abbrev pub linked_cmp : LinkedRow → LinkedRow → Ordering
linked_cmp a b = ordering_then (bytes_cmp a.0 b.0) (association_key_cmp a.1 b.1)

-- the index rows of calls for one row of the table: one for each location record of the row's
-- schedule, so a TIPLOC may occur several times. A row without a schedule has no index row
abbrev pub calls_of : Key → Body → List CallingRow
calls_of (schedule_key key) (schedule_body lines) = map (λ line. (columns 3 9 line, key)) (filter (λ line. is_location (kind_of line)) lines)
calls_of _ _ = []

-- the index row of associations for one row of the table, or no index row if the row isn't an
-- association
abbrev pub links_of : Key → Body → List LinkedRow
links_of (association_key key) (association_body line) = (key.location, key) ∷ []
links_of _ _ = []

-- the schedule is in the live table and calls at the place
pub record IsCalling (live : Table) (place : List ℕ) (key : ScheduleKey) (lines : List (List ℕ)) : Type 0 where
  pub is_live : live (schedule_key key) ≡ Some (schedule_body lines)
  pub calls : CallsAt place lines

-- the association is in the live table and at the place
pub record IsLinked (live : Table) (place : List ℕ) (key : AssociationKey) (line : List ℕ) : Type 0 where
  pub is_live : live (association_key key) ≡ Some (association_body line)
  pub here : key.location ≡ place

-- `index` is the index of calls of a live table. It lists the pairs of a TIPLOC and the key of a
-- live schedule that calls there, each pair once, in ascending order
pub record IsCallingIndex (live : Table) (index : List CallingRow) : Type 0 where
  pub ascending : IsStrictlyAscending calling_cmp index
  pub members : (place : List ℕ) (key : ScheduleKey) → Contains index (place, key) ↔ ((lines : List (List ℕ)) × IsCalling live place key lines)

-- `index` is the index of associations of a live table. It lists the pairs of a TIPLOC and the key
-- of a live association there, each pair once, in ascending order
pub record IsLinkedIndex (live : Table) (index : List LinkedRow) : Type 0 where
  pub ascending : IsStrictlyAscending linked_cmp index
  pub members : (place : List ℕ) (key : AssociationKey) → Contains index (place, key) ↔ ((line : List ℕ) × IsLinked live place key line)

-- `rows` are the schedules in the live table that call at the place, in key order
pub record AreCalling (live : Table) (place : List ℕ) (rows : List Row) : Type 0 where
  pub ascending : AreInKeyOrder rows
  pub members : (key : Key) (body : Body) → Contains rows (key, body)
      ↔ ((schedule : ScheduleKey) × (lines : List (List ℕ)) × (key ≡ schedule_key schedule) × (body ≡ schedule_body lines)
      × IsCalling live place schedule lines)

-- `rows` are the associations in the live table at the place, in key order
pub record AreLinked (live : Table) (place : List ℕ) (rows : List Row) : Type 0 where
  pub ascending : AreInKeyOrder rows
  pub members : (key : Key) (body : Body) → Contains rows (key, body)
      ↔ ((association : AssociationKey) × (line : List ℕ) × (key ≡ association_key association) × (body ≡ association_body line)
      × IsLinked live place association line)

-- `rows` are the schedules of the UID in the live table, in key order
pub record AreOfUid (live : Table) (uid : List ℕ) (rows : List Row) : Type 0 where
  pub ascending : AreInKeyOrder rows
  pub members : (key : Key) (body : Body) → Contains rows (key, body)
      ↔ ((schedule : ScheduleKey) × (lines : List (List ℕ)) × (key ≡ schedule_key schedule) × (body ≡ schedule_body lines) × (live key ≡ Some body)
      × (schedule.uid ≡ uid))

-- the keys that the index of calls lists for a place
abbrev pub calling_keys : List CallingRow → List ℕ → List Key
calling_keys index place = map (λ (r : CallingRow). schedule_key r.1) (filter (λ (r : CallingRow). bytes_eq r.0 place) index)

-- the keys that the index of associations lists for a place
abbrev pub linked_keys : List LinkedRow → List ℕ → List Key
linked_keys index place = map (λ (r : LinkedRow). association_key r.1) (filter (λ (r : LinkedRow). bytes_eq r.0 place) index)
