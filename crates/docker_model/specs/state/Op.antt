-- Ops and entries, and the orders of keys, bodies, ops and entries. An op is the value of an entry:
-- a deletion, a lapse, or a put of a body.
use Rattle.std.specs.Prelude.{ℕ, if◌then◌else◌, List, Option, Some, None}
use Rattle.std.specs.List.{concat}
use Rattle.std.specs.declared.cmp.Ordering.{Ordering}
use Rattle.std.specs.declared.cmp.Ordering.TheVariants.{Less, Equal, Greater}
use Rattle.std.specs.Ordering.{ordering_then, nat_cmp}
use Rattle.docker_model.specs.records.Record.{columns}
use Rattle.docker_model.specs.records.Date.{is_end_date, end_number, no_end_number}
use Rattle.docker_model.specs.file.File.{first_record}
use Rattle.docker_model.specs.file.Change.{Key, tiploc_key, association_key, schedule_key, AssociationKey, ScheduleKey}
use Rattle.docker_model.specs.file.Change.{Body, tiploc_body, association_body, schedule_body, Act, delete, put}
use Rattle.docker_model.specs.state.Order.{bytes_cmp}
use Rattle.docker_model.specs.state.Stamp.{Stamp, stamp_cmp}

-- the tag of a key, which is the first byte of the key in a state's text: 1 for a TIPLOC, 2 for an
-- association, and 3 for a schedule
abbrev pub key_tag : Key → ℕ
key_tag (tiploc_key code) = 1
key_tag (association_key key) = 2
key_tag (schedule_key key) = 3

-- the tag of a body: 1 for a TIPLOC, 2 for an association, and 3 for a schedule
abbrev pub body_tag : Body → ℕ
body_tag (tiploc_body bytes) = 1
body_tag (association_body line) = 2
body_tag (schedule_body lines) = 3

-- the order of association keys: by the base train's UID, the associated train's UID, the first
-- date, the timing point, the suffix and the STP indicator. Well-formed keys are in the same order
-- as their bytes in a state's text
abbrev pub association_key_cmp : AssociationKey → AssociationKey → Ordering
association_key_cmp a b =
    ordering_then (bytes_cmp a.base b.base) (ordering_then (bytes_cmp a.associated b.associated)
    (ordering_then (nat_cmp a.start b.start) (ordering_then (bytes_cmp a.location b.location)
    (ordering_then (nat_cmp a.suffix b.suffix) (nat_cmp a.indicator b.indicator)))))

-- the order of schedule keys: by UID, runs-from date and STP indicator. Well-formed keys are in the
-- same order as their bytes in a state's text
abbrev pub schedule_key_cmp : ScheduleKey → ScheduleKey → Ordering
schedule_key_cmp a b =
    ordering_then (bytes_cmp a.uid b.uid) (ordering_then (nat_cmp a.runs_from b.runs_from) (nat_cmp a.indicator b.indicator))

-- the order of keys: TIPLOCs, then associations, then schedules. Each kind of key has its own
-- order. Well-formed keys are in the same order as their bytes in a state's text
abbrev pub key_cmp : Key → Key → Ordering
key_cmp (tiploc_key a) (tiploc_key b) = bytes_cmp a b
key_cmp (tiploc_key a) (association_key b) = Less
key_cmp (tiploc_key a) (schedule_key b) = Less
key_cmp (association_key a) (tiploc_key b) = Greater
key_cmp (association_key a) (association_key b) = association_key_cmp a b
key_cmp (association_key a) (schedule_key b) = Less
key_cmp (schedule_key a) (tiploc_key b) = Greater
key_cmp (schedule_key a) (association_key b) = Greater
key_cmp (schedule_key a) (schedule_key b) = schedule_key_cmp a b

-- the bytes of a body. The bytes of a schedule are the concatenation of its records
abbrev pub body_bytes : Body → List ℕ
body_bytes (tiploc_body bytes) = bytes
body_bytes (association_body line) = line
body_bytes (schedule_body lines) = concat lines

-- converts six bytes to an end number. If the bytes aren't an end date, the result is 65535, which
-- means no end
abbrev pub readable_end : List ℕ → ℕ
readable_end field = if is_end_date field then end_number field else no_end_number

-- the end number of a body: the last day of its schedule or association, or 65535 for no end. A
-- TIPLOC has no end. The lines of the body must be records
abbrev pub body_end : Body → ℕ
body_end (tiploc_body bytes) = no_end_number
body_end (association_body line) = readable_end (columns 22 27 line)
body_end (schedule_body lines) = readable_end (columns 16 21 (first_record lines))

-- the order of bodies: by end number, then bytes, then tag. If all lines of two bodies are records,
-- the bodies compare as equal only if they are the same
abbrev pub body_cmp : Body → Body → Ordering
body_cmp a b =
    ordering_then (nat_cmp (body_end a) (body_end b))
    (ordering_then (bytes_cmp (body_bytes a) (body_bytes b)) (nat_cmp (body_tag a) (body_tag b)))

-- an op, which is the value of an entry. An op says that the entry's key is deleted, that the key's
-- body has lapsed, or that the key has a body
pub data Op : Type 0 where
  deleted : Op
  lapsed : Op
  put_with : (body : Body) → Op

-- converts an act to an op: a deletion to `deleted`, and a put to a put of the same body
abbrev pub op_of : Act → Op
op_of delete = deleted
op_of (put body) = put_with body

-- the body that an op puts, or `None` if the op is `deleted` or `lapsed`
abbrev pub body_of : Op → Option Body
body_of deleted = None
body_of lapsed = None
body_of (put_with body) = Some body

-- the order of ops: `deleted`, then `lapsed`, then puts in the order of their bodies. If all lines
-- of the bodies in two ops are records, the ops compare as equal only if they are the same
abbrev pub op_cmp : Op → Op → Ordering
op_cmp deleted deleted = Equal
op_cmp deleted lapsed = Less
op_cmp deleted (put_with b) = Less
op_cmp lapsed deleted = Greater
op_cmp lapsed lapsed = Equal
op_cmp lapsed (put_with b) = Less
op_cmp (put_with a) deleted = Greater
op_cmp (put_with a) lapsed = Greater
op_cmp (put_with a) (put_with b) = body_cmp a b

-- an entry of a state: the op of a key, with the stamp of the change that set the op. Of two
-- entries for one key, a join keeps the greater entry
pub record Entry : Type 0 where
  pub stamp : Stamp
  pub op : Op

-- the order of entries: by stamp, then by op. If all lines of the bodies in two entries are
-- records, the entries compare as equal only if they are the same
abbrev pub entry_cmp : Entry → Entry → Ordering
entry_cmp a b = ordering_then (stamp_cmp a.stamp b.stamp) (op_cmp a.op b.op)
