-- The rows of a UID's schedules, which are next to each other in key order.
use Rattle.std.specs.Prelude.{◌≡◌, ℕ, List, ◌++◌, Bool, true, false, Contains}
use Rattle.std.specs.List.{slice_get}
use Rattle.std.specs.List.Sorted.{IsPartitionPoint}
use Rattle.std.specs.Option.{option_map_or}
use Rattle.std.specs.Ordering.{is_eq, is_lt}
use Rattle.std.specs.declared.cmp.Ordering.{Ordering}
use Rattle.std.specs.declared.cmp.Ordering.TheVariants.{Less, Equal, Greater}
use Rattle.docker_model.specs.file.Change as model
use Rattle.docker_model.specs.file.Change.{tiploc_key, association_key, schedule_key}
use Rattle.docker_model.specs.state.Order.{bytes_cmp}
use Rattle.cif_change.specs.Meaning.{key_meant}
use Rattle.cif_change.specs.declared.key.Key.{Key}
use Rattle.docker_join.specs.declared.entry.Entry.{Entry}

-- compares a key with the keys of a UID's schedules; keys of TIPLOCs and associations are below these keys
abbrev pub to_uid : model.Key → List ℕ → Ordering
to_uid (tiploc_key code) uid = Less
to_uid (association_key key) uid = Less
to_uid (schedule_key key) uid = bytes_cmp key.uid uid

-- whether a row comes before the UID's schedules in key order
abbrev pub is_before : List ℕ → Key × Entry → Bool
is_before uid row = is_lt (to_uid (key_meant row.0) uid)

-- whether the row at this index is a schedule of the UID; false if there is no such row
abbrev pub is_of_uid_at : List ℕ → List (Key × Entry) → ℕ → Bool
is_of_uid_at uid rows at =
    option_map_or (λ row. is_eq (to_uid (key_meant row.0) uid)) (slice_get rows at) false

-- Says that exactly the first `count` rows come before the UID's schedules.
abbrev pub IsBeginning : List ℕ → List (Key × Entry) → ℕ → Type 0
IsBeginning uid rows count =
    IsPartitionPoint (λ row. is_before uid row ≡ true) (λ row. is_before uid row ≡ false) rows count

-- Says that `to_uid` returns `order` for each of these rows: the row is before, among or after the UID's schedules.
abbrev pub AreTo : Ordering → List ℕ → List (Key × Entry) → Type 0
AreTo order uid rows =
    (row : Key × Entry) → Contains rows row → to_uid (key_meant row.0) uid ≡ order

-- Says that `piece`, a sequence of neighbouring rows, has exactly the UID's schedules. All rows before `piece` are below these schedules, and all rows after it
-- are above them.
pub record IsPieceOfUid (uid : List ℕ) (rows piece : List (Key × Entry)) : Type 0 where
  pub before : List (Key × Entry)
  pub behind : List (Key × Entry)
  pub whole : rows ≡ (before ++ piece) ++ behind
  pub below : AreTo Less uid before
  pub here : AreTo Equal uid piece
  pub above : AreTo Greater uid behind
