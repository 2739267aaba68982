-- The trains, train identities and chosen associations that are remembered after they have been looked up.
use Rattle.std.specs.Prelude.{◌≡◌, ℕ, List, Option, Some, None, ⊤}
use Rattle.std.specs.BTreeMap.{BTreeMap, get}
use Rattle.std.specs.declared.cmp.Ordering.{Ordering}
use Rattle.std.specs.Ordering.{ordering_then, nat_cmp, on}
use Rattle.docker_laws.specs.Best.{with_one_more}
use Rattle.docker_model.specs.docker.Choice.{Group, association_choice_cmp}
use Rattle.docker_laws.specs.Gathering.{identity_of}
use Rattle.docker_laws.specs.LiveRows.{Link, is_linked, link_in, train_in}
use Rattle.docker_model.specs.state.Order.{bytes_cmp}
use Rattle.docker_model.specs.state.Row.{Row, AreRowsOf}
use Rattle.docker_model.specs.state.Table.{Table}
use Rattle.docker_state.specs.Timetables.{Timetable}
use Rattle.train_choice.specs.declared.uid_train.UidTrain.{UidTrain}

-- a timetable and a start day
pub record StartDay : Type 0 where
  pub timetable : Timetable
  pub day : ℕ

-- a timetable, a place and a start day
pub record PlaceDay : Type 0 where
  pub timetable : Timetable
  pub place : List ℕ
  pub day : ℕ

-- says that the remembered train, if there is one, is the train of its UID on the day
abbrev pub IsKnownTrain : Table → ℕ → Option UidTrain → Type 0
IsKnownTrain live day None = ⊤
IsKnownTrain live day (Some known) = (rows : List Row) → AreRowsOf live rows → known.train ≡ train_in rows known.uid day

-- the order of UIDs and days: by the UID, and then by the day
abbrev pub uid_day_cmp : List ℕ × ℕ → List ℕ × ℕ → Ordering
uid_day_cmp a b = ordering_then (bytes_cmp a.0 b.0) (nat_cmp a.1 b.1)

-- says that each identity in the map belongs to the train of the UID and the start day under which it is stored
abbrev pub AreIdentities : Table → BTreeMap (List ℕ × ℕ) (List ℕ) → Type 0
AreIdentities live known =
    (uid : List ℕ) (day : ℕ) (identity : List ℕ) → get uid_day_cmp known (uid, day) ≡ Some identity
    → (rows : List Row) → AreRowsOf live rows → identity ≡ identity_of (train_in rows uid day)

-- the order of groups: by the base train, the associated train, the location and the suffix
abbrev pub group_cmp : Group → Group → Ordering
group_cmp a b =
    ordering_then (bytes_cmp a.base b.base) (ordering_then (bytes_cmp a.associated b.associated)
    (ordering_then (bytes_cmp a.location b.location) (nat_cmp a.suffix b.suffix)))

-- a map from each group to its best association. A group without an association isn't in the map
abbrev pub GroupLinks : Type 0
GroupLinks = BTreeMap Group Link

-- says that for each group at the place, the map has the association chosen on the day, or nothing
-- if none is chosen
abbrev pub AreDayLinks : Table → List ℕ → ℕ → GroupLinks → Type 0
AreDayLinks live place day best =
    (group : Group) → group.location ≡ place → (rows : List Row) → AreRowsOf live rows → get group_cmp best group ≡ link_in rows group day

-- says how one more association, `link`, changes the map of best associations. If `link` runs on
-- the day, the map now has the better of the old association and `link` for the group of `link`.
-- Otherwise this group is unchanged. All other groups are unchanged
abbrev pub HasOneMore : ℕ → GroupLinks → Link → GroupLinks → Type 0
HasOneMore day before link after =
    (group : Group) → get group_cmp after group
    ≡ with_one_more (on (λ (l : Link). l.key) association_choice_cmp) (is_linked group day) (get group_cmp before group) link
