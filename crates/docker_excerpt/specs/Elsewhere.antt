-- Schedules that run near the day of a docker, but have no event at its place on this day.
use Rattle.std.specs.Prelude.{◌↔◌, ℕ, List, ◌∷◌, ◌++◌, map, Contains, Option, Some, None}
use Rattle.std.specs.List.{filter_map}
use Rattle.std.specs.Global.{Vec}
use Rattle.docker_model.specs.file.Change.{tiploc_key, association_key, schedule_key, schedule_body, put}
use Rattle.docker_model.specs.file.Change as model
use Rattle.docker_laws.specs.Thinning.{ends_elsewhere}
use Rattle.cif_change.specs.declared.change.Change.{Change}
use Rattle.cif_change.specs.declared.key.Key.TheVariants as key
use Rattle.cif_change.specs.Meaning.{change_meant, key_meant}
use Rattle.docker_excerpt.specs.declared.elsewhere.Elsewhere.{Elsewhere}

-- the change that puts a schedule, with these lines as its origin and its terminus
abbrev pub with_ends : List (List ℕ) → Elsewhere → model.Change
with_ends ends one = record {
  number = one.number;
  key = key_meant (key.Schedule one.key);
  act = put (schedule_body (one.basic ∷ ends));
}

-- the thin change of a schedule without an event at the place on the day
abbrev pub elsewhere_meant : List ℕ → Elsewhere → model.Change
elsewhere_meant place = with_ends (ends_elsewhere place)

-- the changes in a vector, followed by the thin changes of the other schedules
abbrev pub all_kept : List ℕ → Vec Change → Vec Elsewhere → List model.Change
all_kept place made elsewhere = map change_meant made.items ++ map (elsewhere_meant place) elsewhere.items

-- says that two lists have the same changes, perhaps in another order or number
abbrev pub HaveSame : List model.Change → List model.Change → Type 0
HaveSame one other = (change : model.Change) → Contains one change ↔ Contains other change

-- the UID in the key of a schedule, or the UID of the associated train in the key of an association.
-- There is none in the key of a TIPLOC
abbrev pub uid_named : model.Key → Option (List ℕ)
uid_named (tiploc_key code) = None
uid_named (association_key key) = Some key.associated
uid_named (schedule_key key) = Some key.uid

-- the UIDs that the keys of these changes name
abbrev pub uids_named : List model.Change → List (List ℕ)
uids_named changes = filter_map (λ (change : model.Change). uid_named change.key) changes
