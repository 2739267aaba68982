-- Excerpts of a table and of a state for a place. An excerpt has all entries on which a docker of
-- the place can depend, and may have more entries. A place is a TIPLOC.
use Rattle.std.specs.Prelude.{◌≡◌, ℕ, ◌⊎◌, List, [], ◌∷◌, ⊤, None}
use Rattle.docker_model.specs.file.Change.{Key, tiploc_key, association_key, schedule_key, AssociationKey, ScheduleKey}
use Rattle.docker_model.specs.state.Table.{Table}
use Rattle.state_laws.specs.Index.{IsCalling, IsLinked}
use Rattle.docker_model.specs.state.State.{State, live_table}

-- a schedule of the UID is in the live table and calls at the place
pub record HasCall (live : Table) (place uid : List ℕ) : Type 0 where
  pub key : ScheduleKey
  pub lines : List (List ℕ)
  pub uid_is : key.uid ≡ uid
  pub calling : IsCalling live place key lines

-- an association at the place is in the live table, and its associated train has the UID
pub record IsNamed (live : Table) (place uid : List ℕ) : Type 0 where
  pub key : AssociationKey
  pub line : List ℕ
  pub associated_is : key.associated ≡ uid
  pub linked : IsLinked live place key line

-- the docker of the place may depend on the schedules of this UID. Either a schedule of the UID
-- calls at the place, or the associated train of an association at the place has this UID. The
-- docker then needs all schedules of the UID, since together they determine which of them is chosen
-- on a day
abbrev pub IsConcerned : Table → List ℕ → List ℕ → Type 0
IsConcerned live place uid = HasCall live place uid ⊎ IsNamed live place uid

-- the docker of the place may depend on this key: the key is the place's TIPLOC, an association at
-- the place, or a schedule whose UID satisfies `IsConcerned`
abbrev pub IsNeeded : Table → List ℕ → Key → Type 0
IsNeeded live place (tiploc_key code) = code ≡ place
IsNeeded live place (association_key key) = key.location ≡ place
IsNeeded live place (schedule_key key) = IsConcerned live place key.uid

-- `part` is an excerpt of `live` for the place. At each key, `part` equals `live`, or `part` has no
-- body and the docker of the place doesn't depend on the key
abbrev pub IsExcerpt : List ℕ → Table → Table → Type 0
IsExcerpt place live part = (key : Key) → (part key ≡ live key) ⊎ ((part key ≡ None) × ¬ IsNeeded live place key)

-- the first list has some elements of the second, in the same order. For example, 1 3 is a sublist
-- of 1 2 3
abbrev pub IsSublist : {A : Type 0} → List A → List A → Type 0
IsSublist [] ys = ⊤
IsSublist (x ∷ xs) [] = ⊥
IsSublist (x ∷ xs) (y ∷ ys) = ((x ≡ y) × IsSublist xs ys) ⊎ IsSublist (x ∷ xs) ys

-- `part` is an excerpt of the state for the place. `part` has the state's horizon and ledger, and
-- the entries of `part` are a sublist of the state's entries. The live table of `part` is an
-- excerpt of the state's live table
pub record IsExcerptState (place : List ℕ) (state part : State) : Type 0 where
  pub horizon : part.horizon ≡ state.horizon
  pub ledger : part.ledger ≡ state.ledger
  pub entries : IsSublist part.entries state.entries
  pub live : IsExcerpt place (live_table state) (live_table part)
