-- The progress of a walk over a state's entries that makes an excerpt.
use Rattle.std.specs.Prelude.{◌≡◌, ℕ, Bool, List, [], ◌⊎◌, ◌↔◌, Contains}
use Rattle.std.specs.List.Sorted.{IsSorted}
use Rattle.docker_model.specs.file.Change.{Key}
use Rattle.docker_model.specs.state.Op.{Entry}
use Rattle.docker_model.specs.state.Order.{bytes_cmp}
use Rattle.docker_model.specs.state.State.{State}
use Rattle.docker_laws.specs.ExcerptWalk.{names_in, HasKept}

-- says that these names are exactly the UIDs of the associated trains that the entries' live
-- associations name. The order of the names doesn't matter, and a name may occur more than once
abbrev pub AreNames : List (List ℕ) → List (Key × Entry) → Type 0
AreNames names entries = (uid : List ℕ) → Contains names uid ↔ Contains (names_in entries) uid

-- says which of these entries a walk has kept. `run` has the schedules of the current UID, and
-- `needed` says whether the walk will keep them. `names` has the UIDs of the associated trains that
-- the kept associations name. The walk sorts `names` when it comes to the first schedule
pub record IsWalk (place : List ℕ) (entries kept run : List (Key × Entry)) (needed : Bool) (names : List (List ℕ)) : Type 0 where
  pub has_kept : HasKept place entries kept run needed
  pub told : AreNames names kept
  pub sorted : (run ≡ []) ⊎ IsSorted bytes_cmp names

-- the state that has these entries, no ledger items and no horizon
abbrev pub state_of_entries : List (Key × Entry) → State
state_of_entries entries = record { horizon = 0; ledger = []; entries = entries }
