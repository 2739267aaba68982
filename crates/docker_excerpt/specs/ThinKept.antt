-- Defines what a reader keeps of a file's changes for the docker of one place on one day.
use Rattle.std.specs.Prelude.{◌≡◌, ℕ, Bool, true, false, ⊤, List, [], ◌∷◌, ◌++◌, Contains}
use Rattle.std.specs.BTreeSet as set
use Rattle.std.specs.BTreeSet.{BTreeSet}
use Rattle.docker_model.specs.records.Field.{is_deletion}
use Rattle.docker_model.specs.file.File.{IsSchedule}
use Rattle.docker_model.specs.file.Change.{Change}
use Rattle.docker_model.specs.file.Change as model
use Rattle.docker_laws.specs.NearDay.{runs_near}
use Rattle.docker_laws.specs.Thinning.{IsThinning}
use Rattle.cif_change.specs.declared.key.Key.TheVariants as key
use Rattle.cif_change.specs.declared.key.ScheduleKey.{ScheduleKey}
use Rattle.cif_change.specs.contracts.key.ScheduleKeyOrd.TheImpl as order
use Rattle.std.specs.declared.cmp.Ordering.{Ordering}
use Rattle.cif_change.specs.JourneyRead.{progress_meant, HasLines}
use Rattle.cif_change.specs.Meaning.{key_meant}
use Rattle.cif_file.specs.declared.keeper.opened.Opened.{Opened}
use Rattle.docker_excerpt.specs.declared.thinned.Thinned.{Thinned}
use Rattle.docker_excerpt.specs.declared.thin_kept.ThinSoFar.{ThinSoFar}
use Rattle.cif_file.specs.KeeperRead.{change_opened, with_new_first}
use Rattle.docker_excerpt.specs.Elsewhere.{all_kept, HaveSame}

abbrev Lines : Type 0
Lines = List (List ℕ)

-- the code's order of the keys of schedules
abbrev pub schedule_cmp : ScheduleKey → ScheduleKey → Ordering
schedule_cmp = order.cmp-value.it

-- whether a set has a key
abbrev pub has_key : BTreeSet ScheduleKey → ScheduleKey → Bool
has_key keys key = set.contains schedule_cmp keys key

-- Says that a set still has all keys that it had before, and now has this key too if it is the key of a schedule.
pub record KnowsMore (old : BTreeSet ScheduleKey) (added : model.Key) (new : BTreeSet ScheduleKey) : Type 0 where
  pub still : (one : ScheduleKey) → has_key old one ≡ true → has_key new one ≡ true
  pub also : (one : ScheduleKey) → key_meant (key.Schedule one) ≡ added → has_key new one ≡ true

-- the kept changes, with another set of keys
abbrev pub with_keys : Thinned → BTreeSet ScheduleKey → Thinned
with_keys thinned keys = record {
  alloc = thinned.alloc;
  place = thinned.place;
  day = thinned.day;
  keys = keys;
  made = thinned.made;
  elsewhere = thinned.elsewhere;
}

-- Says that a set has the keys of the schedules that these changes change.
abbrev pub HasKeysOf : BTreeSet ScheduleKey → List Change → Type 0
HasKeysOf keys kept = (change : Change) → Contains kept change → (one : ScheduleKey) → key_meant (key.Schedule one) ≡ change.key → has_key keys one ≡ true

-- Says that a thinning of these changes for the place and the day was kept, though perhaps in another order or number. Also says that the keys of all kept
-- changes to schedules are in the set.
pub record HasThinned (place : List ℕ) (day : ℕ) (thinned : Thinned) (all : List Change) : Type 0 where
  pub place_is : thinned.place ≡ place
  pub day_is : thinned.day ≡ day
  pub kept : List Change
  pub made : HaveSame kept (all_kept place thinned.made thinned.elsewhere)
  pub thinning : IsThinning place day all kept
  pub known : HasKeysOf thinned.keys kept

-- Says that the changes `more` were received. If the kept changes were a thinning of some changes, they are now a thinning of those changes followed by `more`.
abbrev pub ThinsAll : List ℕ → ℕ → Thinned → List Change → Thinned → Type 0
ThinsAll place day old more new = (all : List Change) → HasThinned place day old all → HasThinned place day new (all ++ more)

-- Says that one change was received. If the kept changes were a thinning of some changes, they are now a thinning of those changes followed by this change.
abbrev pub Thins : List ℕ → ℕ → Thinned → Change → Thinned → Type 0
Thins place day old change new = ThinsAll place day old (change ∷ []) new

-- Says that `runs` is true if and only if the schedule with these lines runs near the day. For a
-- deletion `runs` may have either value.
abbrev pub SaysRunsNear : ℕ → Lines → Bool → Type 0
SaysRunsNear day [] runs = ⊤
SaysRunsNear day (basic ∷ others) runs = is_deletion basic ≡ false → runs ≡ runs_near day basic

-- Says that the change of this schedule was received. If the kept changes were a thinning of some changes, they are now a thinning of those changes followed by
-- this change.
abbrev pub ThinsOpened : List ℕ → ℕ → Thinned → Opened → Bool → Lines → Thinned → Type 0
ThinsOpened place day old opened runs renewed new =
    (lines : Lines) → renewed ≡ with_new_first lines → HasLines (progress_meant opened.progress) lines → IsSchedule lines → SaysRunsNear day lines runs
    → Thins place day old (change_opened opened lines) new

-- Says that the keeper has these lines, with the transaction of the first set to N. It also has a thinning of the changes for the place and the day. For
-- proofs, the keeper also has the list of all changes.
pub record KeepsThin {P : Type 0} (place : List ℕ) (day : ℕ) (keeper : ThinSoFar P) (lines : Lines) (all : List Change) : Type 0 where
  pub lines_are : keeper.open.lines.items ≡ with_new_first lines
  pub runs_near_is : SaysRunsNear day lines keeper.runs_near
  pub thinned : HasThinned place day keeper.thinned all
  pub so_far : keeper.so_far.changes ≡ all
