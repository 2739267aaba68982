-- On which of three days a schedule runs. The three days are a given day and the two days before
-- it. The runs-from date in the schedule's key and two fields of its basic schedule determine on
-- which of these days it runs.
use Rattle.cif_laws.proofs.Common.{◌≡◌, ℕ, ◌-◌, ◌<◌, Bool, true, false, List, sym, ◌∙◌, ◌⊎◌, inl, inr, arith, rules, ◌&&◌, ◌||◌, not, nat_le, nat_lt, lt-leb}
use Rattle.cif_laws.proofs.Common.{ltb-true, columns, first_record, ScheduleKey, IsScheduleOf}
use Rattle.train_choice.specs.RecentRuns.{AreRecentRuns, runs_back, runs_back_by_fields, marked_back, may_run_recently}
use Rattle.train_choice.specs.declared.recent_runs.RecentRuns.{RecentRuns}
use Rattle.train_choice.proofs.KeptLines.{runs_by_key}

-- if two tests are equal for every number of days back, flags that are correct for the first test
-- are correct for the second test
pub same_recent_runs : (test other : ℕ → Bool) (recent : RecentRuns) → ((back : ℕ) → test back ≡ other back) → AreRecentRuns test recent
    → AreRecentRuns other recent
same_recent_runs = search rules

-- in this conjunction of four tests, the last two tests may be exchanged
four_tests : (a b c e : Bool) → ((a && (b && c)) && e) ≡ (a && (b && (e && c)))
four_tests = search rules

-- the runs-from date in the key and two fields of the basic schedule determine whether a schedule
-- runs
pub recent_runs_are : (key : ScheduleKey) (lines : List (List ℕ)) (day : ℕ) → IsScheduleOf key lines
    → (back : ℕ) → runs_back_by_fields (first_record lines) key.runs_from day back ≡ runs_back lines day back
recent_runs_are = search (rules, four_tests, runs_by_key)

-- if the second of four tests fails, or the first and the third don't both pass, the conjunction of
-- the four tests is false
idle_of : (a b c e : Bool) → (b ≡ false) ⊎ ((a && c) ≡ false) → ((a && (b && c)) && e) ≡ false
idle_of = search rules

-- a schedule that begins after a day runs neither on that day nor on any day before it
never_yet : (key : ScheduleKey) (lines : List (List ℕ)) (day : ℕ) → IsScheduleOf key lines → day < key.runs_from
    → (back : ℕ) → runs_back lines day back ≡ false
never_yet key lines day of late back = sym (recent_runs_are key lines day of back)
    ∙ idle_of (nat_le back day) _ _ _ (inl (lt-leb key.runs_from (day - back) (omega arith)))

-- the three flags that are computed from the key and the fields of a schedule are correct for the
-- schedule
pub recent_runs_told : (key : ScheduleKey) (lines : List (List ℕ)) (line : List ℕ) (first day : ℕ) (recent : RecentRuns) → IsScheduleOf key lines
    → line ≡ first_record lines → first ≡ key.runs_from → AreRecentRuns (runs_back_by_fields line first day) recent → AreRecentRuns (runs_back lines day) recent
recent_runs_told = search (rules, same_recent_runs, recent_runs_are)

-- a schedule that begins after the day runs neither on the day nor on one of the two days before
-- it, so three false flags are correct for the schedule
pub never_told : (key : ScheduleKey) (lines : List (List ℕ)) (first day : ℕ) (recent : RecentRuns) → IsScheduleOf key lines
    → first ≡ key.runs_from → nat_lt day first ≡ true → AreRecentRuns (λ back. false) recent → AreRecentRuns (runs_back lines day) recent
never_told key lines first day recent of first_is late are =
    let behind = ltb-true day first late in
    same_recent_runs (λ back. false) (runs_back lines day) recent (λ back. sym (never_yet key lines day of (omega arith) back)) are

late_or_idle : (late a b c : Bool) → (not late && (a || b || c)) ≡ false → (late ≡ true) ⊎ ((a ≡ false) × (b ≡ false) × (c ≡ false))
late_or_idle = search rules

-- if `may_run_recently` is false, the schedule runs neither on the day nor on one of the two days
-- before it
pub idle_recently : (key : ScheduleKey) (lines : List (List ℕ)) (day : ℕ) → IsScheduleOf key lines → may_run_recently key lines day ≡ false
    → (runs_back lines day 0 ≡ false) × (runs_back lines day 1 ≡ false) × (runs_back lines day 2 ≡ false)
idle_recently key lines day of never = elim (late_or_idle (nat_lt day key.runs_from) (marked 0) (marked 1) (marked 2) never) [
  | inl late ↦ let none = never_yet key lines day of (ltb-true day key.runs_from late) in (none 0, none 1, none 2)
  | inr unmarked ↦ (idle 0 unmarked.0, idle 1 unmarked.1, idle 2 unmarked.2)
]
  where
    marked : ℕ → Bool
    marked = marked_back (columns 22 28 (first_record lines)) day

    idle : (back : ℕ) → marked back ≡ false → runs_back lines day back ≡ false
    idle back none = sym (recent_runs_are _ lines _ of back) ∙ idle_of (nat_le back day) _ _ _ (inr none)
