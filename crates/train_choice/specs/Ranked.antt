-- The order in which schedules and associations are chosen: by the STP indicator in alphabetical
-- order, and then by the first date, the latest first.
use Rattle.std.specs.Prelude.{ℕ, Bool, true, ◌==◌, Option, Some, None}
use Rattle.std.specs.declared.cmp.Ordering.{Ordering}
use Rattle.std.specs.Ordering.{is_lt}
use Rattle.cif_line.specs.Letter.{stp_letter}
use Rattle.cif_line.specs.declared.letter.Stp.{Stp}
use Rattle.cif_line.specs.declared.letter.Stp.TheVariants.{Cancellation}
use Rattle.docker_model.specs.docker.Choice.{choice_cmp}

-- the order of choice for values that have an STP indicator's letter and a first date. `rank`
-- returns both
abbrev pub rank_cmp : {A : Type 0} → (A → ℕ × ℕ) → A → A → Ordering
rank_cmp rank a b = choice_cmp (rank a).0 (rank a).1 (rank b).0 (rank b).1

-- converts a pair of an STP indicator and a first date: the indicator becomes its letter
abbrev pub rank_meant : Stp × ℕ → ℕ × ℕ
rank_meant rank = (stp_letter rank.0, rank.1)

-- whether `more` comes before the best value in the order of choice, or there is no best value yet
abbrev pub is_better : {A : Type 0} → (A → A → Ordering) → A → Option A → Bool
is_better cmp more None = true
is_better cmp more (Some best) = is_lt (cmp more best)

-- whether the STP indicator is `C`, for a cancellation
abbrev pub is_cancellation : ℕ → Bool
is_cancellation indicator = indicator == stp_letter Cancellation
