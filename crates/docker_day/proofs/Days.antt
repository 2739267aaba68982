-- The day of an event, and the lines for each start day.
use Rattle.cif_laws.proofs.Common.{◌≡◌, ℕ, ◌+◌, ◌-◌, ◌≤◌, ◌==◌, cond, List, [], ◌++◌, arith, eqb-true, rules, nat_le, flat_map}
use Rattle.docker_laws.proofs.dockers.ScheduleLines.{number_itself}
use Rattle.docker_laws.specs.Gathering.{start_days}

-- two comparisons of numbers have the same result if each implies the other
same_test : (a b c d : ℕ) → (a ≡ b → c ≡ d) → (c ≡ d → a ≡ b) → (a == b) ≡ (c == d)
same_test = search (rules, eqb-true, number_itself)

-- an event is on a day if and only if the number of midnights before the event equals the number of
-- days from the start day to that day
pub today_is : (day start falls : ℕ) → start ≤ day → (falls == day - start) ≡ (start + falls == day)
today_is day start falls low = same_test falls (day - start) (start + falls) day (λ same. omega arith) (λ same. omega arith)

-- the lines for the start days are the concatenation of three lists: the lines for the day, for the
-- day before it, and for the day two days before it
pub starts_split : {A : Type 0} (piece : ℕ → List A) (day : ℕ) → flat_map piece (start_days day)
    ≡ cond (nat_le 0 day) (piece (day - 0)) [] ++ (cond (nat_le 1 day) (piece (day - 1)) [] ++ (cond (nat_le 2 day) (piece (day - 2)) [] ++ []))
starts_split = search rules
