-- Lemmas on permanent dockers, which are the dockers of tables without the short-term plan.
use Rattle.cif_laws.proofs.Common.{◌≡◌, ℕ, List, [], ◌∷◌, refl, ap, sym, ◌∙◌, subst, Bool, true, false, cond, arith, rules, ◌↔◌, filter, fold, eqb-true, Change}
use Rattle.cif_laws.proofs.Common.{IsDay, IsDayRefused, lapse_table, State, live_table, IsSummary, Table, IsPlainTable, after_change, DockerLine, IsDockerText}
use Rattle.cif_laws.proofs.Common.{permanent_table, AreFiles, HaveSameFiles}
use Rattle.docker_model.specs.docker.Permanent.{is_permanent}
use Rattle.cif_laws.proofs.orders.Orders.{same_key}
use Rattle.docker_laws.specs.Gathering.{IsDockerLine}
use Rattle.state_laws.proofs.states.CountedRows.{counted_bodies, was_counted}
use Rattle.docker_laws.proofs.dockers.TextsOfFiles.{StaysLapsed, text_is_plain, text_of_files}
use Rattle.docker_laws.proofs.dockers.PrintedDocker.{docker_lapses, one_text}

-- ---- leaving out the short-term plan commutes with applying changes

-- applying a change whose key passes `is_permanent` commutes with leaving out the short-term plan.
-- A change to any other key leaves the permanent table unchanged
after_one : (table : Table) (change : Change)
    → permanent_table (after_change table change)
    ≡ cond (is_permanent change.key) (after_change (permanent_table table) change) (permanent_table table)
after_one = search (rules, same_key)

-- applying changes and then leaving out the short-term plan gives the same table as leaving it out
-- first and then applying only the changes whose keys pass `is_permanent`
pub permanent_along : (table : Table) (changes : List Change)
    → permanent_table (fold after_change table changes)
    ≡ fold after_change (permanent_table table) (filter (λ (it : Change). is_permanent it.key) changes)
permanent_along table [] = refl
permanent_along table (change ∷ changes) = permanent_along (after_change table change) changes ∙ by (is_permanent change.key) (after_one table change)
  where
    kept : List Change
    kept = filter (λ (it : Change). is_permanent it.key) changes

    by : (b : Bool) → permanent_table (after_change table change) ≡ cond b (after_change (permanent_table table) change) (permanent_table table)
        → fold after_change (permanent_table (after_change table change)) kept ≡ fold after_change (permanent_table table) (cond b (change ∷ kept) kept)
    by true same = ap (λ (t : Table). fold after_change t kept) same
    by false same = ap (λ (t : Table). fold after_change t kept) same

-- ---- each line of a permanent docker has the STP indicator P

-- each line of a permanent docker has the STP indicator P
pub permanent_line : (live : Table) (place : List ℕ) (day : ℕ) (line : DockerLine) → IsDockerLine (permanent_table live) place day line → line.indicator ≡ 80
permanent_line = grind (arith, was_counted, eqb-true)

-- ---- lapsing commutes with leaving out the short-term plan

-- lapsing commutes with leaving out the short-term plan
pub lapses_alike : (horizon : ℕ) (live : Table) → permanent_table (lapse_table horizon live) ≡ lapse_table horizon (permanent_table live)
lapses_alike = search rules

-- the text is the permanent docker of the table for this place
abbrev Permanent : List ℕ → Table → ℕ → List ℕ → Type 0
Permanent place live day text = IsDockerText (permanent_table live) place day text

-- on each day from the third day after the horizon, a table has the same permanent docker before
-- and after its rows lapse
permanent_lapses : (place : List ℕ) → StaysLapsed (Permanent place)
permanent_lapses place horizon live day text is_day good from =
    subst (λ (t : Table). IsDockerText (permanent_table live) place day text ↔ IsDockerText t place day text) (sym (lapses_alike horizon live))
    (docker_lapses place horizon (permanent_table live) day text is_day (counted_bodies _ live good) from)

-- ---- the laws of permanent dockers

-- a permanent docker printed from a summary is the permanent docker of the plain table
pub permanent_is_plain : (files : List (List (List ℕ))) (horizon : ℕ) (state : State) (table : Table) (place : List ℕ) (day : ℕ) (text : List ℕ)
    → AreFiles files → IsDay horizon → IsSummary files horizon state → IsPlainTable files table → ¬ IsDayRefused horizon day
    → IsDockerText (permanent_table (live_table state)) place day text ↔ IsDockerText (permanent_table table) place day text
permanent_is_plain files horizon state table place day text = text_is_plain (Permanent place) (permanent_lapses place) _ _ _ _ _ _

-- two summaries of the same files have the same permanent docker for each place and each day,
-- unless the program refuses the docker because of a horizon
pub permanent_of_files : (files others : List (List (List ℕ))) (horizon theirs : ℕ) (one two : State) → AreFiles files → AreFiles others
    → HaveSameFiles files others → IsDay horizon → IsDay theirs → IsSummary files horizon one → IsSummary others theirs two
    → (place : List ℕ) (day : ℕ) → ¬ IsDayRefused horizon day → ¬ IsDayRefused theirs day → (text other : List ℕ)
    → IsDockerText (permanent_table (live_table one)) place day text → IsDockerText (permanent_table (live_table two)) place day other → text ≡ other
permanent_of_files files others horizon theirs one two are also same is_day day_too is that place =
    text_of_files (Permanent place) (permanent_lapses place) (λ live. one_text place (permanent_table live)) _ _ _ _ _ _ are also same is_day day_too is that
