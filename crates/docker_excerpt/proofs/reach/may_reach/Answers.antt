-- The schedule doesn't run on the day. An event of it may be on the day if the schedule passes
-- midnight and runs on one of the two days before.
use Rattle.cif_laws.proofs.Common.{rules}
use Rattle.docker_excerpt.proofs.MidnightLemmas.{and_false, put_good}
use Rattle.docker_excerpt.proofs.reach.may_reach.Goals as goal

pub returns-then-not-runs_before : goal.returns-then-not-runs_before
returns-then-not-runs_before c = λ is.
    let same = c.number-day.ensures.value in
    let first = c.in-Some.ensures.some in
    search (rules, and_false, c.runs_on.ensures, c.runs_before.ensures)

pub returns : goal.returns
returns c = λ is.
    let same = c.number-day.ensures.value in
    let first = c.in-Some.ensures.some in
    let so = c.passes_midnight.ensures (put_good _ is) in
    search (rules, c.runs_on.ensures, c.runs_before.ensures)
