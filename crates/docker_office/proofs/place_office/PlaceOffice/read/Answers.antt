use Rattle.std.proofs.Common.{ap}
use Rattle.std.proofs.lemmas.Result.{err_from_is_err_and}
use Rattle.docker_excerpt.specs.Values.{Excerpt}
use Rattle.docker_office.proofs.OfficeLemmas.{one_excerpt, state_read, unread_by_office}
use Rattle.docker_office.proofs.place_office.PlaceOffice.read.Goals as goal

pub returns-clause-reads : goal.returns-clause-reads
returns-clause-reads g c =
    let read = c.in_ok-excerpt.ensures.reads in
    record {
      few = read.few;
      outcome = state_read c.args.place c.args.day c.args.limit (g.S.Source.left c.args.source.now) c.in_ok-excerpt.excerpt read.outcome;
      failures = read.failures;
    }

pub returns-clause-sent : goal.returns-clause-sent
returns-clause-sent g c = one_excerpt _ _ _ _ _ c.in_ok-excerpt.ensures.reads.outcome

pub returns-clause-place : goal.returns-clause-place
returns-clause-place g c = ap (λ (it : Excerpt). it.place) c.in_ok-excerpt.ensures.reads.outcome.of.made_of

pub returns-clause-day : goal.returns-clause-day
returns-clause-day g c = ap (λ (it : Excerpt). it.day) c.in_ok-excerpt.ensures.reads.outcome.of.made_of

pub returns-in_err-excerpt-clause-reads : goal.returns-in_err-excerpt-clause-reads
returns-in_err-excerpt-clause-reads g c =
    let same = err_from_is_err_and c.from_residual.result c.from_residual.ensures.1 in
    rw (same.1, same.2) (unread_by_office g.S.Source.left g.S.Source.failures _ _ _ _ _ c.in_err-excerpt.ensures.reads)
