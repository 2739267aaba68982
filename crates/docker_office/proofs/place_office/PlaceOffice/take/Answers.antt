-- In contracts, the value of the new office includes the state of the file whose text the source
-- held.
use Rattle.std.proofs.Common.{inr, sym}
use Rattle.std.proofs.lemmas.Result.{err_from_is_err_and}
use Rattle.docker_excerpt.specs.Values.{Excerpt}
use Rattle.docker_office.specs.Office.{TakesFile, no_state}
use Rattle.docker_office.proofs.OfficeLemmas.{holds_file, takes_whole, untaken}
use Rattle.docker_office.proofs.place_office.PlaceOffice.take.Goals as goal

pub of_file-requires-clause-place : goal.of_file-requires-clause-place
of_file-requires-clause-place g c = sym c.in_ok-file.ensures.reads.outcome.0.place_is

pub of_file-requires-clause-day : goal.of_file-requires-clause-day
of_file-requires-clause-day g c = sym c.in_ok-file.ensures.reads.outcome.0.day_is

pub returns-in_err-file-clause-takes : goal.returns-in_err-file-clause-takes
returns-in_err-file-clause-takes g c =
    let same = err_from_is_err_and c.from_residual.result c.from_residual.ensures.1 in
    let left = g.S.Source.left c.args.source.now in
    rw (same.1, same.2) (untaken c.args.limit (λ (office : Excerpt). TakesFile c.args.limit left no_state office.state) left
    (g.S.Source.left c.read_thin.new.source)
    (g.S.Source.failures c.args.source.now) (g.S.Source.failures c.read_thin.new.source) _ c.in_err-file.ensures.reads)

pub returns-in-Err-clause-takes : goal.returns-in-Err-clause-takes
returns-in-Err-clause-takes g c = record {
  no_further = c.in_ok-file.ensures.reads.no_further;
  outcome = inr (holds_file c.args.limit (g.S.Source.left c.args.source.now) c.in_ok-file.file.file c.in_ok-file.ensures.reads.outcome.0.reads);
  failures = c.in_ok-file.ensures.reads.failures;
}

pub returns-in-Ok-clause-takes : goal.returns-in-Ok-clause-takes
returns-in-Ok-clause-takes g c = record {
  no_further = c.in_ok-file.ensures.reads.no_further;
  outcome = (
    takes_whole _ _ _ _ c.in_ok-file.ensures.reads.outcome.0.reads c.requires.limit c.in-Ok.ensures.state,
    c.in_ok-file.ensures.reads.outcome.1,
  );
  failures = c.in_ok-file.ensures.reads.failures;
}
