use Rattle.std.proofs.Common.{inr, refl, subst, sym, IsOk}
use Rattle.std.specs.Prelude.{⊤}
use Rattle.std.proofs.lemmas.Result.{err_from_is_err_and}
use Rattle.docker_office.specs.Office.{TakesFile}
use Rattle.docker_office.proofs.OfficeLemmas.{holds_file, knows_file_too, taken_whole, takes_file, untaken}
use Rattle.docker_office.proofs.office.Office.take.Goals as goal

pub returns-in_err-file-clause-takes : goal.returns-in_err-file-clause-takes
returns-in_err-file-clause-takes g c =
    let same = err_from_is_err_and c.from_residual.result c.from_residual.ensures.1 in
    let left = g.S.Source.left c.args.source.now in
    rw (same.1, same.2) (untaken c.args.limit (λ (_ : ⊤). TakesFile c.args.limit left c.args.self.now c.args.self.now) left
    (g.S.Source.left c.read_file.new.source)
    (g.S.Source.failures c.args.source.now) (g.S.Source.failures c.read_file.new.source) _ c.in_err-file.ensures.reads)

pub returns-in_default-clause-takes : goal.returns-in_default-clause-takes
returns-in_default-clause-takes g c = record {
  no_further = c.in_ok-file.ensures.reads.no_further;
  outcome = inr (holds_file c.args.limit (g.S.Source.left c.args.source.now) c.in_ok-file.file c.in_ok-file.ensures.reads.outcome.0);
  failures = c.in_ok-file.ensures.reads.failures;
}

pub returns-clause-takes : goal.returns-clause-takes
returns-clause-takes g c =
    taken_whole _ _ _ _ _ _ _ _ c.in_ok-file.ensures.reads (λ _ is. takes_file _ _ _ _ _ _ c.in_ok-file.ensures.reads.outcome.0
    c.in-Ok.ensures.ok (c.join.ensures.ok (subst IsOk (sym is) refl))) c.join.ensures.only

pub returns-clause-summary : goal.returns-clause-summary
returns-clause-summary g c = λ done files horizon is.
    knows_file_too _ _ _ _ _ _ (takes_file _ _ _ _ _ _ c.in_ok-file.ensures.reads.outcome.0 c.in-Ok.ensures.ok (c.join.ensures.ok done)) is
