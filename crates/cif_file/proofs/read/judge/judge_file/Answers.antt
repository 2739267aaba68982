-- The result has the counts of the file that was read.
use Rattle.cif_laws.proofs.Common.{sym, subst}
use Rattle.cif_file.specs.SourceRead.{CountsText}
use Rattle.cif_file.proofs.EndedLemmas.{reads_count, reads_counted}
use Rattle.cif_file.proofs.ReadLemmas.{wants_none}
use Rattle.cif_file.proofs.read.judge.judge_file.Goals as goal

pub into_count-requires : goal.into_count-requires
into_count-requires g c = reads_counted c.args.limit (g.S.Source.left c.args.source.now) c.in-Ok.ended c.requires.limit c.in-Ok.ensures.reads.outcome.0

pub returns-in-Ok-clause-reads : goal.returns-in-Ok-clause-reads
returns-in-Ok-clause-reads g c = record {
  no_further = c.in-Ok.ensures.reads.no_further;
  outcome = (
    subst (CountsText c.args.limit (g.S.Source.left c.args.source.now)) (sym c.into_count.ensures)
        (reads_count _ _ _ c.requires.limit c.in-Ok.ensures.reads.outcome.0),
    c.in-Ok.ensures.reads.outcome.1,
  );
  failures = c.in-Ok.ensures.reads.failures;
}

pub returns-in-Err-clause-reads : goal.returns-in-Err-clause-reads
returns-in-Err-clause-reads g c = wants_none _ _ _ _ _ _ c.in-Err.ensures.reads
