-- The result is the file that was read, with all its changes.
use Rattle.cif_laws.proofs.Common.{sym, subst}
use Rattle.cif_file.specs.SourceRead.{ReadsText}
use Rattle.cif_file.proofs.EndedLemmas.{reads_text, reads_parts}
use Rattle.cif_file.proofs.ReadLemmas.{wants_any}
use Rattle.cif_file.proofs.read.read_file.Goals as goal

pub into_file-requires : goal.into_file-requires
into_file-requires g c = reads_parts c.args.limit (g.S.Source.left c.args.source.now) c.in-Ok.ended c.requires.limit c.in-Ok.ensures.reads.outcome.0

pub returns-in-Ok-clause-reads : goal.returns-in-Ok-clause-reads
returns-in-Ok-clause-reads g c = record {
  no_further = c.in-Ok.ensures.reads.no_further;
  outcome = (
    subst (ReadsText c.args.limit (g.S.Source.left c.args.source.now)) (sym c.into_file.ensures) (reads_text _ _ _ c.in-Ok.ensures.reads.outcome.0),
    c.in-Ok.ensures.reads.outcome.1,
  );
  failures = c.in-Ok.ensures.reads.failures;
}

pub returns-in-Err-clause-reads : goal.returns-in-Err-clause-reads
returns-in-Err-clause-reads g c = wants_any _ _ _ _ _ _ _ c.in-Err.ensures.reads
