-- The result is a thin file made from the file that was read.
use Rattle.cif_laws.proofs.Common.{sym, subst}
use Rattle.docker_excerpt.specs.ThinEnded.{ReadsThin}
use Rattle.docker_excerpt.proofs.ThinEnds.{reads_thin, reads_thin_parts}
use Rattle.cif_file.proofs.ReadLemmas.{wants_any}
use Rattle.docker_excerpt.proofs.reading.thin_at.Goals as goal

pub thin_of-requires : goal.thin_of-requires
thin_of-requires g c = reads_thin_parts _ _ _ _ _ c.requires.limit c.in-Ok.ensures.reads.outcome.0

pub returns-in-Ok-clause-reads : goal.returns-in-Ok-clause-reads
returns-in-Ok-clause-reads g c = record {
  no_further = c.in-Ok.ensures.reads.no_further;
  outcome = (
    subst (ReadsThin c.args.place c.args.day c.args.limit (g.S.Source.left c.args.source.now)) (sym c.thin_of.ensures) (reads_thin _ _ _ _ _ _ _
        c.requires.place c.requires.day c.in-Ok.ensures.reads.outcome.0),
    c.in-Ok.ensures.reads.outcome.1,
  );
  failures = c.in-Ok.ensures.reads.failures;
}

pub returns-in-Err-clause-reads : goal.returns-in-Err-clause-reads
returns-in-Err-clause-reads g c = wants_any _ _ _ _ _ _ _ c.in-Err.ensures.reads
