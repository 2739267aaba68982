use Rattle.cif_laws.proofs.Common.{◌∙◌, sym, ap, rules}
use Rattle.docker_program.specs.SourceNames.{names_meant}
use Rattle.docker_program.proofs.JobSourcesLemmas.{reads_alone, reads_named, reads_none, reads_stdin}
use Rattle.docker_program.proofs.job_sources.read_sources.Goals as goal

pub returns-in-None-clause-reads : goal.returns-in-None-clause-reads
returns-in-None-clause-reads g c = reads_named _ _ _ _ (ap names_meant (sym c.in-None.is) ∙ c.names.ensures) (reads_none _ _ _ _ _ _ _ _
    (search rules) (search rules) c.prepare.ensures.reads.outcome)

pub returns-in-Stdin-clause-reads : goal.returns-in-Stdin-clause-reads
returns-in-Stdin-clause-reads g c = reads_named _ _ _ _ (ap names_meant (sym c.in-Stdin.is) ∙ c.names.ensures) (reads_stdin _ _ _ _ _
    _ _ (search rules) c.prepare-in-Stdin.ensures.reads.outcome)

pub returns-in-File-clause-reads : goal.returns-in-File-clause-reads
returns-in-File-clause-reads g c = reads_named _ _ _ _ (ap names_meant (sym c.in-File.is) ∙ c.names.ensures) (reads_alone _ _ _
    _ _ _ _ _ (search rules) c.read_file_and_second.ensures.reads)

pub returns-in-FileAndStdin-clause-reads : goal.returns-in-FileAndStdin-clause-reads
returns-in-FileAndStdin-clause-reads g c = reads_named _ _ _ _
    (ap names_meant (sym c.in-FileAndStdin.is) ∙ c.names.ensures) c.read_file_and_second-in-FileAndStdin.ensures.reads

pub returns-in-Files-clause-reads : goal.returns-in-Files-clause-reads
returns-in-Files-clause-reads g c = reads_named _ _ _ _
    (ap names_meant (sym c.in-Files.is) ∙ c.names.ensures) (c.read_files.ensures.reads (g.S.Source.left c.args.stdin.now))
