use Rattle.cif_laws.proofs.Common.{refl, inr}
use Rattle.docker_program.proofs.JobSourcesLemmas.{one_more}
use Rattle.docker_program.proofs.job_sources.read_file_and_second.Goals as goal

pub returns-clause-reads : goal.returns-clause-reads
returns-clause-reads g c = inr (record {
  read = record {
    first = g.D.File.Source.left c.in-Ok.file;
    first_left = g.D.File.Source.left c.prepare-prepared.new.first;
    second = g.T.Source.left c.args.second.now;
    second_left = g.T.Source.left c.prepare-prepared.new.second;
  };
  history = one_more _ _ _ _ _ c.in-Ok.ensures.asked c.close.ensures.asked;
  others = (refl, refl);
  reads = c.prepare-prepared.ensures.reads.outcome;
})
