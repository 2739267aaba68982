use Rattle.cif_laws.proofs.Common.{[], ◌∷◌, refl, inr}
use Rattle.docker_host.specs.History.{closed, opened}
use Rattle.docker_program.proofs.JobSourcesLemmas.{one_more}
use Rattle.docker_program.proofs.job_sources.read_files.Goals as goal

pub returns-clause-reads : goal.returns-clause-reads
returns-clause-reads g c = λ rest. inr (record {
  read = record {
    first = g.D.File.Source.left c.in-Ok.first;
    first_left = g.D.File.Source.left c.prepare-prepared.new.first;
    second = g.D.File.Source.left c.in-Ok-open.second;
    second_left = g.D.File.Source.left c.prepare-prepared.new.second;
  };
  history =
      let one = opened c.args.name.now (g.D.File.Source.left c.in-Ok.first) in
      let two = opened c.args.other.now (g.D.File.Source.left c.in-Ok-open.second) in
      let three = closed (g.D.File.Source.left c.prepare-prepared.new.first) in
      let four = closed (g.D.File.Source.left c.prepare-prepared.new.second) in
      let old = g.D.Folder.history c.args.folder.now in
      one_more old _ _ (one ∷ two ∷ three ∷ []) four
      (one_more old _ _ (one ∷ two ∷ []) three (one_more old _ _ (one ∷ []) two c.in-Ok.ensures.asked c.in-Ok-open.ensures.asked) c.close-2.ensures.asked)
      c.close-3.ensures.asked;
  others = refl;
  reads = c.prepare-prepared.ensures.reads.outcome;
})
