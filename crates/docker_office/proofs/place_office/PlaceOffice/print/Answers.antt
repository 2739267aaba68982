use Rattle.std.proofs.Common.{subst}
use Rattle.docker_model.specs.state.State.{live_table}
use Rattle.docker_day.specs.Dockers.{IsDockerOf}
use Rattle.docker_day.specs.DockerValue.{text_of}
use Rattle.docker_excerpt.specs.Values.{Excerpt}
use Rattle.docker_office.specs.declared.fault.OfficeFault.TheVariants.{Sink}
use Rattle.docker_office.proofs.OfficeLemmas.{of_ok, of_err}
use Rattle.docker_office.proofs.place_office.PlaceOffice.print.Goals as goal

pub returns-clause-ok : goal.returns-clause-ok
returns-clause-ok g c = λ done. record {
  text = text_of c.in_ok-docker.docker;
  is = c.write_docker.ensures.text (live_table c.args.self.now.state) c.args.self.now.place c.args.self.now.day
      (subst (λ (it : Excerpt). IsDockerOf (live_table it.state) it.place it.day c.in_ok-docker.docker) c.self.view_is c.in_ok-docker.ensures.ok);
  gained = of_ok _ c.write_docker.result c.map_err.result c.map_err.ensures.variant c.write_docker.ensures.whole done;
}

pub returns-clause-part : goal.returns-clause-part
returns-clause-part g c = λ failed. record {
  text = text_of c.in_ok-docker.docker;
  is = c.write_docker.ensures.text (live_table c.args.self.now.state) c.args.self.now.place c.args.self.now.day
      (subst (λ (it : Excerpt). IsDockerOf (live_table it.state) it.place it.day c.in_ok-docker.docker) c.self.view_is c.in_ok-docker.ensures.ok);
  gained = of_err _ c.write_docker.result c.map_err.result c.map_err.ensures.variant c.write_docker.ensures.part Sink failed;
}
