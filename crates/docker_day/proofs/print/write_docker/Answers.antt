use Rattle.cif_laws.proofs.Common.{ap, ◌+◌, ◌∙◌, refl, rules, flat_map, on_ok_weaker, on_err_weaker, DockerLine, line_text, ended}
use Rattle.docker_day.proofs.Written.{as_often, last_failed, on_any_err, one_failed, all_taken, part_of_first, part_of_second, part_of_third}
use Rattle.docker_day.proofs.Printed.{printed, heading_is}
use Rattle.docker_day.proofs.print.write_docker.Goals as goal

pub returns-in_err-write_all : goal.returns-in_err-write_all
returns-in_err-write_all g c = record {
  whole = search rules;
  text = λ live place day. printed live place day c.args.docker.now;
  part = on_any_err _ (part_of_first _ _ (g.K.Sink.taken c.write_all.new.sink) (g.K.Sink.taken c.write_all.new.sink) _ _ _ _ _ _
      (heading_is _ _ _ _ _ _ _ c.place.ensures c.day.ensures c.description.ensures c.heading-heading.ensures) refl refl c.in_err-write_all.ensures.part);
  failures = one_failed _ _ _ _ c.from_residual.ensures.1 c.in_err-write_all.ensures.counted;
}

pub returns-in_err-write_lines : goal.returns-in_err-write_lines
returns-in_err-write_lines g c = record {
  whole = search rules;
  text = λ live place day. printed live place day c.args.docker.now;
  part = on_any_err _ (part_of_second _ _ _ (g.K.Sink.taken c.write_lines.new.sink) _ _ _ _ _ _
      (heading_is _ _ _ _ _ _ _ c.place.ensures c.day.ensures c.description.ensures c.heading-heading.ensures)
      (ap (flat_map (λ (line : DockerLine). ended (line_text line))) c.lines.ensures) refl c.in_ok-write_all.ensures.whole c.in_err-write_lines.ensures.part);
  failures = one_failed _ _ _ _ c.from_residual-in_err-write_lines.ensures.1
      (c.in_err-write_lines.ensures.failures.0.0 refl ∙ ap (λ n. n + 1) c.in_ok-write_all.ensures.no_failure);
}

pub returns : goal.returns
returns g c =
    let heading = heading_is _ _ _ _ _ _ _ c.place.ensures c.day.ensures c.description.ensures c.heading-heading.ensures in
    let lines = ap (flat_map (λ (line : DockerLine). ended (line_text line))) c.lines.ensures in
    record {
      whole = on_ok_weaker c.write_all-2.result (all_taken _ _ _ _ _ _ _ _ _ _ heading lines c.last_line.ensures
          c.in_ok-write_all.ensures.whole c.in_ok-write_lines.ensures.whole) c.write_all-2.ensures.whole;
      text = λ live place day. printed live place day c.args.docker.now;
      part = on_err_weaker c.write_all-2.result (part_of_third _ _ _ _ _ _ _ _ _ _ heading lines c.last_line.ensures
          c.in_ok-write_all.ensures.whole c.in_ok-write_lines.ensures.whole) c.write_all-2.ensures.part;
      failures = last_failed _ _ _ _ (as_often _ _ c.in_ok-write_lines.ensures.failures
          ∙ c.in_ok-write_all.ensures.no_failure) c.write_all-2.ensures.no_failure c.write_all-2.ensures.counted;
    }
