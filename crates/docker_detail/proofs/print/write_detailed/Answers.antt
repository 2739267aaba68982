use Rattle.cif_laws.proofs.Common.{ap, ◌+◌, ◌∙◌, refl, flat_map, on_ok_weaker, on_err_weaker, detailed_line, ended}
use Rattle.docker_detail.specs.Finding.{Detailed}
use Rattle.docker_day.proofs.Written.{as_often, last_failed, on_any_err, one_failed, all_taken, part_of_first, part_of_second, part_of_third}
use Rattle.docker_detail.proofs.Printed.{printed, heading_is}
use Rattle.docker_detail.proofs.print.write_detailed.Goals as goal

pub returns-in_err-write_all-clause-part : goal.returns-in_err-write_all-clause-part
returns-in_err-write_all-clause-part g c =
    on_any_err _ (part_of_first _ _ (g.K.Sink.taken c.write_all.new.sink) (g.K.Sink.taken c.write_all.new.sink) _ _ _ _ _ _ (heading_is _ _ _ _ _ _ _
    c.place.ensures c.day.ensures c.description.ensures c.padded_heading-heading.ensures) refl refl c.in_err-write_all.ensures.part)

pub returns-in_err-write_lines-clause-part : goal.returns-in_err-write_lines-clause-part
returns-in_err-write_lines-clause-part g c =
    on_any_err _ (part_of_second _ _ _ (g.K.Sink.taken c.write_lines.new.sink) _ _ _ _ _ _ (heading_is _ _ _ _ _ _ _
    c.place.ensures c.day.ensures c.description.ensures c.padded_heading-heading.ensures)
    (ap (flat_map (λ (line : Detailed). ended (detailed_line line))) c.lines.ensures) refl c.in_ok-write_all.ensures.whole c.in_err-write_lines.ensures.part)

pub returns-clause-whole : goal.returns-clause-whole
returns-clause-whole g c =
    on_ok_weaker c.write_all-2.result (all_taken _ _ _ _ _ _ _ _ _ _ (heading_is _ _ _ _ _ _ _
    c.place.ensures c.day.ensures c.description.ensures c.padded_heading-heading.ensures)
    (ap (flat_map (λ (line : Detailed). ended (detailed_line line))) c.lines.ensures) c.padded_last_line.ensures
    c.in_ok-write_all.ensures.whole c.in_ok-write_lines.ensures.whole) c.write_all-2.ensures.whole

pub returns-clause-part : goal.returns-clause-part
returns-clause-part g c =
    on_err_weaker c.write_all-2.result (part_of_third _ _ _ _ _ _ _ _ _ _ (heading_is _ _ _ _ _ _ _
    c.place.ensures c.day.ensures c.description.ensures c.padded_heading-heading.ensures)
    (ap (flat_map (λ (line : Detailed). ended (detailed_line line))) c.lines.ensures) c.padded_last_line.ensures
    c.in_ok-write_all.ensures.whole c.in_ok-write_lines.ensures.whole) c.write_all-2.ensures.part

pub returns-clause-text : goal.returns-clause-text
returns-clause-text g c = λ live place day. printed live place day c.args.docker.now

pub returns-in_err-write_all-clause-text : goal.returns-in_err-write_all-clause-text
returns-in_err-write_all-clause-text g c = λ live place day. printed live place day c.args.docker.now

pub returns-in_err-write_lines-clause-text : goal.returns-in_err-write_lines-clause-text
returns-in_err-write_lines-clause-text g c = λ live place day. printed live place day c.args.docker.now

pub returns-in_err-write_all-clause-failures : goal.returns-in_err-write_all-clause-failures
returns-in_err-write_all-clause-failures g c = one_failed _ _ _ _ c.from_residual.ensures.1 c.in_err-write_all.ensures.counted

pub returns-in_err-write_lines-clause-failures : goal.returns-in_err-write_lines-clause-failures
returns-in_err-write_lines-clause-failures g c = one_failed _ _ _ _
    c.from_residual-in_err-write_lines.ensures.1 (c.in_err-write_lines.ensures.failures.0.0 refl ∙ ap (λ n. n + 1) c.in_ok-write_all.ensures.no_failure)

pub returns-clause-failures : goal.returns-clause-failures
returns-clause-failures g c = last_failed _ _ _ _ (as_often _ _ c.in_ok-write_lines.ensures.failures
    ∙ c.in_ok-write_all.ensures.no_failure) c.write_all-2.ensures.no_failure c.write_all-2.ensures.counted
