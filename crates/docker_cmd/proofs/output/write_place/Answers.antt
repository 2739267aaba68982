use Rattle.docker_cmd.proofs.OutputLemmas.{docker_ends}
use Rattle.docker_cmd.proofs.output.write_place.Goals as goal

pub returns-clause-ends : goal.returns-clause-ends
returns-clause-ends g c =
    docker_ends g.K.Sink.taken g.K.Sink.failures c.args.office.now.state c.args.office.now.place c.args.office.now.day c.args.sink.now c.print.new.sink
    c.print.result
    c.print.ensures.ok c.print.ensures.part c.print.ensures.lapsed.0 c.print.ensures.lapsed.1 c.print.ensures.unwritten
    c.print.ensures.failures.0.0 c.print.ensures.failures.1 c.print.ensures.only
