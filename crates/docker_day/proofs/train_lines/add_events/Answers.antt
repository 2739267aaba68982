use Rattle.cif_laws.proofs.Common.{◌++◌, ap, ◌∙◌, refl, codes, on_ok_weaker, tiploc_of_first}
use Rattle.docker_model.specs.docker.DockerLine.{ends}
use Rattle.train_choice.specs.UpTo.{occurrences_to}
use Rattle.docker_day.specs.Lines.{lines_there}
use Rattle.docker_day.proofs.TrainLines.{event_lines_are, no_event_lines}
use Rattle.docker_day.proofs.UpToLast.{lines_to_last}
use Rattle.docker_day.proofs.train_lines.add_events.Goals as goal

pub returns-in-Some : goal.returns-in-Some
returns-in-Some c =
    let key = c.args.train.now.key in
    let lines = c.args.train.now.lines in
    on_ok_weaker c.add_there.result
    (λ same. same ∙ ap (λ more. c.args.lines.now.items ++ more)
    ((λ i. lines_there c.args.place.now c.args.day c.args.start key (c.in-Some.ensures.ends i) (occurrences_to c.args.place.now lines))
    ∙ lines_to_last c.args.place.now c.args.day c.args.start key (ends (tiploc_of_first (codes "LO") lines) (tiploc_of_first (codes "LT") lines)) lines
    ∙ event_lines_are c.args.place.now c.args.day c.args.start key lines))
    c.add_there.ensures

pub returns-in-None : goal.returns-in-None
returns-in-None c =
    no_event_lines c.args.place.now c.args.day c.args.start c.args.train.now.key c.args.train.now.lines c.args.lines.now.items (c.in-None.ensures.none refl)
