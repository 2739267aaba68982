use Rattle.state_laws.proofs.states.OnePlainTable.{some_plain_table}
use Rattle.docker_office.proofs.EndedRuns.{plain_prints}
use Rattle.docker_office.proofs.headline.dockers_are_of_the_plain_table.Goals as goal

pub returns : goal.returns
returns c = λ known state end distinct.
    let plain = some_plain_table _ distinct in
    (plain.0, plain.1, plain_prints _ _ end _ plain.1)
