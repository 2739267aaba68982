use Rattle.cif_laws.proofs.Common.{◌≡◌, length, rules, subst, sym, ◌≤◌, schedule_body, put_with}
use Rattle.state_index.specs.NamedPlaces.{call_places}
use Rattle.docker_join.specs.Meaning.{op_meant}
use Rattle.state_index.proofs.Surveyed.{few_calls}
use Rattle.state_index.proofs.survey.most_calls.Goals as goal

pub returns-in-Put-Schedule : goal.returns-in-Put-Schedule
returns-in-Put-Schedule c = λ key.
    let op : op_meant c.args.op.now ≡ put_with (schedule_body c.in-Put-Schedule.lines) = search rules in
    subst (λ count. length (call_places key (op_meant c.args.op.now)) ≤ count) (sym c.len.ensures) (few_calls _ _ op _)
