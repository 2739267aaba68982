use Rattle.cif_laws.proofs.Common.{ap, ◌∙◌}
use Rattle.docker_laws.specs.Gathering.{identity_of}
use Rattle.docker_state.specs.Timetables.{live_in}
use Rattle.train_choice.proofs.Known.{one_more_identity}
use Rattle.train_choice.proofs.identities.Identities.look_up.Goals as goal

pub invariant_of-self-2 : goal.invariant_of-self-2
invariant_of-self-2 c =
    one_more_identity (live_in c.self.inside.timetable) c.self.inside.known c.insert.new.self c.args.uid.now c.args.day c.identity_of-identity.result
    c.self.invariant c.in_ok-insert.ensures.updates (λ rows are. c.identity_of-identity.ensures ∙ ap identity_of (c.train_on.ensures rows are))
