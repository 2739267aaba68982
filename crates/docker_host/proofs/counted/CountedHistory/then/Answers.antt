-- One more event is counted.
use Rattle.std.proofs.Common.{[], ◌∷◌, length, ap, subst, sym, ◌∙◌, length-append}
use Rattle.docker_host.specs.Counts.{IsCountOf}
use Rattle.docker_host.specs.Notes.{event_of}
use Rattle.docker_host.proofs.counted.CountedHistory.then.Goals as goal

pub invariant_of-result : goal.invariant_of-result
invariant_of-result c =
    subst (IsCountOf c.next_count.result)
    (sym (ap length c.then.ensures ∙ length-append _ (event_of c.args.note.now ∷ [])))
    (c.next_count.ensures (length c.self.inside.history.events) c.self.invariant)
