use Rattle.cif_laws.proofs.Common.{List, ℕ, ap, subst, ◌∙◌, on_err_weaker}
use Rattle.cif_device.specs.Device.{TakesPart}
use Rattle.cif_change.specs.Meaning.{schedule_key_meant}
use Rattle.docker_train.specs.TrainRows.{Listing}
use Rattle.docker_train.proofs.WrittenRows.{line_told}
use Rattle.docker_train.proofs.trains.write_schedule.Goals as goal

pub returns-then-has-clause-part : goal.returns-then-has-clause-part
returns-then-has-clause-part g c = λ rows are.
    on_err_weaker c.write_all.result
    (subst (λ (bytes : List ℕ). TakesPart (g.K.Sink.taken c.args.sink.now) bytes (g.K.Sink.taken c.write_all.new.sink))
    (line_told rows c.args.listing.now.identity c.args.listing.now.day c.args.train.now c.day.result (schedule_key_meant c.key.result.now) c.has.result
    c.text_of_train.result (c.day.ensures ∙ ap (λ (l : Listing). l.day) c.has.ensures.same) c.key.ensures (c.has.ensures.answer rows are) c.if-has.true
    c.text_of_train.ensures))
    c.write_all.ensures.part
