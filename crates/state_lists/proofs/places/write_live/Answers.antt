use Rattle.cif_laws.proofs.Common.{List, ℕ, ap, subst, ◌∙◌, on_ok_weaker, on_err_weaker}
use Rattle.cif_device.specs.Device.{Takes, TakesPart}
use Rattle.cif_change.specs.Meaning.{body_meant, key_meant}
use Rattle.state_lists.proofs.Lines.{line_is}
use Rattle.state_lists.proofs.places.write_live.Goals as goal

pub returns-in-Tiploc-Tiploc-clause-whole : goal.returns-in-Tiploc-Tiploc-clause-whole
returns-in-Tiploc-Tiploc-clause-whole g c = on_ok_weaker c.write_all.result
    (subst (λ (bytes : List ℕ). Takes (g.K.Sink.taken c.args.sink.now) bytes (g.K.Sink.taken c.write_all.new.sink)) (line_is _ c.requires.valid _ _ _ _
    _ _ (ap key_meant c.in-Tiploc-Tiploc.is-0) (ap body_meant c.in-Tiploc-Tiploc.is-1) c.count_calling.ensures
    (c.as_slice.ensures.value ∙ c.line_of-line.ensures))) c.write_all.ensures.whole

pub returns-in-Tiploc-Tiploc-clause-part : goal.returns-in-Tiploc-Tiploc-clause-part
returns-in-Tiploc-Tiploc-clause-part g c = on_err_weaker c.write_all.result
    (subst (λ (bytes : List ℕ). TakesPart (g.K.Sink.taken c.args.sink.now) bytes (g.K.Sink.taken c.write_all.new.sink)) (line_is _ c.requires.valid _ _ _ _
    _ _ (ap key_meant c.in-Tiploc-Tiploc.is-0) (ap body_meant c.in-Tiploc-Tiploc.is-1) c.count_calling.ensures
    (c.as_slice.ensures.value ∙ c.line_of-line.ensures))) c.write_all.ensures.part
