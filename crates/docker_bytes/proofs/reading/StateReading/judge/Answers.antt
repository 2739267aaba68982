use Rattle.std.proofs.Common.{refl, sym, subst, ◌∙◌, inl, inr, arith}
use Rattle.docker_bytes.specs.StateReading.{IsPartRefused}
use Rattle.docker_bytes.proofs.ReadingLemmas.{part_read}
use Rattle.docker_bytes.proofs.reading.StateReading.judge.Goals as goal

pub take_line-requires-clause-inner : goal.take_line-requires-clause-inner
take_line-requires-clause-inner g c =
    let more = c.has_more.ensures.0 c.if-has_more.true in
    record {
      stage = record { entries = c.in-Line._entries; stamp = c.in-Line._stamp; is = c.in-Line.is };
      more = omega arith;
      fresh = c.requires.fresh;
    }

pub returns-then-begins_item-clause-ok : goal.returns-then-begins_item-clause-ok
returns-then-begins_item-clause-ok g c = λ ok. part_read _ _ _ c.requires.reading c.requires.fresh c.requires.wide c.requires.some
    (λ i. let fits = c.type_inv.bytes i in omega arith) c.requires.fits c.in-Ok.ensures c.requires.fresh refl refl refl
    (inl (sym (c.begins_item.ensures c.step.new.parts c.step.new.lines) ∙ c.if-begins_item.true, refl))

pub returns-else-begins_item-clause-ok : goal.returns-else-begins_item-clause-ok
returns-else-begins_item-clause-ok g c = λ ok. part_read _ _ _ c.requires.reading c.requires.fresh c.requires.wide c.requires.some
    (λ i. let fits = c.type_inv.bytes i in omega arith) c.requires.fits c.in-Ok.ensures c.requires.fresh refl refl refl
    (inr (sym (c.begins_item.ensures c.step.new.parts c.step.new.lines) ∙ c.if-begins_item.false, refl))

pub returns-in-Err-clause-err : goal.returns-in-Err-clause-err
returns-in-Err-clause-err g c = subst (IsPartRefused c.args.self.now c.args.bytes.now) (sym c.bad.ensures) (refl, c.in-Err.ensures)
