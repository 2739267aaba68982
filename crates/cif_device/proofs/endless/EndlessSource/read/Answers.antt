-- The source returns one more byte after the first `at` bytes.
use Rattle.std.proofs.Common.{rules, arith, subst, sym}
use Rattle.std.proofs.lemmas.Grind.{common_steps}
use Rattle.std.proofs.lemmas.List.{take_more_set}
use Rattle.cif_device.specs.Device.{Goes}
use Rattle.cif_device.proofs.DeviceLemmas.{Goes-append}
use Rattle.cif_device.proofs.endless.EndlessSource.read.Goals as goal

pub loop-at-preserved : goal.loop-at-preserved
loop-at-preserved c = record {
  within = grind (arith, common_steps);
  length = search rules;
  goes = subst (λ bytes. Goes c.args.self.now bytes c.next_byte.new.self)
      (sym (take_more_set c.loop-at.into c.loop-at.at c.next_byte.result (grind (arith, common_steps))))
      (Goes-append _ _ _ _ _ c.loop-at.invariant.goes c.next_byte.ensures.goes);
}
