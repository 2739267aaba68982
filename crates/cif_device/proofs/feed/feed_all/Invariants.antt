-- The taker has taken all bytes that were read. Each iteration of the loop reads at least one byte.
use Rattle.std.proofs.Common.{◌≡◌, ◌-◌, ◌^◌, false, vec_len}
use Rattle.cif_device.specs.Taken.{AfterEach, HasFed}
use Rattle.cif_device.proofs.feed.feed_all.Given as goal

abbrev pub invariant-pieces : goal.invariant-pieces
invariant-pieces g l = record {
  turn : AfterEach g.T.Taker.takes l.fn.taker
      (λ settings text. HasFed g.T.Taker.takes l.fed settings text (g.S.Source.left l.fn.source) (g.S.Source.left l.source) l.taker);
  no_failure : g.S.Source.failures l.source ≡ g.S.Source.failures l.fn.source;
  room : vec_len l.piece ≡ 65536;
  not_ended : g.S.Source.ended l.fn.source ≡ false → g.S.Source.ended l.source ≡ false;
  not_passed : g.S.Source.ended l.fn.source ≡ false → g.S.Source.passed l.source ≡ g.S.Source.passed l.fn.source;
}

abbrev pub decreases-pieces : goal.decreases-pieces
decreases-pieces g l = 2 ^ 64 - l.fed
