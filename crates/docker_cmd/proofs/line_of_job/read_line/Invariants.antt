use Rattle.cif_laws.proofs.Common.{◌≡◌, length}
use Rattle.cif_device.specs.Device.{IsNotPassed}
use Rattle.cif_device.specs.Device.{Reads}
use Rattle.docker_cmd.proofs.LineOfJobLemmas.{ArePrintable}
use Rattle.docker_cmd.proofs.line_of_job.read_line.Given as goal

-- the line consists of the bytes read so far, one byte per iteration of the loop
abbrev pub invariant-loop : goal.invariant-loop
invariant-loop g l = record {
  so_far : Reads (g.S.Source.left l.fn.source) l.line.items (g.S.Source.left l.source);
  printable : ArePrintable l.line.items;
  counted : length l.line.items ≡ l.counter;
  no_failure : g.S.Source.failures l.source ≡ g.S.Source.failures l.fn.source;
  not_ended : g.S.Source.ended l.source ≡ g.S.Source.ended l.fn.source;
  not_passed : IsNotPassed (g.S.Source.ended l.fn.source) (g.S.Source.passed l.fn.source) (g.S.Source.passed l.source);
}
