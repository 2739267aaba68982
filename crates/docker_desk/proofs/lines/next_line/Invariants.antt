use Rattle.cif_laws.proofs.Common.{◌≡◌, ◌≤◌, length, false}
use Rattle.cif_device.specs.Device.{Reads}
use Rattle.docker_desk.specs.Lines.{Uses, with_ahead}
use Rattle.docker_desk.proofs.LineLemmas.{ArePrintable}
use Rattle.docker_desk.proofs.lines.next_line.Given as goal

-- the bytes read so far are the bytes of the line
abbrev pub invariant-loop : goal.invariant-loop
invariant-loop g l = record {
  so_far : Reads (with_ahead l.fn.ahead l.fn.streams.input) l.line.items (with_ahead l.ahead l.streams.input);
  uses : Uses l.line.items l.fn.ahead l.ahead l.fn.streams l.streams;
  printable : ArePrintable l.line.items;
  short : length l.line.items ≤ 255;
  counted : length l.line.items ≡ l.counter;
  no_failure : l.streams.input_failures ≡ l.fn.streams.input_failures;
  not_ended : l.fn.streams.ended ≡ false → l.streams.ended ≡ false;
  not_passed : l.fn.streams.ended ≡ false → l.streams.passed ≡ l.fn.streams.passed;
}
