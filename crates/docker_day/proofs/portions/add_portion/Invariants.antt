use Rattle.cif_laws.proofs.Common.{◌≡◌}
use Rattle.docker_day.proofs.RowPortions.{AddsFirst}
use Rattle.docker_day.proofs.portions.add_portion.Given as goal

-- the docker lines of the portion's rows before the current row have been appended to `lines`
abbrev pub invariant-loop-row : goal.invariant-loop-row
invariant-loop-row l = record {
  same : l.visits ≡ l.fn.visits;
  first : AddsFirst l.fn.visits l.rows l.row-index l.fn.lines.items l.lines.items;
}
