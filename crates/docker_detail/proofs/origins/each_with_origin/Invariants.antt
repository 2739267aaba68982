use Rattle.cif_laws.proofs.Common.{◌≡◌, ◌++◌, All, into_iter_items}
use Rattle.docker_state.specs.Timetables.{live_in}
use Rattle.docker_detail.specs.Finding.{IsLineFound, firsts}
use Rattle.docker_detail.proofs.origins.each_with_origin.Given as goal

-- the lines so far, with their origins, and then the remaining lines
abbrev pub invariant-loop-line : goal.invariant-loop-line
invariant-loop-line l = record {
  lines : firsts l.detailed.items ++ into_iter_items l.line-iterator ≡ l.fn.lines.items;
  found : All (IsLineFound (live_in l.fn.finder.timetable) l.fn.finder.place) l.detailed.items;
  same : l.finder ≡ l.fn.finder;
}
