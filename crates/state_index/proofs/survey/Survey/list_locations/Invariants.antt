use Rattle.cif_laws.proofs.Common.{◌≡◌, ◌++◌, length, map, columns}
use Rattle.state_index.specs.NamedPlaces.{location_lines}
use Rattle.state_index.specs.Rooms.{Includes}
use Rattle.state_index.proofs.survey.Survey.list_locations.Given as goal

abbrev pub invariant-loop-line : goal.invariant-loop-line
invariant-loop-line l = record {
  kept : Includes l.fn.self.names.items l.self.names.items;
  listed : Includes (map (columns 3 9) (location_lines l.lines)) (l.self.names.items ++ map (columns 3 9) (location_lines l.rest));
  calls : l.self.calls ≡ l.fn.self.calls;
  rows : l.self.rows ≡ l.fn.self.rows;
}

abbrev pub decreases-loop-line : goal.decreases-loop-line
decreases-loop-line l = length l.rest
