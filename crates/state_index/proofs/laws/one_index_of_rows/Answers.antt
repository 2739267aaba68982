use Rattle.state_index.specs.NamedPlaces.{call_places, link_places}
use Rattle.state_index.specs.Spots.{call_spots, link_spots}
use Rattle.state_index.proofs.SortedSpots.{one_list}
use Rattle.state_index.proofs.laws.one_index_of_rows.Goals as goal

pub returns-clause-calls : goal.returns-clause-calls
returns-clause-calls c = λ rows first second one two. one_list call_places rows (call_spots first) (call_spots second) one.calls.are two.calls.are

pub returns-clause-links : goal.returns-clause-links
returns-clause-links c = λ rows first second one two. one_list link_places rows (link_spots first) (link_spots second) one.links.are two.links.are
