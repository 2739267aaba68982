use Rattle.state_index.specs.Spots.{call_spots, link_spots}
use Rattle.state_index.proofs.LiveIndexes.{calls_index, links_index}
use Rattle.state_index.proofs.laws.indexes_of_rows.Goals as goal

pub returns-clause-calls : goal.returns-clause-calls
returns-clause-calls c = λ state index up is. calls_index state up (call_spots index) is.calls.are

pub returns-clause-links : goal.returns-clause-links
returns-clause-links c = λ state index up is. links_index state up (link_spots index) is.links.are
