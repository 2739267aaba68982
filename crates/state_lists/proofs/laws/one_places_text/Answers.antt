use Rattle.state_lists.proofs.ListLaws.{one_places}
use Rattle.state_lists.proofs.laws.one_places_text.Goals as goal

pub returns : goal.returns
returns c = one_places
