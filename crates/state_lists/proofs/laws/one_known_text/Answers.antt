use Rattle.state_lists.proofs.ListLaws.{one_known}
use Rattle.state_lists.proofs.laws.one_known_text.Goals as goal

pub returns : goal.returns
returns c = one_known
