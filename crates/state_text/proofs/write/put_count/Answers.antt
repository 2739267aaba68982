use Rattle.cif_laws.proofs.Common.{[]}
use Rattle.state_text.proofs.BufferLemmas.{fails_first}
use Rattle.state_text.proofs.write.put_count.Goals as goal

pub returns-in_err-make_room : goal.returns-in_err-make_room
returns-in_err-make_room g c = fails_first _ _ _ _ _ [] _ _ _ _ c.from_residual.ensures.1 c.in_err-make_room.ensures.gives
