use Rattle.docker_desk.proofs.HeardLemmas.{may_place_known, places_known}
use Rattle.docker_desk.proofs.laws.saves_tell_what_is_known.Goals as goal

pub returns-clause-saved : goal.returns-clause-saved
returns-clause-saved c = λ setting text before after known is does. places_known before after known setting text is does

pub returns-clause-refused : goal.returns-clause-refused
returns-clause-refused c = λ setting fault before after known is does. may_place_known before after known setting fault is does
