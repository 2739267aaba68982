use Rattle.docker_desk.proofs.HeardLemmas.{hears_merged, hears_renewed, learned_of}
use Rattle.docker_desk.proofs.laws.known_texts_are_heard.Goals as goal

pub returns-clause-merged : goal.returns-clause-merged
returns-clause-merged c = λ setting other text before after known does holds. hears_merged before after known other text does holds

pub returns-clause-renewed : goal.returns-clause-renewed
returns-clause-renewed c = λ setting text before after known does holds. hears_renewed before after known setting text does holds

pub returns-clause-learned : goal.returns-clause-learned
returns-clause-learned c = λ setting first last steps old are hear. learned_of setting first last steps old are hear
