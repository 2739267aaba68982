use Rattle.state_laws.proofs.texts.TextsApart.{no_bad_part}
use Rattle.state_laws.proofs.text.text_or_bad_part.Goals as goal

pub returns : goal.returns
returns c = no_bad_part
