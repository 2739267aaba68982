use Rattle.state_laws.proofs.texts.TextsApart.{no_front}
use Rattle.state_laws.proofs.text.no_state_text_begins_another.Goals as goal

pub returns : goal.returns
returns c = no_front
