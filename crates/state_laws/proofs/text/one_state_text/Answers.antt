use Rattle.state_laws.proofs.texts.TextsApart.{one_text}
use Rattle.state_laws.proofs.texts.StateReadBack.{item_read, key_read, stamp_read}
use Rattle.state_laws.proofs.text.one_state_text.Goals as goal

pub returns-clause-one : goal.returns-clause-one
returns-clause-one c = one_text

pub returns-clause-item : goal.returns-clause-item
returns-clause-item c = item_read

pub returns-clause-key : goal.returns-clause-key
returns-clause-key c = key_read

pub returns-clause-stamp : goal.returns-clause-stamp
returns-clause-stamp c = stamp_read
