use Rattle.state_text.proofs.BufferLemmas.{flushed}
use Rattle.state_text.proofs.write.write_state.Goals as goal

pub returns-clause-whole : goal.returns-clause-whole
returns-clause-whole g c = (flushed _ _ _ _ _ _ c.put_text.ensures).0

pub returns-clause-part : goal.returns-clause-part
returns-clause-part g c = (flushed _ _ _ _ _ _ c.put_text.ensures).1

pub returns-clause-failures : goal.returns-clause-failures
returns-clause-failures g c = (flushed _ _ _ _ _ _ c.put_text.ensures).2
