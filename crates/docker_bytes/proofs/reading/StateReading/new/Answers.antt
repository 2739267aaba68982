-- The tactic `auto` proves these goals too. Their answers are written out so that a wrong body is
-- refused without a long search.
use Rattle.std.proofs.Common.{rules}
use Rattle.docker_bytes.proofs.reading.StateReading.new.Goals as goal

pub returns-clause-reading : goal.returns-clause-reading
returns-clause-reading g c = search rules

pub returns-clause-text : goal.returns-clause-text
returns-clause-text g c = search rules

pub returns-clause-limit : goal.returns-clause-limit
returns-clause-limit g c = search rules
