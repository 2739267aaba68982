-- The tactic `auto` proves these goals too. Their answers are written out so that a wrong body is
-- refused without a long search.
use Rattle.std.proofs.Common.{rules}
use Rattle.docker_bytes.proofs.parser.Parser+Received+R.join.Goals as goal

pub returns-in-None-clause-err : goal.returns-in-None-clause-err
returns-in-None-clause-err g c = search rules
