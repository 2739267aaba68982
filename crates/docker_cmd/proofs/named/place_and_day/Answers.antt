-- `auto` can prove these goals too. They are proved by hand so that the prover refuses a wrong body
-- at once, without a long search.
use Rattle.cif_laws.proofs.Common.{rules}
use Rattle.docker_cmd.proofs.named.place_and_day.Goals as goal

pub returns-in_err-place-clause-none : goal.returns-in_err-place-clause-none
returns-in_err-place-clause-none c = search rules

pub returns-clause-pair : goal.returns-clause-pair
returns-clause-pair c = search rules
