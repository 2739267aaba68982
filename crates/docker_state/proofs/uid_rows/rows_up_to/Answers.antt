use Rattle.cif_laws.proofs.Common.{sym, ◌∙◌}
use Rattle.docker_state.proofs.UidRows.{walk_of_all}
use Rattle.docker_state.proofs.uid_rows.rows_up_to.Goals as goal

pub returns-in-None : goal.returns-in-None
returns-in-None c = walk_of_all c.args.uid.now c.args.rows.now (sym c.first_after.ensures ∙ c.in-None.is)
