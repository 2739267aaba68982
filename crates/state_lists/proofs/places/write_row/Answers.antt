use Rattle.cif_laws.proofs.Common.{ap}
use Rattle.docker_join.specs.Meaning.{op_meant}
use Rattle.state_lists.proofs.places.write_row.Goals as goal

pub returns-in-Put-clause-whole : goal.returns-in-Put-clause-whole
returns-in-Put-clause-whole g c = rw (ap op_meant c.in-Put.is) c.write_live.ensures.whole

pub returns-in-Put-clause-part : goal.returns-in-Put-clause-part
returns-in-Put-clause-part g c = rw (ap op_meant c.in-Put.is) c.write_live.ensures.part
