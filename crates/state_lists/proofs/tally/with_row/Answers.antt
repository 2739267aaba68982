use Rattle.cif_laws.proofs.Common.{ap, deleted, lapsed, put_with}
use Rattle.cif_change.specs.Meaning.{body_meant}
use Rattle.docker_join.specs.Meaning.{op_meant}
use Rattle.state_lists.proofs.TallyLemmas.{with_none, with_op}
use Rattle.state_lists.proofs.tally.with_row.Goals as goal

pub returns-in-Put : goal.returns-in-Put
returns-in-Put c = λ rows is.
    with_op rows c.args.row.now (put_with (body_meant c.in-Put.body)) c.counted.result (ap op_meant c.in-Put.is) (c.counted.ensures rows is)

pub returns-in-Deleted : goal.returns-in-Deleted
returns-in-Deleted c = λ rows is. with_op rows c.args.row.now deleted c.args.tally (ap op_meant c.in-Deleted.is) (with_none rows c.args.tally is)

pub returns-in-Lapsed : goal.returns-in-Lapsed
returns-in-Lapsed c = λ rows is. with_op rows c.args.row.now lapsed c.args.tally (ap op_meant c.in-Lapsed.is) (with_none rows c.args.tally is)
