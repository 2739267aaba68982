use Rattle.cif_laws.proofs.Common.{◌≡◌, map, None, rules, stamp_in}
use Rattle.docker_state.specs.Meaning.{item_meant}
use Rattle.state_text.proofs.StampLemmas.{day_too_late}
use Rattle.state_text.proofs.stamp.judged_stamp.Goals as goal

pub returns-in_err-stamp : goal.returns-in_err-stamp
returns-in_err-stamp c =
    let none : c.from_residual.result ≡ None = search rules in
    rw none (day_too_late (map item_meant c.args.ledger.now) (stamp_in c.args.bytes.now) c.requires.ledger c.in_err-stamp.ensures)
