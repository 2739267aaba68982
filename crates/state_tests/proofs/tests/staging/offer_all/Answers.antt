use Rattle.std.proofs.Common.{List, map, ap, subst}
use Rattle.docker_model.specs.file.Change.{Key}
use Rattle.docker_model.specs.state.Op.{Entry}
use Rattle.docker_join.specs.Meaning.{row_meant}
use Rattle.state_tests.proofs.Offered.{CanBeOffered, all_offered, rest_offered, same_floor}
use Rattle.state_tests.proofs.tests.staging.offer_all.Goals as goal

pub loop-row-init : goal.loop-row-init
loop-row-init g c = (c.requires.floor, all_offered c.args.staging.now (map row_meant c.args.rows.now) c.requires.none c.requires.rows)

pub loop-row-preserved : goal.loop-row-preserved
loop-row-preserved g c =
    let entry = row_meant c.in-Some.row.now in (
      same_floor c.args.own.now c.loop-row.staging c.offer.new.staging entry.0 entry.1 c.loop-row.invariant.0 c.offer.ensures,
      rest_offered c.args.own.now c.loop-row.staging c.offer.new.staging entry (map row_meant c.in-Some.behind.now)
          (subst (λ (rest : List (Key × Entry)). CanBeOffered c.loop-row.staging rest) (ap (map row_meant) c.in-Some.ensures.cases.0) c.loop-row.invariant.1)
          c.offer.ensures,
    )
