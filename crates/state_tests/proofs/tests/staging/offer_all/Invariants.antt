use Rattle.std.proofs.Common.{◌++◌, map, length}
use Rattle.docker_model.specs.state.Stamp.{IsFloor}
use Rattle.docker_join.specs.Meaning.{row_meant}
use Rattle.state_tests.proofs.Offered.{CanBeOffered}
use Rattle.state_tests.proofs.tests.staging.offer_all.Given as goal

abbrev pub invariant-loop-row : goal.invariant-loop-row
invariant-loop-row g l =
    IsFloor (l.own.ledger ++ l.staging.items) l.staging.floor × CanBeOffered l.staging (map row_meant l.rest)

abbrev pub decreases-loop-row : goal.decreases-loop-row
decreases-loop-row g l = length l.rest
