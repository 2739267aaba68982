use Rattle.cif_laws.proofs.Common.{rules}
use Rattle.cif_line.proofs.JoinedTests.{end_tests}
use Rattle.cif_line.proofs.Times.{present_read}
use Rattle.cif_line.proofs.read.good_end_time.Goals as goal

pub returns-then-is_tiploc-time-clause-time : goal.returns-then-is_tiploc-time-clause-time
returns-then-is_tiploc-time-clause-time c = present_read _ _ _ _ c.read-time.ensures c.field.ensures.bytes c.time.ensures

pub returns-else-is_tiploc-time-clause-origin : goal.returns-else-is_tiploc-time-clause-origin
returns-else-is_tiploc-time-clause-origin c =
    end_tests c.args.line.now c.is_tiploc.result c.read-time.result.is_time c.is_public_time.result _ c.if-is_tiploc-time.false (search rules)
    (search rules) (search rules)

pub returns-else-is_tiploc-time-clause-terminus : goal.returns-else-is_tiploc-time-clause-terminus
returns-else-is_tiploc-time-clause-terminus c =
    end_tests c.args.line.now c.is_tiploc.result c.read-time.result.is_time c.is_public_time.result _ c.if-is_tiploc-time.false (search rules)
    (search rules) (search rules)
