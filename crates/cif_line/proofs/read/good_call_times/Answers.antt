use Rattle.cif_laws.proofs.Common.{rules, ◌≡◌, columns}
use Rattle.cif_line.proofs.JoinedTests.{call_tests, times_good, times_joined}
use Rattle.cif_line.proofs.Times.{told_read}
use Rattle.cif_line.proofs.read.good_call_times.Goals as goal

pub returns-then-not-are_good-clause-some : goal.returns-then-not-are_good-clause-some
returns-then-not-are_good-clause-some c =
    let times : c.read-fields.result.are_good ≡ times_joined c.args.line.now = search rules in
    call_tests c.args.line.now c.is_tiploc.result c.read-fields.result.are_good _ c.if-not-are_good.true (search rules) times

pub returns-clause-some : goal.returns-clause-some
returns-clause-some c =
    let times : c.read-fields.result.are_good ≡ times_joined c.args.line.now = search rules in
    call_tests c.args.line.now c.is_tiploc.result c.read-fields.result.are_good _ c.if-not-are_good.false (search rules) times

pub returns-clause-times : goal.returns-clause-times
returns-clause-times c =
    let times : c.read-fields.result.are_good ≡ times_joined c.args.line.now = search rules in
    let good = times_good c.args.line.now c.is_tiploc.result c.read-fields.result.are_good c.if-not-are_good.false times in
    record {
      arrival = told_read (columns 11 15 c.args.line.now) c.read-fields.result.arrival good.0 (search rules);
      departure = told_read (columns 16 20 c.args.line.now) c.read-fields.result.departure good.1 (search rules);
      pass = told_read (columns 21 25 c.args.line.now) c.read-fields.result.pass good.2 (search rules);
    }
