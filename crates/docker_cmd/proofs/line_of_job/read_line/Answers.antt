use Rattle.cif_laws.proofs.Common.{◌≡◌, ◌≢◌, length, refl, arith, rules}
use Rattle.docker_cmd.proofs.LineOfJobLemmas.{no_line_at_end, no_line_at, no_line_full, no_line_behind, reads_few, reads_one_more}
use Rattle.docker_cmd.proofs.line_of_job.read_line.Goals as goal
use Rattle.docker_cmd.proofs.line_of_job.read_line.Goals.{then-is_full-via-then-is_full, then-is_full-via-else-is_full+then-not-is_printable}

pub returns-in_default-clause-usage : goal.returns-in_default-clause-usage
returns-in_default-clause-usage g c = λ usage.
    let read = rw c.in_default.is at c.in_ok-byte.ensures.byte in
    no_line_at_end _ _ c.loop.line.items c.loop.invariant.so_far read.0 c.loop.invariant.printable

pub returns-then-is_full-clause-usage : goal.returns-then-is_full-clause-usage
returns-then-is_full-clause-usage g c = λ usage.
    let read = rw c.in-Some.is at c.in_ok-byte.ensures.byte in
    let other : c.in-Some.byte ≢ 10 = search rules in
    elim c.then-is_full.branch [
      | then-is_full-via-then-is_full w ↦
          let full : length c.loop.line.items ≡ 255 = search rules in
          no_line_full _ _ _ _ _ c.loop.invariant.so_far read c.loop.invariant.printable full other
      | then-is_full-via-else-is_full+then-not-is_printable w ↦ no_line_at _ _ _ c.loop.line.items c.in-Some.byte c.loop.invariant.so_far read
          c.loop.invariant.printable (search rules) other
    ]

pub returns-clause-usage : goal.returns-clause-usage
returns-clause-usage g c = λ usage. no_line_behind _ _ c.loop.line.items c.loop.invariant.so_far c.loop.invariant.printable (omega arith)

pub returns-in_err-byte-clause-few : goal.returns-in_err-byte-clause-few
returns-in_err-byte-clause-few g c = reads_few _ _ _ c.loop.line.items c.loop.invariant.so_far c.in_err-byte.ensures.unmoved (omega arith)

pub returns-in_default-clause-few : goal.returns-in_default-clause-few
returns-in_default-clause-few g c =
    let read = rw c.in_default.is at c.in_ok-byte.ensures.byte in
    reads_few _ _ _ c.loop.line.items c.loop.invariant.so_far read.1 (omega arith)

pub returns-then-byte-eq10-clause-few : goal.returns-then-byte-eq10-clause-few
returns-then-byte-eq10-clause-few g c =
    let read = rw c.in-Some.is at c.in_ok-byte.ensures.byte in
    reads_one_more _ _ _ c.loop.line.items c.in-Some.byte c.loop.invariant.so_far read (omega arith)

pub returns-then-is_full-clause-few : goal.returns-then-is_full-clause-few
returns-then-is_full-clause-few g c =
    let read = rw c.in-Some.is at c.in_ok-byte.ensures.byte in
    reads_one_more _ _ _ c.loop.line.items c.in-Some.byte c.loop.invariant.so_far read (omega arith)

pub returns-clause-few : goal.returns-clause-few
returns-clause-few g c = reads_few _ _ _ c.loop.line.items c.loop.invariant.so_far refl (omega arith)
