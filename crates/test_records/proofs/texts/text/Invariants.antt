-- The loop invariant of `text`: the text so far consists of the records that the loop has passed,
-- each with its line end.
use Rattle.std.proofs.Common.{◌≡◌, ◌++◌, take}
use Rattle.std.specs.List.{flat_map}
use Rattle.test_records.proofs.texts.text.Given as goal

abbrev pub invariant-loop-line : goal.invariant-loop-line
invariant-loop-line l = l.text.items ≡ flat_map (λ line. line.now ++ l.end) (take l.line-index l.records)
