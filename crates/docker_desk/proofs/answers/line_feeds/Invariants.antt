use Rattle.cif_laws.proofs.Common.{◌≡◌, ◌≤◌, ◌+◌, length}
use Rattle.docker_desk.specs.Answers.{line_count}
use Rattle.docker_desk.proofs.answers.line_feeds.Given as goal

-- the number of line feeds counted so far, plus the number of line feeds in the rest of the text,
-- is the number of line feeds in the whole text
abbrev pub invariant-loop-byte : goal.invariant-loop-byte
invariant-loop-byte l = record {
  all : l.count + line_count l.rest ≡ line_count l.fn.text;
  few : l.count + length l.rest ≤ length l.fn.text;
}

abbrev pub decreases-loop-byte : goal.decreases-loop-byte
decreases-loop-byte l = length l.rest
