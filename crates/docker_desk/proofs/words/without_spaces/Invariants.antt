use Rattle.cif_laws.proofs.Common.{◌≡◌, length}
use Rattle.std.specs.Prelude.{IsUtf8}
use Rattle.docker_desk.specs.Requests.{without_spaces}
use Rattle.docker_desk.proofs.words.without_spaces.Given as goal

-- the rest of the text and the whole text are equal once their leading spaces are removed
abbrev pub invariant-loop-piece : goal.invariant-loop-piece
invariant-loop-piece l = record {
  same : without_spaces l.rest ≡ without_spaces l.fn.text;
  text : IsUtf8 l.rest;
}

abbrev pub decreases-loop-piece : goal.decreases-loop-piece
decreases-loop-piece l = length l.rest
