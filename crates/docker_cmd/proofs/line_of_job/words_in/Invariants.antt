use Rattle.cif_laws.proofs.Common.{◌≡◌, ◌≤◌, ◌+◌, ◌*◌, ◌++◌, length}
use Rattle.std.specs.Prelude.{IsUtf8}
use Rattle.arrayvec.specs.ArrayVec.{array_vec_len}
use Rattle.docker_cmd.specs.JobLine.{words_in}
use Rattle.docker_cmd.specs.Words.{texts}
use Rattle.docker_cmd.proofs.line_of_job.words_in.Given as goal

-- the words found so far, followed by the words in the rest of the line, are the words of the whole
-- line
abbrev pub invariant-loop-word : goal.invariant-loop-word
invariant-loop-word l = record {
  words : texts l.words.items ++ words_in l.rest ≡ words_in l.fn.line;
  text : IsUtf8 l.rest;
  room : 2 * array_vec_len l.words + length l.rest ≤ 255;
}

abbrev pub decreases-loop-word : goal.decreases-loop-word
decreases-loop-word l = length l.rest
