use Rattle.cif_laws.proofs.Common.{◌≡◌, length, take}
use Rattle.docker_cmd.specs.Words.{texts}
use Rattle.docker_desk.specs.Serving.{word_bytes}
use Rattle.docker_desk.proofs.given.borrowed.Given as goal

-- the words before this one are in the list
abbrev pub invariant-loop-word : goal.invariant-loop-word
invariant-loop-word l = record {
  so_far : texts l.list.items ≡ word_bytes (take l.word-index l.words);
  counted : length l.list.items ≡ l.word-index;
}
