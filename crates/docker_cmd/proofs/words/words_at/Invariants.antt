use Rattle.cif_laws.proofs.Common.{◌≡◌, length}
use Rattle.clap.specs.Words.{found_of, rows_of}
use Rattle.docker_cmd.specs.Words.{texts}
use Rattle.docker_cmd.proofs.FoundWords.{HasFound}
use Rattle.docker_cmd.proofs.words.words_at.Given as goal

-- the words found so far are the words of the ids before this one
abbrev pub invariant-loop-id : goal.invariant-loop-id
invariant-loop-id l = record {
  so_far : HasFound l.ids (rows_of (found_of l.words)) l.id-index (texts l.found.items);
  counted : length l.found.items ≡ l.id-index;
}
