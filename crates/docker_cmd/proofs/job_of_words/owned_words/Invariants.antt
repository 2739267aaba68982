use Rattle.cif_laws.proofs.Common.{◌≡◌, map, take, string_bytes}
use Rattle.docker_cmd.specs.Words.{texts}
use Rattle.docker_cmd.proofs.job_of_words.owned_words.Given as goal

-- the words before this one have been copied
abbrev pub invariant-loop-word : goal.invariant-loop-word
invariant-loop-word l = map (λ word. string_bytes word) l.owned.items ≡ texts (take l.word-index l.words)
