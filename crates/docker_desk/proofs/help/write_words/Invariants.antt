use Rattle.cif_laws.proofs.Common.{◌∷◌, take, List, ℕ, Bor, flat_map}
use Rattle.docker_host.specs.Streams.{WritesWhole}
use Rattle.docker_desk.proofs.help.write_words.Given as goal

-- the output has gained the words before the current word, each after a space
abbrev pub invariant-loop-word : goal.invariant-loop-word
invariant-loop-word g l = record {
  so_far : WritesWhole (flat_map (λ (word : Bor (List ℕ)). 32 ∷ word.now) (take l.word-index l.words)) l.fn.streams l.streams;
}
