use Rattle.cif_laws.proofs.Common.{ap, ◌∷◌, List, ℕ, Bor}
use Rattle.docker_host.proofs.StreamsLemmas.{writes_none}
use Rattle.docker_desk.proofs.HelpLemmas.{part_at, whole_at, whole_end}
use Rattle.docker_desk.proofs.help.write_words.Goals as goal

pub loop-word-init : goal.loop-word-init
loop-word-init g c = record { so_far = writes_none c.args.streams.now }

pub loop-word-preserved : goal.loop-word-preserved
loop-word-preserved g c = record {
  so_far =
      whole_at (λ (word : Bor (List ℕ)). 32 ∷ word.now) c.args.words.now c.loop-word.word-index _ (32 ∷ c.as_bytes.result.now) c.args.streams.now
      c.loop-word.streams c.write_both.new.streams c.loop-word-test.true
      (ap (λ (word : List ℕ). 32 ∷ word) c.as_bytes.ensures.value) c.loop-word.invariant.so_far c.in-Ok.ensures;
}

pub returns-in-Err : goal.returns-in-Err
returns-in-Err g c =
    part_at (λ (word : Bor (List ℕ)). 32 ∷ word.now) c.args.words.now c.loop-word.word-index _ (32 ∷ c.as_bytes.result.now) c.args.streams.now
    c.loop-word.streams c.write_both.new.streams c.loop-word-test.true
    (ap (λ (word : List ℕ). 32 ∷ word) c.as_bytes.ensures.value) c.loop-word.invariant.so_far c.in-Err.ensures

pub returns : goal.returns
returns g c =
    whole_end (λ (word : Bor (List ℕ)). 32 ∷ word.now) c.args.words.now c.loop-word.word-index c.args.streams.now c.loop-word.streams
    c.loop-word-test.false c.loop-word.invariant.so_far
