use Rattle.cif_laws.proofs.Common.{◌≡◌, ℕ, List, false, Option}
use Rattle.docker_desk.specs.Lines.{ReadsMany, SkipsLine, SkipsAll, with_ahead}
use Rattle.docker_desk.proofs.UseLemmas.{UsesRest}
use Rattle.docker_desk.proofs.lines.skip_line.Given as goal

-- the bytes read so far all belong to the bad line. So skipping the rest of the line from here has
-- the same result as skipping it from where the loop began
abbrev pub invariant-loop : goal.invariant-loop
invariant-loop g l = record {
  line : (new : Option (List ℕ)) → SkipsLine (with_ahead l.ahead l.streams.input) new
      → SkipsLine (with_ahead l.fn.ahead l.fn.streams.input) new;
  end : (new : Option (List ℕ)) → SkipsAll (with_ahead l.ahead l.streams.input) new
      → SkipsAll (with_ahead l.fn.ahead l.fn.streams.input) new;
  many : ReadsMany l.counter (with_ahead l.fn.ahead l.fn.streams.input) (with_ahead l.ahead l.streams.input);
  rest : UsesRest l.counter l.fn.ahead l.ahead l.fn.streams l.streams;
  no_failure : l.streams.input_failures ≡ l.fn.streams.input_failures;
  not_ended : l.fn.streams.ended ≡ false → l.streams.ended ≡ false;
  not_passed : l.fn.streams.ended ≡ false → l.streams.passed ≡ l.fn.streams.passed;
}
