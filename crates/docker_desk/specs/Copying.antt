-- A source that keeps a copy of what is read from it, and a sink that compares what is written to
-- it with a text.
use Rattle.std.specs.Prelude.{◌≡◌, ◌≢◌, ℕ, Bool, List, [], ◌∷◌, ◌++◌, Option, Some, None, ⊤}
use Rattle.docker_host.specs.History.{Bytes, Text}
use Rattle.docker_desk.specs.declared.compared.Compared.{Compared}
use Rattle.docker_desk.specs.declared.compared.Compared.TheVariants as compared

-- a source that keeps a copy of what is read from it. The fields give the bytes left in it, its
-- failure count, whether it has reported its end, and whether it was read after that. `copy` is
-- None if there was no memory for the copy
pub record CopyView : Type 0 where
  pub left : Bytes
  pub failures : ℕ
  pub ended : Bool
  pub passed : Bool
  pub copy : Option Text

-- a sink that compares what is written to it with a text. The fields give the text, the bytes that
-- the sink has taken, and its failure count. The sink takes the bytes that agree with the text, and
-- then the first byte that differs
pub record MatchView : Type 0 where
  pub text : Text
  pub taken : Text
  pub failures : ℕ

-- the copy gained these bytes, or the copy was dropped
abbrev pub KeepsMore : Option Text → List ℕ → Option Text → Type 0
KeepsMore old bytes None = ⊤
KeepsMore None bytes (Some new) = ⊥
KeepsMore (Some old) bytes (Some new) = new ≡ old ++ bytes

-- the bytes of `front`, followed by the byte `other` if there is one
abbrev pub with_other : Text → Option ℕ → Text
with_other front None = front
with_other front (Some other) = front ++ other ∷ []

-- these bytes aren't a prefix of the text
abbrev pub IsNoFront : Text → Text → Type 0
IsNoFront front text = (more : List ℕ) → text ≢ front ++ more

-- comparing a copy with a text has this result: `Same` if they are equal, `Other` if they differ.
-- `Unknown` is possible in both cases
abbrev pub ComparesCopy : Compared → Option Text → Text → Type 0
ComparesCopy compared.Same copy text = copy ≡ Some text
ComparesCopy compared.Other None text = ⊥
ComparesCopy compared.Other (Some copy) text = copy ≢ text
ComparesCopy compared.Unknown copy text = ⊤
