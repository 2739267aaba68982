-- What contracts can say about real devices. A real device is a reader or a writer of the standard
-- library. Contracts can't say which bytes a real file or stream holds or takes.
use Rattle.std.specs.Prelude.{ℕ, Bool}

-- a source over a reader: the reader, its failure count, whether it has reported its end, and
-- whether it was read after that
pub record InputView (R : Type 0) : Type 0 where
  pub reader : R
  pub failures : ℕ
  pub ended : Bool
  pub passed : Bool

-- a sink over a writer: the writer, and its failure count
pub record OutputView (W : Type 0) : Type 0 where
  pub writer : W
  pub failures : ℕ
