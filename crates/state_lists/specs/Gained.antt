-- What a sink gains: a text that has a certain property, or a proper prefix of such a text.
use Rattle.std.specs.Prelude.{ℕ, List, Option}
use Rattle.cif_device.specs.Device.{Takes, TakesPart}

-- says that the sink gained a text for which `Is` holds
pub record Gains (Is : List ℕ → Type 0) (old new : Option (List ℕ)) : Type 0 where
  pub text : List ℕ
  pub is : Is text
  pub gained : Takes old text new

-- says that the sink gained a proper prefix of a text for which `Is` holds
pub record GainsPart (Is : List ℕ → Type 0) (old new : Option (List ℕ)) : Type 0 where
  pub text : List ℕ
  pub is : Is text
  pub gained : TakesPart old text new
