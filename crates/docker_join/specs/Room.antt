-- Vectors with room for more elements.
use Rattle.std.specs.Prelude.{◌≡◌, ℕ, ◌≤◌, []}
use Rattle.std.specs.Vec.{vec_len, vec_capacity}
use Rattle.std.specs.Global.{Vec}

-- Says that a vector is empty and has room for this many elements.
pub record HasRoomOf {X : Type 0} (count : ℕ) (items : Vec X) : Type 0 where
  pub none : items.items ≡ []
  pub empty : vec_len items ≡ 0
  pub room : count ≤ vec_capacity items
