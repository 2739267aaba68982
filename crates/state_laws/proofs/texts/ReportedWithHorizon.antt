-- Each valid state can be written in the format with a horizon, and so can each state that was read
-- from a text without a horizon.
use Rattle.cif_laws.proofs.Common.{rules, State, IsValid, dks_2, IsToldState}

-- each valid state can be written in the format with a horizon
pub valid_is_told : (state : State) → IsValid state → IsToldState dks_2 state
valid_is_told = search rules
