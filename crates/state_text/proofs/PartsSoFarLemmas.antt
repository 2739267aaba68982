-- Lemmas on setting the horizon that was read from a text, after the text's ledger items and
-- entries were read.
use Rattle.cif_laws.proofs.Common.{◌≡◌, ℕ, sym, subst, rules, State, IsJoin, raise_horizon}
use Rattle.state_laws.proofs.joins.RaisedHorizon.{join_then_set}
use Rattle.docker_state.specs.Parts.{under}

-- if the parts have the horizon 0, setting their horizon to 0 changes nothing
pub under_none : (parts : State) → parts.horizon ≡ 0 → parts ≡ under 0 parts
under_none parts none = λ k. record { horizon = none k; ledger = parts.ledger; entries = parts.entries }

-- suppose that the parts have no horizon. Joining a state with the parts under a horizon has the
-- same result as joining it with the parts, and then raising the horizon to this day
pub join_behind : (horizon : ℕ) (own told parts joined state : State) → told ≡ under horizon parts → parts.horizon ≡ 0 → IsJoin own parts joined
    → state ≡ raise_horizon horizon joined → IsJoin own told state
join_behind horizon own told parts joined state is none join set = subst (λ t. IsJoin own t state) (sym is)
    (subst (λ s. IsJoin own (under horizon parts) s) (sym set) (join_then_set _ _ _ (subst (λ p. IsJoin own p joined) (under_none _ none) join)))

-- joining with parts that have no horizon has the same result as joining with these parts and the horizon 0
pub join_plain : (own told parts joined : State) → told ≡ under 0 parts → parts.horizon ≡ 0 → IsJoin own parts joined → IsJoin own told joined
join_plain = search (rules, under_none)
