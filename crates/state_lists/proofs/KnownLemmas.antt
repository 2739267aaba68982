-- The text that the code writes equals the text that lists what an office knows.
use Rattle.cif_laws.proofs.Common.{◌≡◌, ℕ, ◌<◌, List, subst, rules, Option, IfSome, option_map, FileStamp, IsFloor, State, IsValid, IsKnownText}
use Rattle.docker_model.specs.file.Change as model
use Rattle.docker_model.specs.state.Op as ops
use Rattle.docker_join.specs.declared.stamp.FileStamp as stamps
use Rattle.docker_join.specs.Meaning.{file_stamp_meant}
use Rattle.docker_state.specs.Live.{live_rows}
use Rattle.state_lists.specs.Tallies.{IsTallyOf, known_lines}
use Rattle.state_lists.specs.declared.tally.Tally.{Tally}
use Rattle.state_lists.proofs.Counts.{rows_are}

-- the minute in the stamp of a valid state's newest full extract is below 1440
pub minute_of_full : (state : State) → IsValid state → (full : Option stamps.FileStamp) → IsFloor state.ledger (option_map file_stamp_meant full)
    → IfSome full (λ stamp. stamp.minute < 1440)
minute_of_full = search rules

module _ (state : State) (valid : IsValid state) (entries : List (model.Key × ops.Entry)) (are : entries ≡ state.entries) (horizon : ℕ)
    (horizon_is : horizon ≡ state.horizon) (full : Option FileStamp) (is_full : IsFloor state.ledger full) (tally : Tally)
    (counted : IsTallyOf (live_rows entries) tally) (bytes : List ℕ) (is : bytes ≡ known_lines horizon full tally) where
  of_all : IsTallyOf (live_rows state.entries) tally
  of_all = subst (λ (all : List (model.Key × ops.Entry)). IsTallyOf (live_rows all) tally) are counted

  -- the lines made from a tally of all live rows form the text that lists what the office knows
  pub is_known : IsKnownText state bytes
  is_known = search (rules, rows_are, of_all)
