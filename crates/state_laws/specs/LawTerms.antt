-- Definitions that several laws use.
use Rattle.std.specs.Prelude.{◌==◌, List, ◌++◌, Option, option_map, find}
use Rattle.docker_model.specs.file.Change.{Key}
use Rattle.docker_model.specs.state.Stamp.{FileStamp, LedgerItem, IsFloor}
use Rattle.docker_model.specs.state.Op.{Entry}
use Rattle.docker_model.specs.state.State.{State, IsValid}
use Rattle.state_laws.specs.Staging.{IsStaged, IsCommit}

-- the file stamp of the first full extract in a ledger, or `None` if the ledger has no full extract
abbrev pub first_full_stamp : List LedgerItem → Option FileStamp
first_full_stamp ledger = option_map (λ (item : LedgerItem). item.stamp) (find (λ (item : LedgerItem). item.indicator == 70) ledger)

-- the state with no horizon, but with the same ledger and entries. Entries that have lapsed stay
-- lapsed
abbrev pub without_horizon : State → State
without_horizon state = record { horizon = 0; ledger = state.ledger; entries = state.entries }

-- `Fact` holds if `own` and `received` are valid states, and `after` results from receiving
-- `received` in two steps. First all entries of `received` are offered for staging to the office
-- whose state is `own`, with the floor of the two ledgers together. Then the staged entries are
-- committed
abbrev pub HoldsOnceCommitted : State → State → Option FileStamp → List (Key × Entry) → State → Type 0 → Type 0
HoldsOnceCommitted own received floor staged after Fact =
    IsValid own → IsValid received → IsFloor (own.ledger ++ received.ledger) floor → IsStaged own floor received.entries staged
    → IsCommit own received.ledger staged after → Fact
