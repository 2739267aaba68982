use Rattle.cif_laws.proofs.Common.{List, subst, sym, Contains, Key, Entry, LedgerItem}
use Rattle.docker_join.specs.Meaning.{floor_meant}
use Rattle.docker_state.specs.Staging.{HasNoneToStage}
use Rattle.docker_state.proofs.NothingToStage.{below_brings_none}
use Rattle.docker_state.proofs.covers.brings_none.Goals as goal

pub returns-then-are_below : goal.returns-then-are_below
returns-then-are_below c = λ told. below_brings_none _ _ c.ledger.ensures.valid _
    (λ item among. c.are_below.ensures told item (subst (λ (items : List LedgerItem). Contains items item) (sym c.ledger.ensures.items) among))

pub returns-else-are_below : goal.returns-else-are_below
returns-else-are_below c = λ told.
    subst (λ (rows : List (Key × Entry)). HasNoneToStage c.args.own.now (floor_meant c.args.floor.now) rows) c.entries.ensures.rows
    (c.none_to_stage.ensures told)
