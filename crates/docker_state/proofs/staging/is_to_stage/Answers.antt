use Rattle.cif_laws.proofs.Common.{List, sym, subst, Contains, LedgerItem}
use Rattle.docker_state.proofs.Newest.{newest_tells}
use Rattle.docker_state.proofs.StagingLemmas.{to_stage_tells, below_tells}
use Rattle.docker_state.proofs.staging.is_to_stage.Goals as goal

pub returns-then-is_above_all : goal.returns-then-is_above_all
returns-then-is_above_all c = newest_tells _ c.ledger.ensures.valid _ _ _ (λ item among. c.is_above_all.ensures c.if-is_above_all.true item
    (subst (λ (items : List LedgerItem). Contains items item) (sym c.ledger.ensures.items) among)) _ c.is_kept.ensures

pub returns-then-is_kept : goal.returns-then-is_kept
returns-then-is_kept c = to_stage_tells _ c.get_near.ensures.valid _ _ _ _ c.in-Some.ensures.entry _
    (below_tells _ (c.is_kept-in-Some.ensures.0 c.if-is_kept.true) _ _ c.lt.ensures)

pub returns-in-None : goal.returns-in-None
returns-in-None c = to_stage_tells _ c.get_near.ensures.valid _ _ _ _ c.in-None.ensures.entry _
    (λ kept. (c.is_kept-in-None.ensures.0 kept, tt), λ told. c.is_kept-in-None.ensures.1 told.0)
