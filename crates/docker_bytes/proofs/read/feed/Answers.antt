use Rattle.std.proofs.Common.{rules, ◌≡◌, arith}
use Rattle.std.proofs.lemmas.List.{take_all}
use Rattle.docker_bytes.proofs.ReadLemmas.{tail_told, told_as_state, told_as_memory}
use Rattle.docker_bytes.proofs.read.feed.Goals as goal

pub returns-then-used-piece-clause-state : goal.returns-then-used-piece-clause-state
returns-then-used-piece-clause-state g c = λ format limit text has told is rest.
    let same : c.tail.result ≡ told = cc in
    rw (← same) (tail_told _ _ text _ rest _ c.in-Ok.field-0-1 _ c.if-used-piece.true (c.in-Ok.ensures.step _ _ _ has)
    (c.tail.ensures.at _ _ _ (c.in-Ok.ensures.read _ _ _ has)) c.tail.ensures.cause)

pub returns-else-used-piece-clause-read : goal.returns-else-used-piece-clause-read
returns-else-used-piece-clause-read g c = λ format limit text has ok.
    let enough = c.if-used-piece.false in
    rw (← take_all c.in-Ok.used c.args.piece.now (omega arith)) (c.in-Ok.ensures.read format limit text has)

pub returns-in-Err-clause-state : goal.returns-in-Err-clause-state
returns-in-Err-clause-state g c = λ format limit text has told is rest.
    told_as_state _ _ _ _ rest _ _ _ (c.in-Err.ensures.err _ _ text has) c.fault_of.ensures.memory c.fault_of.ensures.state is

pub returns-in-Err-clause-memory : goal.returns-in-Err-clause-memory
returns-in-Err-clause-memory g c = λ format limit text has is.
    told_as_memory _ _ _ _ _ _ (c.in-Err.ensures.err _ _ text has) c.fault_of.ensures.state is

-- The tactic `auto` proves these goals too. Their answers are written out so that a wrong body is
-- refused without a long search.
pub returns-then-used-piece-clause-memory : goal.returns-then-used-piece-clause-memory
returns-then-used-piece-clause-memory g c = search rules
