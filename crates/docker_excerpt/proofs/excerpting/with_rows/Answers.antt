use Rattle.docker_excerpt.proofs.GivenEntries.{row_behind}
use Rattle.docker_excerpt.proofs.excerpting.with_rows.Goals as goal

pub entry-requires-clause-here : goal.entry-requires-clause-here
entry-requires-clause-here c =
    (row_behind c.loop-key.parts c.args.parts.ledger c.args.rows.items c.loop-key.key-iterator.rest.items c.next.new.self.rest.items c.in-Some.key
    c.in-Some.entry c.requires.entries c.loop-key.invariant.ledger c.loop-key.invariant.whole c.in-Some.ensures.steps.0).0

pub entry-requires-clause-op : goal.entry-requires-clause-op
entry-requires-clause-op c =
    (row_behind c.loop-key.parts c.args.parts.ledger c.args.rows.items c.loop-key.key-iterator.rest.items c.next.new.self.rest.items c.in-Some.key
    c.in-Some.entry c.requires.entries c.loop-key.invariant.ledger c.loop-key.invariant.whole c.in-Some.ensures.steps.0).1
