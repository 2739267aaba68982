use Rattle.state_lists.proofs.KnownLemmas.{is_known, minute_of_full}
use Rattle.state_lists.proofs.known.known_text.Goals as goal

pub lines_of-requires-clause-minute : goal.lines_of-requires-clause-minute
lines_of-requires-clause-minute c = minute_of_full c.args.state.now c.entries.ensures.valid c.floor.result c.floor.ensures

pub returns : goal.returns
returns c = is_known _ c.entries.ensures.valid _ c.entries.ensures.rows _ c.horizon.ensures.horizon _ c.floor.ensures _ c.tally_of-tally.ensures
    _ c.lines_of.ensures
