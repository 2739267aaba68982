use Rattle.cif_laws.proofs.Common.{[], Some, ap, sym, ◌∙◌, slice_get-get_or}
use Rattle.state_index.proofs.names.is_at.Goals as goal

pub returns-in-Some : goal.returns-in-Some
returns-in-Some c = λ told.
    let found = c.in-Some.ensures.lookup.3 in
    slice_get-get_or c.args.places.now c.args.index [] found.0 ∙ ap Some (sym (found.1 []) ∙ c.is_same.ensures told)
