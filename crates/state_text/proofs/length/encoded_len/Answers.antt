use Rattle.cif_laws.proofs.Common.{All, subst, sym, rules, length-append, length-map, recursion_from_All}
use Rattle.state_text.specs.Entries.{IsOfWidth}
use Rattle.state_text.proofs.LengthLemmas.{items_length, valid_widths}
use Rattle.state_text.proofs.length.encoded_len.Goals as goal

pub returns : goal.returns
returns c = search (rules, items_length, recursion_from_All, length-map, length-append)

pub rows_len-requires : goal.rows_len-requires
rows_len-requires c = subst (All IsOfWidth) (sym c.entries.ensures.rows) (valid_widths c.args.state.now c.entries.ensures.valid)
