-- A first line with good fields has a date in columns 10 to 15.
use Rattle.cif_laws.proofs.Common.{◌≡◌, sym, true, false, ◌∙◌, basic_schedule}
use Rattle.cif_laws.proofs.records.Columns.{good_fields}
use Rattle.state_text.proofs.body.is_first_of.Goals as goal

pub returns-then-not-is_new_schedule-clause-refused : goal.returns-then-not-is_new_schedule-clause-refused
returns-then-not-is_new_schedule-clause-refused c = λ none first.
    let date = (good_fields basic_schedule c.args.line.now first.kind first.fields).1.0 in
    let told = c.is_new_schedule.ensures.1 (first.of_key.new, date, first.of_key.key_is) in
    let no : true ≡ false = sym told ∙ c.if-not-is_new_schedule.true in
    cc
