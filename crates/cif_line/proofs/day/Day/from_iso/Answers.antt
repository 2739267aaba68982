use Rattle.cif_laws.proofs.Common.{ap, ◌∙◌, sym, Some, day_text}
use Rattle.std.specs.Cmp.Lexicographic.{same_text, other_text}
use Rattle.cif_line.proofs.DateFields.{digits_in-day_text}
use Rattle.cif_line.proofs.day.Day.from_iso.Goals as goal

pub returns-in_err-day-clause-read : goal.returns-in_err-day-clause-read
returns-in_err-day-clause-read c day low same =
    let read = digits_in-day_text day low c.as_bytes.result.now (c.as_bytes.ensures.value ∙ same) in
    absurd (cc (c.in_err-day.ensures.some.1 read.0))

pub returns-then-eq-clause-value : goal.returns-then-eq-clause-value
returns-then-eq-clause-value c =
    sym c.as_bytes-2.ensures.value ∙ sym (same_text c.as_slice.result.now c.as_bytes-2.result.now c.if-eq.ensures) ∙ c.as_slice.ensures ∙ c.iso.ensures.text

pub returns-then-eq-clause-read : goal.returns-then-eq-clause-read
returns-then-eq-clause-read c day low same =
    let read = digits_in-day_text day low c.as_bytes.result.now (c.as_bytes.ensures.value ∙ same) in
    ap Some (c.in_ok-day.ensures.value ∙ read.1)

pub returns-else-eq-clause-read : goal.returns-else-eq-clause-read
returns-else-eq-clause-read c day low same =
    let read = digits_in-day_text day low c.as_bytes.result.now (c.as_bytes.ensures.value ∙ same) in
    let written = c.as_slice.ensures ∙ c.iso.ensures.text ∙ ap day_text (c.in_ok-day.ensures.value ∙ read.1) ∙ sym same ∙ sym c.as_bytes-2.ensures.value in
    absurd (other_text c.as_slice.result.now c.as_bytes-2.result.now c.if-eq.ensures written)
