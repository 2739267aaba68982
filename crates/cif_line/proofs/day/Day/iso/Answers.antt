use Rattle.cif_laws.proofs.Common.{arith, rules, ◌≡◌, ◌+◌, ◌/◌, ◌%◌, ◌∷◌, [], ◌∙◌, sym, unsigned_abs}
use Rattle.jiff_core.proofs.SignedLemmas.{signed_casts}
use Rattle.cif_line.proofs.day.Day.iso.Goals as goal

pub returns-clause-text : goal.returns-clause-text
returns-clause-text c =
    let y = unsigned_abs c.date-date.result.year in
    let d1 : c.digit.result ≡ 48 + y / 100 / 10 = omega (arith, signed_casts, c.date-date.ensures.years) in
    let d2 : c.digit-2.result ≡ 48 + y / 100 % 10 = omega (arith, signed_casts, c.date-date.ensures.years) in
    let d3 : c.digit-3.result ≡ 48 + y % 100 / 10 = omega (arith, signed_casts, c.date-date.ensures.years) in
    let d4 : c.digit-4.result ≡ 48 + y % 100 % 10 = omega (arith, signed_casts, c.date-date.ensures.years) in
    (λ i.
    d1 i ∷ d2 i ∷ d3 i ∷ d4 i ∷ 45 ∷ c.digit-5.ensures.value i ∷ c.digit-6.ensures.value i ∷ 45
    ∷ c.digit-7.ensures.value i ∷ c.digit-8.ensures.value i ∷ [])
    ∙ sym c.date-date.ensures.text

pub returns-clause-ascii : goal.returns-clause-ascii
returns-clause-ascii c = search rules
