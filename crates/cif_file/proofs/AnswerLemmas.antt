-- Lemmas on results that are `Ok` or `Err`.
use Rattle.cif_laws.proofs.Common.{Result, Ok, Err, IsOk, OnOk, IfErr}

-- if a fact holds whenever the result is `Ok`, and the result is `Ok`, the fact holds
pub at_ok : {A E P : Type 0} (answer : Result A E) → OnOk answer P → IsOk answer → P
at_ok (Ok value) told ok = told
at_ok (Err error) told ok = absurd cc

-- suppose that one property of errors implies a second property. If the error of a result has the first property, the error also has the second
pub if_err_by : {A E : Type 0} {P Q : E → Type 0} (answer : Result A E) → ((error : E) → P error → Q error) → IfErr answer P → IfErr answer Q
if_err_by (Ok value) by told = told
if_err_by (Err error) by told = by error told
