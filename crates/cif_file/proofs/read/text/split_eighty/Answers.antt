-- The result is the first 80 bytes, if a line end follows them.
use Rattle.cif_laws.proofs.Common.{◌≡◌, ℕ, ◌-◌, ◌≤◌, List, length, take, drop, sym, subst, arith, length-drop, take_all}
use Rattle.cif_file.specs.Cut.{BeginsWithEnd}
use Rattle.cif_file.proofs.TextLemmas.{begins_at, begins_with}
use Rattle.cif_file.proofs.read.text.split_eighty.Goals as goal

behind : (text : List ℕ) → 80 ≤ length text → take (length text - 80) (drop 80 text) ≡ drop 80 text
behind text some = take_all (length text - 80) (drop 80 text) (let size = length-drop 80 text in omega arith)

pub returns-in_err-rest : goal.returns-in_err-rest
returns-in_err-rest c = rw c.from_residual.ensures (λ line rest begins.
    let at = begins_at _ _ _ begins in
    c.in_err-rest.ensures rest (subst (λ l. BeginsWithEnd l rest) (sym (behind _ at.1)) at.0))

pub returns : goal.returns
returns c = begins_with _ _ c.if-text-lt-RECORD.false
    (subst (λ l. BeginsWithEnd l c.in_ok-rest.rest.now) (behind _ c.if-text-lt-RECORD.false) c.in_ok-rest.ensures)
