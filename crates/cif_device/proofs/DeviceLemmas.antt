-- Consecutive writes or reads, and the failure count of a device.
use Rattle.std.proofs.Common.{◌≡◌, ℕ, ◌+◌, ◌-◌, List, ◌++◌, arith, length, take, drop, replicate, Option, ap, sym, ◌∙◌, append_assoc, rules, ◌≢◌, true, false}
use Rattle.std.proofs.Common.{Result, IsErr, OnOk, OnErr}
use Rattle.std.proofs.lemmas.Grind.{common_steps}
use Rattle.std.specs.List.{concat}
use Rattle.std.proofs.lemmas.List.{replicate-append-replicate}
use Rattle.std.proofs.lemmas.List.Folds.{concat-append}
use Rattle.std.proofs.Math.Seq.{take-add}
use Rattle.cif_device.specs.Device.{CountsFailure, Takes, Round, Goes}

-- if a sink takes one piece and then another piece, it takes their concatenation
pub Takes-append : (old middle new : Option (List ℕ)) (front back : List ℕ) →
    Takes old front middle → Takes middle back new → Takes old (front ++ back) new
Takes-append = search (rules, append_assoc)

-- if a sink takes the first `done` bytes of a piece and then the next `n` bytes, it takes the first
-- `done + n` bytes
pub Takes-take : (old middle new : Option (List ℕ)) (piece : List ℕ) (done n : ℕ) →
    Takes old (take done piece) middle → Takes middle (take n (drop done piece)) new →
    Takes old (take (done + n) piece) new
Takes-take = grind (common_steps, arith, take-add)

-- after `n` elements of a list are dropped, the first `length xs - n` elements of the rest are the
-- whole rest
pub take-drop_all : (n : ℕ) (xs : List ℕ) → take (length xs - n) (drop n xs) ≡ drop n xs
take-drop_all n xs = grind (arith, common_steps)

-- a text repeated `m + n` times is the text repeated `m` times, followed by the text repeated `n`
-- times
concat-replicate_add : (m n : ℕ) (text : List ℕ) →
    concat (replicate (m + n) text) ≡ concat (replicate m text) ++ concat (replicate n text)
concat-replicate_add m n text =
    ap concat (sym (replicate-append-replicate m n text)) ∙ concat-append (replicate m text) (replicate n text)

-- if an endless source returns one list of bytes and then another, it returns their concatenation
pub Goes-append : (old middle new : Round) (front back : List ℕ) →
    Goes old front middle → Goes middle back new → Goes old (front ++ back) new
Goes-append old middle new front back (again, step, m, first) (again', step', n, second) =
    (again' ∙ again, step' ∙ step, m + n, search (rules, concat-replicate_add, append_assoc))

-- ---- the failure count of a device

one_more_is_other : (before after : ℕ) → after ≡ before → after ≢ before + 1
one_more_is_other before after same more = grind (arith, common_steps)

false_is_not_true : false ≢ true
false_is_not_true is = cc

-- if a count is unchanged on success and rises by one on an error, it counts exactly the failures
pub counts_error : {A E : Type 0} (result : Result A E) (before after : ℕ) →
    OnOk result (after ≡ before) → OnErr result (after ≡ before + 1) → CountsFailure (IsErr result) before after
counts_error = search (rules, false_is_not_true, one_more_is_other)
