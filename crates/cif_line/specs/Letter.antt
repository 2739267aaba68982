-- The character codes of the letters in one-letter fields.
use Rattle.std.specs.Prelude.{ℕ}
use Rattle.cif_line.specs.declared.letter.Extract.{Extract}
use Rattle.cif_line.specs.declared.letter.Extract.TheVariants as extract
use Rattle.cif_line.specs.declared.letter.Transaction.{Transaction}
use Rattle.cif_line.specs.declared.letter.Transaction.TheVariants as transaction
use Rattle.cif_line.specs.declared.letter.Stp.{Stp}
use Rattle.cif_line.specs.declared.letter.Stp.TheVariants as stp

-- the character code of an update indicator: F for a full extract, U for an update
abbrev pub extract_letter : Extract → ℕ
extract_letter extract.Full = 70
extract_letter extract.Update = 85

-- the character code of a transaction: N for new, D for delete, R for revise
abbrev pub transaction_letter : Transaction → ℕ
transaction_letter transaction.New = 78
transaction_letter transaction.Delete = 68
transaction_letter transaction.Revise = 82

-- the character code of an STP indicator: C for a cancellation, N for new, O for an overlay, P for
-- permanent
abbrev pub stp_letter : Stp → ℕ
stp_letter stp.Cancellation = 67
stp_letter stp.New = 78
stp_letter stp.Overlay = 79
stp_letter stp.Permanent = 80
