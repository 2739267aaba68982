-- The conversion of keys from the code's type to the definitions' type is injective.
use Rattle.cif_laws.proofs.Common.{◌≡◌, rules}
use Rattle.cif_line.specs.Letter.{stp_letter}
use Rattle.cif_line.specs.declared.letter.Stp.{Stp}
use Rattle.cif_change.specs.declared.key.Key.{Key}
use Rattle.cif_change.specs.declared.key.AssocKey.{AssocKey}
use Rattle.cif_change.specs.declared.key.ScheduleKey.{ScheduleKey}
use Rattle.cif_change.specs.Meaning.{key_meant, association_key_meant, schedule_key_meant}

-- STP indicators with the same letter are equal
same_stp : (a b : Stp) → stp_letter a ≡ stp_letter b → a ≡ b
same_stp = search rules

same_association : (a b : AssocKey) → association_key_meant a ≡ association_key_meant b → a ≡ b
same_association = search (rules, same_stp)

same_schedule : (a b : ScheduleKey) → schedule_key_meant a ≡ schedule_key_meant b → a ≡ b
same_schedule = search (rules, same_stp)

-- keys of the code are equal if they are converted to equal keys of the definitions
pub same_key : (a b : Key) → key_meant a ≡ key_meant b → a ≡ b
same_key = search (rules, same_association, same_schedule)
