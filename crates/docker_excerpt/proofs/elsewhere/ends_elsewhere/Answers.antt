-- Each of the made-up lines is a record.
use Rattle.cif_laws.proofs.Common.{◌≡◌, ◌++◌, ℕ, List, length, true, refl, codes, list_all, AllPass-from_list_all, spaces, IsRecord, is_printable}
use Rattle.docker_excerpt.proofs.elsewhere.ends_elsewhere.Goals as goal

record_by : (line : List ℕ) → length line ≡ 80 → list_all is_printable line ≡ true → IsRecord line
record_by line long printable = (long, AllPass-from_list_all is_printable line printable)

pub line_of-requires : goal.line_of-requires
line_of-requires c = record_by (codes "LOANOTHER 0000 0000" ++ spaces 61) refl refl

pub line_of-requires-then-eq : goal.line_of-requires-then-eq
line_of-requires-then-eq c = record_by (codes "LTANOTHER 0000 0000" ++ spaces 61) refl refl

pub line_of-requires-2 : goal.line_of-requires-2
line_of-requires-2 c = record_by (codes "LONOWHERE 0000 0000" ++ spaces 61) refl refl

pub line_of-requires-3 : goal.line_of-requires-3
line_of-requires-3 c = record_by (codes "LTNOWHERE 0000 0000" ++ spaces 61) refl refl
