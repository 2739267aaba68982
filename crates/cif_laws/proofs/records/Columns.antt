-- Lemmas on the columns and the good fields of a record, before and after the record's transaction
-- is set to N.
use Rattle.cif_laws.proofs.Common.{◌≡◌, ℕ, ◌-◌, ◌<◌, ◌≤◌, List, [], ◌∷◌, take, drop, set, subst, refl, rules, common_steps, ap, sym, ◌∙◌, true, cond, Some}
use Rattle.cif_laws.proofs.Common.{None, arith, length-drop, not, option_map, find, slice_index, AllByRecursion, length-take-le, get_or-drop, get_or-take}
use Rattle.cif_laws.proofs.Common.{All-set, Kind, IsRecord, is_printable, columns, column, kind_of, HasKind, IsTextOfLength, CheckedField, HasGoodFields}
use Rattle.cif_laws.proofs.Common.{checked_fields, as_new}
use Rattle.std.proofs.Common.{length-set}
use Rattle.std.proofs.lemmas.List.{get_or-set_other, get_or-set_same, take-set}
use Rattle.docker_model.specs.records.Field.{fields_of, HasNewTransaction}

-- the field is good in this record
abbrev pub IsGoodIn : List ℕ → CheckedField → Type 0
IsGoodIn line field = field.is_good (columns field.first field.last line) ≡ true

-- if the search for a bad field returns `None`, each field is good
none_found : (line : List ℕ) (fields : List CheckedField)
    → option_map (λ (field : CheckedField). field.first) (find (λ field. not (field.is_good (columns field.first field.last line))) fields) ≡ None
    → AllByRecursion (IsGoodIn line) fields
none_found line [] none = tt
none_found line (field ∷ fields) none = grind (arith, (none_found line fields))

all_found : (line : List ℕ) (fields : List CheckedField) → AllByRecursion (IsGoodIn line) fields
    → option_map (λ (field : CheckedField). field.first) (find (λ field. not (field.is_good (columns field.first field.last line))) fields) ≡ None
all_found line [] all = refl
all_found line (field ∷ fields) all =
    (λ i. option_map (λ (f : CheckedField). f.first) (cond (not (all.0 i)) (Some field) (find (λ f. not (f.is_good (columns f.first f.last line))) fields)))
    ∙ all_found line fields all.1

-- in a record with good fields each checked field is good
pub good_fields : (kind : Kind) (line : List ℕ) → HasKind kind line → HasGoodFields line → AllByRecursion (IsGoodIn line) (checked_fields kind line)
good_fields kind line is good = subst (λ k. AllByRecursion (IsGoodIn line) (fields_of k line)) is (none_found line (fields_of (kind_of line) line) good)

-- if each checked field of a record is good, the record has good fields
pub fields_good : (kind : Kind) (line : List ℕ) → HasKind kind line → AllByRecursion (IsGoodIn line) (checked_fields kind line) → HasGoodFields line
fields_good kind line is all = all_found line (fields_of (kind_of line) line) (subst (λ k. AllByRecursion (IsGoodIn line) (fields_of k line)) (sym is) all)

-- the bytes in a range of columns of a record are printable, and their number is the width of the
-- range
pub text_in : (line : List ℕ) (first last : ℕ) → IsRecord line → first - 1 ≤ last → last ≤ 80 → IsTextOfLength (last - (first - 1)) (columns first last line)
text_in = grind (common_steps, arith, length-drop, length-take-le)

-- the only byte of a one-column field is the byte in that column
pub one_column : (line : List ℕ) (n : ℕ) → 0 < n → slice_index (columns n n line) 0 ≡ column n line
one_column = search (rules, get_or-take, get_or-drop)

-- each column of a record is printable
pub printable_column : (line : List ℕ) (n : ℕ) → IsRecord line → n - 1 < 80 → is_printable (column n line) ≡ true
printable_column line n is within = let size = is.0 in is.1 (n - 1) 0 (omega arith)

-- ---- setting the transaction to N preserves the kind of a record and its later columns

drop_set : (i k : ℕ) (xs : List ℕ) (y : ℕ) → i < k → drop k (set xs i y) ≡ drop k xs
drop_set = grind (common_steps, arith)

-- setting the transaction to N leaves the columns after it unchanged
pub new_columns : (line : List ℕ) (first last : ℕ) → 3 < first → columns first last (as_new line) ≡ columns first last line
new_columns line first last behind = ap (λ rest. take (last - (first - 1)) rest) (drop_set 2 (first - 1) line 78 (omega arith))

-- setting the transaction to N leaves each column after it unchanged
pub new_column : (line : List ℕ) (n : ℕ) → 3 < n → column n (as_new line) ≡ column n line
new_column line n behind = get_or-set_other line 2 (n - 1) 78 0 (omega arith)

-- setting the transaction to N preserves the kind of a record
pub new_kind : (line : List ℕ) → kind_of (as_new line) ≡ kind_of line
new_kind = search (rules, take-set)

-- after its transaction is set to N, a record is still a record
pub new_record : (line : List ℕ) → IsRecord line → IsRecord (as_new line)
new_record line is = (length-set line 2 78 ∙ is.0, All-set (λ b. is_printable b ≡ true) line 2 78 refl is.1)

-- after its transaction is set to N, a record has the transaction N
pub is_new : (line : List ℕ) → IsRecord line → HasNewTransaction (as_new line)
is_new line is = let size = is.0 in get_or-set_same line 2 78 0 (omega arith)
