-- Rows that changes make, without numbers, and the last row for each key among them.
use Rattle.cif_laws.proofs.Common.{recursion_from_All, ◌≡◌, ℕ, suc, ◌<◌, List, [], ◌∷◌, ◌++◌, map, length, get_or, rules, sym, subst, Contains, All, false}
use Rattle.cif_laws.proofs.Common.{arith, ◌↔◌, IsSorted, IsPermutation, is_lt, map-append, All-contains, Contains-permutation, IsPermutation-sym}
use Rattle.cif_laws.proofs.Common.{FileStamp, IsAtMost, IsGreatestAmong}
use Rattle.std.proofs.lemmas.List.Sorted.{ranks_by, sorted_far, IsPermutation-map}
use Rattle.docker_model.specs.file.Change as model
use Rattle.docker_model.specs.state.Op as ops
use Rattle.cif_change.specs.declared.key.Key.{Key}
use Rattle.docker_join.specs.declared.entry.Entry.{Entry}
use Rattle.docker_join.specs.Meaning.{op_meant, row_meant}
use Rattle.docker_join.specs.Records.{HasRecords}
use Rattle.docker_join.specs.Rows.{AreAscending}
use Rattle.docker_state.specs.Rows.{last_rows, made_by}
use Rattle.docker_state.proofs.LastRows.{by_entry, AreSorted, lasts_ascend}
use Rattle.docker_state.proofs.GreatestRows.{by_entry_total, not_under, last_is_greatest, greatest_is_last}

-- adding a change appends its row to the rows of the changes before it
pub one_row_more : (file : FileStamp) (changes : List model.Change) (change : model.Change) (rows after : List (Key × Entry)) (row : Key × Entry)
    → after ≡ rows ++ row ∷ [] → row_meant row ≡ made_by file change → map row_meant rows ≡ map (made_by file) changes
    → map row_meant after ≡ map (made_by file) (changes ++ change ∷ [])
one_row_more = search (rules, map-append)

from_far : (xs : List (Key × Entry)) → ((i j : ℕ) (d : Key × Entry) → i < j → j < length xs → is_lt (by_entry (get_or xs j d) (get_or xs i d)) ≡ false)
    → AreSorted xs
from_far [] far = tt
from_far (x ∷ xs) far = (
  recursion_from_All (IsAtMost by_entry x) xs (λ j d within. not_under x _ (far 0 (suc j) d (omega arith) (omega arith))),
  from_far xs (λ i j d before within. far (suc i) (suc j) d (omega arith) (omega arith)),
)

-- in a list that is sorted by the library's definition, no row is greater than a later row
pub rows_sorted : (xs : List (Key × Entry)) → IsSorted by_entry xs → AreSorted xs
rows_sorted xs up = from_far xs
    (λ i j d before within. sorted_far (λ x y. is_lt (by_entry x y)) (ranks_by by_entry_total (λ m. m)) xs up i j d (omega arith) within)

-- the greatest entry for a key among some rows is the key's greatest entry in any list with the same rows
along : (xs ys : List (model.Key × ops.Entry)) → ((pair : model.Key × ops.Entry) → Contains xs pair → Contains ys pair)
    → ((pair : model.Key × ops.Entry) → Contains ys pair → Contains xs pair)
    → (key : model.Key) (entry : ops.Entry) → IsGreatestAmong xs key entry → IsGreatestAmong ys key entry
along xs ys to from key entry best = record { among = to (key, entry) best.among; greatest = λ other among. best.greatest other (from (key, other) among) }

module _ (old new out : List (Key × Entry)) (sorted : IsSorted by_entry new) (moved : IsPermutation old new) (last : out ≡ last_rows new) where
  -- the rows in `out`, which has the last row for each key in the sorted list, ascend
  pub lasts_in_order : AreAscending out
  lasts_in_order = subst (λ (rows : List (Key × Entry)). AreAscending rows) (sym last) (lasts_ascend new (rows_sorted new sorted))

  -- `out` has the last row for each key in the sorted list. These are exactly the rows with the greatest entry for their key
  pub lasts_are_greatest : All (λ (row : Key × Entry). HasRecords (op_meant row.1.op)) old → (key : model.Key) (entry : ops.Entry)
      → Contains (map row_meant out) (key, entry) ↔ IsGreatestAmong (map row_meant old) key entry
  lasts_are_greatest have key entry = (
    λ among. along _ _ from to _ _ (last_is_greatest _ (rows_sorted _ sorted) records _ _
        (subst (λ (rows : List (Key × Entry)). Contains (map row_meant rows) (key, entry)) last among)),
    λ best. subst (λ (rows : List (Key × Entry)). Contains (map row_meant rows) (key, entry)) (sym last)
        (greatest_is_last _ (rows_sorted _ sorted) records _ _ (along _ _ to from _ _ best)),
  )
    where
      meant : IsPermutation (map row_meant old) (map row_meant new)
      meant = IsPermutation-map row_meant old new moved

      to : (pair : model.Key × ops.Entry) → Contains (map row_meant old) pair → Contains (map row_meant new) pair
      to pair among = Contains-permutation (map row_meant old) (map row_meant new) pair meant among

      from : (pair : model.Key × ops.Entry) → Contains (map row_meant new) pair → Contains (map row_meant old) pair
      from pair among =
          Contains-permutation (map row_meant new) (map row_meant old) pair (IsPermutation-sym (map row_meant old) (map row_meant new) meant) among

      records : (row : Key × Entry) → Contains new row → HasRecords (op_meant row.1.op)
      records row among = All-contains (λ (r : Key × Entry). HasRecords (op_meant r.1.op)) old row have
          (Contains-permutation new old row (IsPermutation-sym old new moved) among)
