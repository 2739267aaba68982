-- The rows of an index for one place are a segment of the index. All rows in the segment are for
-- the place, and all other rows are for other places.
use Rattle.cif_laws.proofs.Common.{◌≡◌, ℕ, List, ◌∷◌, ◌++◌, map, refl, ap, ◌∙◌, Bool, true, false, cond, Contains, append-nil, rules, [], filter, bytes_eq}
use Rattle.cif_laws.proofs.Common.{filter-append, bytes_eq-Decides, schedule_key, association_key}
use Rattle.state_laws.specs.Index.{CallingRow, LinkedRow, calling_keys, linked_keys}
use Rattle.cif_laws.proofs.lists.Membership.{cons-Contains, cons-Contains-first}

module _ {K : Type 0} (place : List ℕ) where
  test : List ℕ × K → Bool
  test row = bytes_eq row.0 place

  all_kept : (rows : List (List ℕ × K)) → ((row : List ℕ × K) → Contains rows row → row.0 ≡ place) → filter test rows ≡ rows
  unfolding test
  all_kept [] each = refl
  all_kept (row ∷ rows) each =
      let here : bytes_eq row.0 place ≡ true = (bytes_eq-Decides row.0 place).1 (each row (cons-Contains-first row rows)) in
      (λ i. cond (here i) (row ∷ filter test rows) (filter test rows))
      ∙ ap (λ rest. row ∷ rest) (all_kept rows (λ other among. each other (cons-Contains row rows other among)))

  none_kept : (rows : List (List ℕ × K)) → ((row : List ℕ × K) → Contains rows row → ¬ (row.0 ≡ place)) → filter test rows ≡ []
  unfolding test
  none_kept [] each = refl
  none_kept (row ∷ rows) each =
      (elim (bytes_eq row.0 place) as (λ b. bytes_eq row.0 place ≡ b → cond b (row ∷ filter test rows) (filter test rows) ≡ []) [
        | true ↦ λ h. absurd (each row (cons-Contains-first row rows) ((bytes_eq-Decides row.0 place).0 h))
        | false ↦ λ h. none_kept rows (λ other among. each other (cons-Contains row rows other among))
      ]) refl

  -- if all rows of a segment are for the place and no other row of the index is for it, filtering
  -- the index by the place gives the segment
  pub piece_is : (front rows back : List (List ℕ × K)) → ((row : List ℕ × K) → Contains front row → ¬ (row.0 ≡ place))
      → ((row : List ℕ × K) → Contains rows row → row.0 ≡ place)
      → ((row : List ℕ × K) → Contains back row → ¬ (row.0 ≡ place)) → filter (λ (row : List ℕ × K). bytes_eq row.0 place) ((front ++ rows) ++ back) ≡ rows
  unfolding test
  piece_is = search (rules, filter-append, test, none_kept, all_kept, append-nil)

-- like `piece_is`, for the index of calls
pub calling_piece : (place : List ℕ) (front rows back : List CallingRow) → ((row : CallingRow) → Contains front row → ¬ (row.0 ≡ place))
    → ((row : CallingRow) → Contains rows row → row.0 ≡ place)
    → ((row : CallingRow) → Contains back row → ¬ (row.0 ≡ place)) → calling_keys ((front ++ rows) ++ back) place ≡ map
    (λ (row : CallingRow). schedule_key row.1) rows
calling_piece place front rows back before here behind = ap (map (λ (row : CallingRow). schedule_key row.1)) (piece_is place front rows back before here behind)

-- like `piece_is`, for the index of associations
pub linked_piece : (place : List ℕ) (front rows back : List LinkedRow) → ((row : LinkedRow) → Contains front row → ¬ (row.0 ≡ place))
    → ((row : LinkedRow) → Contains rows row → row.0 ≡ place)
    → ((row : LinkedRow) → Contains back row → ¬ (row.0 ≡ place)) → linked_keys ((front ++ rows) ++ back) place ≡ map
    (λ (row : LinkedRow). association_key row.1) rows
linked_piece place front rows back before here behind = ap (map (λ (row : LinkedRow). association_key row.1)) (piece_is _ _ _ back before here behind)
