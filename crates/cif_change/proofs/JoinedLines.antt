-- Lemmas on comparing lists of lines by their joined bytes. Equal lines at the front can be skipped.
use Rattle.cif_laws.proofs.Common.{◌≡◌, ℕ, List, [], ◌∷◌, ◌++◌, refl, ap, ◌∙◌, rules, concat, ordering_then, nat_cmp_total, tied_itself, bytes_cmp}

-- prepending the same bytes to two lists of bytes doesn't change how the lists compare
pub behind_front : (front xs ys : List ℕ) → bytes_cmp (front ++ xs) (front ++ ys) ≡ bytes_cmp xs ys
behind_front [] xs ys = refl
behind_front (b ∷ front) xs ys =
    ap (λ first. ordering_then first (bytes_cmp (front ++ xs) (front ++ ys))) (tied_itself nat_cmp_total b) ∙ behind_front front xs ys

-- prepending equal lines to two lists of lines doesn't change how the joined bytes of the lists
-- compare
pub behind_same : (line other : List ℕ) (lines others : List (List ℕ)) → line ≡ other
    → bytes_cmp (concat (line ∷ lines)) (concat (other ∷ others)) ≡ bytes_cmp (concat lines) (concat others)
behind_same = search (rules, behind_front)

-- if the first lines of two lists are equal, comparing the lists gives the same result as comparing
-- the lines after the first
pub after_first_record : (lines others rest left : List (List ℕ)) (line other : List ℕ) → lines ≡ line ∷ rest → others ≡ other ∷ left → line ≡ other
    → bytes_cmp (concat rest) (concat left) ≡ bytes_cmp (concat lines) (concat others)
after_first_record = search (rules, behind_same)
