-- Pieces of lists. A list is cut into three parts, and the part in the middle is the piece. For example, the piece may have the elements between two indexes
-- that binary searches find.
use Rattle.cif_laws.proofs.Common.{◌≡◌, ℕ, zero, suc, ◌+◌, ◌<◌, ◌≤◌, List, [], ◌∷◌, ◌++◌, length, get_or, take, drop, sym, ◌∙◌, subst, inl, inr, Bool, true}
use Rattle.cif_laws.proofs.Common.{false, arith, Contains, rules, AllWithin, IsPartitionedBy, IsPartitionPoint, Ordering, Less, cases_lt, append_assoc}
use Rattle.cif_laws.proofs.Common.{get_or-take, get_or-drop, length-drop, length-take-le, take-append-drop, Contains-append_left, Contains-append_right}
use Rattle.cif_laws.proofs.Common.{Contains-append_cases, IsBelow, IsStrictlyAscending}
use Rattle.cif_laws.proofs.lists.AllOf.{all_front}
use Rattle.cif_laws.proofs.lists.Later.{pairs_from_later}
use Rattle.cif_laws.proofs.orders.Ascending.{later_of}

module _ {A : Type 0} where
  -- a member of a piece is a member of the list
  pub in_whole : (xs before piece behind : List A) (x : A) → xs ≡ (before ++ piece) ++ behind → Contains piece x → Contains xs x
  in_whole xs before piece behind x whole among = subst (λ zs. Contains zs x) (sym whole)
      (Contains-append_left (before ++ piece) behind x (Contains-append_right before piece x among))

  -- a member of the list that is in neither of the other parts is a member of the piece
  pub in_piece : (xs before piece behind : List A) (x : A) → xs ≡ (before ++ piece) ++ behind → ¬ (Contains before x) → ¬ (Contains behind x)
      → Contains xs x → Contains piece x
  in_piece xs before piece behind x whole not_before not_behind among =
      elim (Contains-append_cases (before ++ piece) behind x (subst (λ zs. Contains zs x) whole among)) [
        | inl front ↦ elim (Contains-append_cases before piece x front) [
          | inl early ↦ absurd (not_before early)
          | inr here ↦ here
        ]
        | inr late ↦ absurd (not_behind late)
      ]

  -- if all elements at indexes below n have a property, each of the first n elements has it
  taken : (P : A → Type 0) (xs : List A) (n : ℕ) → n ≤ length xs → AllWithin P xs 0 n → (x : A) → Contains (take n xs) x → P x
  taken P xs n bound all x (k, within, is) =
      let below : k < n = (let size = length-take-le n xs bound in omega arith) in
      subst P (sym (get_or-take n xs k x below) ∙ is) (all k x (omega arith) below)

  -- if all elements at indexes from n on have a property, each element after the first n elements has it
  dropped : (P : A → Type 0) (xs : List A) (n : ℕ) → AllWithin P xs n (length xs) → (x : A) → Contains (drop n xs) x → P x
  dropped P xs n all x (k, within, is) = subst P (sym (get_or-drop n xs k x) ∙ is) (all (n + k) x (omega arith) (let size = length-drop n xs in omega arith))

  -- cut a list at the index where a first test begins to fail, and the rest at the index where a second test begins to fail. In the piece between the two
  -- indexes, the first test fails and the second test passes
  pub piece_parts : (one two : A → Bool) (xs rest piece : List A) (n m : ℕ) → n ≤ length xs → rest ≡ drop n xs → m ≤ length rest → piece ≡ take m rest
      → IsPartitionPoint (λ x. one x ≡ true) (λ x. one x ≡ false) xs n → IsPartitionPoint (λ x. two x ≡ true) (λ x. two x ≡ false) rest m
      → (xs ≡ (take n xs ++ piece) ++ drop m rest) × ((x : A) → Contains (take n xs) x → one x ≡ true)
      × ((x : A) → Contains piece x → (one x ≡ false) × (two x ≡ true)) × ((x : A) → Contains (drop m rest) x → two x ≡ false)
  piece_parts one two xs rest piece n m bound rest_is bound_2 piece_is first second = (
    search (rules, take-append-drop, append_assoc),
    taken (λ x. one x ≡ true) xs n bound first.0,
    λ x among.
        let inside = subst (λ zs. Contains zs x) piece_is among in
        let behind = subst (λ zs. Contains zs x) (take-append-drop m rest ∙ rest_is) (Contains-append_left (take m rest) (drop m rest) x inside) in
        (dropped (λ y. one y ≡ false) xs n first.1 x behind, taken (λ y. two y ≡ true) rest m bound_2 second.0 x inside),
    dropped (λ x. two x ≡ false) rest m second.1,
  )

module _ {A : Type 0} (cmp : A → A → Ordering) where
  -- if a test passes for each element that is below an element for which it passes, it parts an ascending list
  pub parted_by : (test : A → Bool) → ((a b : A) → cmp a b ≡ Less → test b ≡ true → test a ≡ true) → (xs : List A) → IsStrictlyAscending cmp xs
      → IsPartitionedBy test xs
  parted_by test down xs up = λ i j d before within passes. elim (cases_lt i j) [
    | inl strictly ↦ down (get_or xs i d) (get_or xs j d) (pairs_from_later _ xs (later_of cmp xs up) i j d strictly within) passes
    | inr after ↦ let same : j ≡ i = omega arith in subst (λ k. test (get_or xs k d) ≡ true) same passes
  ]

  -- if a list ascends, the elements after the first n ascend too
  pub behind_ascends : (xs : List A) (n : ℕ) → IsStrictlyAscending cmp xs → IsStrictlyAscending cmp (drop n xs)
  behind_ascends xs zero up = up
  behind_ascends [] (suc n) up = tt
  behind_ascends (x ∷ xs) (suc n) up = behind_ascends xs n up.1

  -- a piece of an ascending list ascends
  pub piece_ascends : (before piece behind : List A) → IsStrictlyAscending cmp ((before ++ piece) ++ behind) → IsStrictlyAscending cmp piece
  piece_ascends [] [] behind up = tt
  piece_ascends [] (x ∷ piece) behind up = (all_front (IsBelow cmp x) piece behind up.0, piece_ascends [] piece behind up.1)
  piece_ascends (y ∷ before) piece behind up = piece_ascends before piece behind up.1
