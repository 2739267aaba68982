-- Lists that have the same members.
use Rattle.cif_laws.proofs.Common.{List, ◌++◌, inl, inr, Contains, IsPermutation, Contains-append_left, Contains-append_right, Contains-append_cases}
use Rattle.cif_laws.proofs.Common.{Contains-permutation, IsPermutation-sym}
use Rattle.cif_laws.proofs.lists.Membership.{SameMembers}

-- two lists that have the same members still have the same members after the same list is appended to both
pub more_members : {A : Type 0} (xs ys zs : List A) → SameMembers xs ys → SameMembers (xs ++ zs) (ys ++ zs)
more_members {A} xs ys zs same x = (over xs ys (same x).0, over ys xs (same x).1)
  where
    over : (us vs : List A) → (Contains us x → Contains vs x) → Contains (us ++ zs) x → Contains (vs ++ zs) x
    over us vs to among = elim (Contains-append_cases us zs x among) [
      | inl front ↦ Contains-append_left vs zs x (to front)
      | inr last ↦ Contains-append_right vs zs x last
    ]

-- a list that has the members of a list still has them after the list is sorted
pub sorted_members : {A : Type 0} (before after named : List A) → IsPermutation before after → SameMembers before named → SameMembers after named
sorted_members before after named moved same x = (
  λ among. (same x).0 (Contains-permutation after before x (IsPermutation-sym before after moved) among),
  λ among. Contains-permutation before after x moved ((same x).1 among),
)
