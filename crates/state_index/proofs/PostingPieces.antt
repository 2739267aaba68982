-- In a list of ascending postings, the postings of one place are consecutive.
use Rattle.cif_laws.proofs.Common.{◌≡◌, ℕ, ◌≤◌, List, take, drop, length, rules, refl, ap, sym, ◌∙◌, Bool, true, false, IsPartitionedBy, IsPartitionPoint}
use Rattle.cif_laws.proofs.Common.{Ordering, Less, Equal, Greater, is_lt, nat_cmp, tied_itself, nat_cmp_total, exact_unsigned, IsStrictlyAscending}
use Rattle.std.specs.Ordering.{is_le}
use Rattle.state_index.specs.declared.posting.Posting.{Posting}
use Rattle.state_index.proofs.Pieces.{piece_parts, parted_by}
use Rattle.state_index.specs.PostingOrder.{posting_cmp}
use Rattle.state_index.specs.PlaceRows.{IsPieceOf}

-- compares the index of a posting's place with a given index
abbrev by_place : ℕ → Posting → Ordering
by_place place posting = nat_cmp posting.place place

-- Says that a test of a comparison is monotone: it fails for `Greater`, and if it passes for `Equal`, it also passes for `Less`.
abbrev GoesDown : (Ordering → Bool) → Type 0
GoesDown test = (test Greater ≡ false) × (test Equal ≡ true → test Less ≡ true)

module _ (test : Ordering → Bool) (down : GoesDown test) (place : ℕ) where
  passes_below : (a b : Posting) → posting_cmp a b ≡ Less → test (by_place place b) ≡ true → test (by_place place a) ≡ true
  passes_below = search rules

-- whether the index of a posting's place is below a given index
abbrev pub is_before : ℕ → Posting → Bool
is_before place posting = is_lt (nat_cmp posting.place place)

-- whether the index of a posting's place is at most a given index
abbrev pub is_up_to : ℕ → Posting → Bool
is_up_to place posting = is_le (nat_cmp posting.place place)

pub parted_before : (place : ℕ) (postings : List Posting) → IsStrictlyAscending posting_cmp postings → IsPartitionedBy (is_before place) postings
parted_before place postings up = parted_by posting_cmp (is_before place) (passes_below is_lt (refl, λ same. refl) place) postings up

pub parted_up_to : (place : ℕ) (postings : List Posting) → IsStrictlyAscending posting_cmp postings → IsPartitionedBy (is_up_to place) postings
parted_up_to place postings up = parted_by posting_cmp (is_up_to place) (passes_below is_le (refl, λ same. refl) place) postings up

not_itself : (place : ℕ) (posting : Posting) (o : Ordering) → nat_cmp posting.place place ≡ o → ¬ (o ≡ Equal) → ¬ (posting.place ≡ place)
not_itself place posting o is other = λ same. other (sym is ∙ ap (λ p. nat_cmp p place) same ∙ tied_itself nat_cmp_total place)

before_other : (place : ℕ) (posting : Posting) → is_before place posting ≡ true → ¬ (posting.place ≡ place)
before_other = search (rules, not_itself)

behind_other : (place : ℕ) (posting : Posting) → is_up_to place posting ≡ false → ¬ (posting.place ≡ place)
behind_other = search (rules, not_itself)

here_is : (place : ℕ) (posting : Posting) → is_before place posting ≡ false → is_up_to place posting ≡ true → posting.place ≡ place
here_is = search (rules, exact_unsigned)

-- the postings between the two indexes that the searches find are the postings of the place
pub piece_is : (place : ℕ) (postings rest piece : List Posting) (from to : ℕ) → from ≤ length postings → rest ≡ drop from postings → to ≤ length rest → piece
    ≡ take to rest
    → IsPartitionPoint (λ posting. is_before place posting ≡ true) (λ posting. is_before place posting ≡ false) postings from
    → IsPartitionPoint (λ posting. is_up_to place posting ≡ true) (λ posting. is_up_to place posting ≡ false) rest to
    → IsPieceOf place postings piece
piece_is place postings rest piece from to from_within rest_is to_within piece_at before_parts here_parts =
    let parts = piece_parts (is_before place) (is_up_to place) postings rest piece from to from_within rest_is to_within piece_at before_parts here_parts in
    record {
      before = take from postings;
      behind = drop to rest;
      whole = parts.0;
      none_before = λ posting among. before_other place posting (parts.1 posting among);
      here = λ posting among. let told = parts.2 posting among in here_is place posting told.0 told.1;
      none_behind = λ posting among. behind_other place posting (parts.3 posting among);
    }
