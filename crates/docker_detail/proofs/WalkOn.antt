-- A walk over the records of a schedule passes one record at a time.
use Rattle.cif_laws.proofs.Common.{◌≡◌, ℕ, ◌+◌, ◌<◌, ◌≤◌, List, [], ◌∷◌, length, subst, rules, Option, All, lt-leb, All-head, All-tail, times_of, HasGoodFields}
use Rattle.docker_detail.specs.Records.{change_after, first_of, place_from}

-- at the end of the records the walk stands at the place that it finds
pub ended : (passed number : ℕ) (change : Option (List ℕ)) (rest : List (List ℕ)) → rest ≡ []
    → record { change = change; location = first_of rest } ≡ place_from passed change rest number
ended = search rules

-- if a later event is sought, the walk finds it also after the next record
pub past : (passed count number later : ℕ) (change changed : Option (List ℕ)) (rest : List (List ℕ)) (line : List ℕ) (lines : List (List ℕ))
    → rest ≡ line ∷ lines
    → count ≡ length (times_of line) → changed ≡ change_after line change → passed + count < number → number ≤ later
    → place_from (passed + count) changed lines later ≡ place_from passed change rest later
past = search (rules, lt-leb)

-- the fields of the next record are good
pub next_good : (rest : List (List ℕ)) (line : List ℕ) (lines : List (List ℕ)) → rest ≡ line ∷ lines → All HasGoodFields rest → HasGoodFields line
next_good rest line lines is good = All-head HasGoodFields line lines (subst (All HasGoodFields) is good)

-- the fields of the records after it are good
pub rest_good : (rest : List (List ℕ)) (line : List ℕ) (lines : List (List ℕ)) → rest ≡ line ∷ lines → All HasGoodFields rest → All HasGoodFields lines
rest_good rest line lines is good = All-tail HasGoodFields line lines (subst (All HasGoodFields) is good)
