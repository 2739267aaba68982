-- The changes of a file are the changes of its units, in order. A schedule ends before the first
-- record that can't follow a basic schedule.
use Rattle.cif_laws.proofs.Common.{◌≡◌, ℕ, ◌+◌, List, ◌∷◌, ◌++◌, length, map, subst, ap, sym, ◌∙◌, true, arith, append_assoc, append-nil, [], rules, Option}
use Rattle.cif_laws.proofs.Common.{AllByRecursion, flat_map, recursion_from_All, Kind, basic_schedule, trailer, HasKind, kind_of, IsFile, IsSchedule, IsUnit}
use Rattle.cif_laws.proofs.Common.{follows_basic, Key, Act, Change, schedule_rest, acts_by_kind, changes_of_record, changes_from, changes}
use Rattle.cif_laws.specs.UnitChange.{changes_of_unit, changes_of_units, change_of_schedule}
use Rattle.cif_laws.proofs.files.GoodChanges.{StopsHere, Follows, rest_is, schedule_follows, units_stop}

-- the change with this key, this act and this record number
abbrev change_of_act : ℕ → Key × Act → Change
change_of_act n act = record { number = n; key = act.0; act = act.1 }

-- ---- the changes of a unit depend only on its first record and, for a schedule, on the rest of
-- the schedule

-- the change of a basic schedule depends only on the basic schedule and on the other records of its
-- schedule
basic_alike : (n : ℕ) (basic : List ℕ) (following others : List (List ℕ)) → HasKind basic_schedule basic → schedule_rest following ≡ others
    → changes_of_record n basic following ≡ change_of_schedule n basic others ∷ []
basic_alike = search rules

-- ---- the records after a basic schedule make no changes

-- a record that can follow a basic schedule makes no changes
follower_changes_nothing : (kind : Option Kind) (line : List ℕ) (following : List (List ℕ)) → follows_basic kind ≡ true → acts_by_kind kind line following ≡ []
follower_changes_nothing = search rules

-- if all records of a prefix can follow a basic schedule, the changes of all records are the
-- changes of the records after the prefix
behind_followers : (n : ℕ) (lines rest : List (List ℕ)) → AllByRecursion Follows lines → changes_from n (lines ++ rest) ≡ changes_from (n + length lines) rest
behind_followers n [] rest all = ap (λ k. changes_from k rest) (omega arith)
behind_followers n (line ∷ lines) rest all =
    ap (λ acts. map (change_of_act n) acts ++ changes_from (n + 1) (lines ++ rest)) (follower_changes_nothing (kind_of line) line (lines ++ rest) all.0)
    ∙ behind_followers (n + 1) lines rest all.1
    ∙ ap (λ k. changes_from k rest) (omega arith)

-- ---- the changes of units are the changes of each unit, in order

-- each record of a schedule after the first can follow a basic schedule
others_follow : (basic : List ℕ) (others : List (List ℕ)) → IsSchedule (basic ∷ others) → AllByRecursion Follows others
others_follow basic others is =
    let whole : basic ∷ others ≡ is.basic ∷ (is.extra ++ is.journey) = is.whole in
    let same : others ≡ is.extra ++ is.journey = cc in
    subst (AllByRecursion Follows) (sym same) (schedule_follows (basic ∷ others) is)

is_basic : (basic : List ℕ) (others : List (List ℕ)) → IsSchedule (basic ∷ others) → HasKind basic_schedule basic
is_basic = search rules

-- a schedule makes exactly one change, `change_of_schedule`
pub schedule_change : (n : ℕ) (basic : List ℕ) (others : List (List ℕ)) → IsSchedule (basic ∷ others)
    → changes_of_unit n (basic ∷ others) ≡ change_of_schedule n basic others ∷ []
schedule_change n basic others is = basic_alike _ basic _ others (is_basic _ others is) (ap schedule_rest (sym (append-nil others))
    ∙ rest_is _ [] (others_follow _ others is) tt)

schedule_then : (n : ℕ) (basic : List ℕ) (others rest : List (List ℕ)) → IsSchedule (basic ∷ others) → StopsHere rest
    → changes_from n (basic ∷ others ++ rest) ≡ changes_of_unit n (basic ∷ others) ++ changes_from (n + length (basic ∷ others)) rest
schedule_then = grind (arith, basic_alike, is_basic, rest_is, schedule_change, behind_followers, others_follow)

-- the changes of a unit followed by other records are the changes of the unit, followed by the
-- changes of those records
pub unit_then : (n : ℕ) (unit rest : List (List ℕ)) → IsUnit unit → StopsHere rest → changes_from n (unit ++ rest) ≡ changes_of_unit n unit ++ changes_from
    (n + length unit) rest
unit_then = search (rules, schedule_then)

-- the changes of units followed by a trailer are the changes of the units
units_then : (n : ℕ) (units : List (List (List ℕ))) (last : List ℕ) → AllByRecursion IsUnit units → HasKind trailer last
    → changes_from n (flat_map (λ unit. unit) units ++ last ∷ []) ≡ changes_of_units n units
units_then n [] last all end = λ i. map (change_of_act n) (acts_by_kind (end i) last []) ++ []
units_then n (unit ∷ units) last all end = grind (arith, append_assoc, unit_then, units_stop, (units_then (n + length unit) units last all.1 end))

-- the changes of a file are the changes of its units, in order
pub changes_by_units : (file : List (List ℕ)) (is : IsFile file) → changes file ≡ changes_of_units 2 is.units
changes_by_units = search (rules, units_then, recursion_from_All)
