-- How each step of the code's walk changes the kept rows, `run` and `names`. `run` has the
-- schedules of one UID, and `names` has the UIDs of associated trains.
use Rattle.cif_laws.proofs.Common.{◌≡◌, ℕ, List, [], ◌∷◌, ◌++◌, map, Bool, cond, rules, Option, Some, None, option_to_list, append-nil, map-append}
use Rattle.docker_model.specs.file.Change as model
use Rattle.docker_model.specs.state.Op as ops
use Rattle.cif_change.specs.declared.key.Key.{Key}
use Rattle.cif_change.specs.Meaning.{key_meant}
use Rattle.docker_join.specs.Meaning.{entry_meant, row_meant}
use Rattle.docker_join.specs.declared.entry.Entry.{Entry}
use Rattle.docker_excerpt.specs.Walked.{IsWalk}

-- converting rows to the types of the definitions commutes with appending a row
pub rows_more : (rows before after : List (Key × Entry)) (key : Key) (entry : Entry) → before ≡ rows → after ≡ before ++ (key, entry) ∷ []
    → map row_meant after ≡ map row_meant rows ++ (key_meant key, entry_meant entry) ∷ []
rows_more = search (rules, map-append)

-- if an entry has an associated train, the UID of this train is appended to the list `names`
pub names_with_some : (names after : List (List ℕ)) (name : List ℕ) (found told : Option (List ℕ)) → after ≡ names ++ name ∷ [] → found ≡ Some name
    → found ≡ told → after ≡ names ++ option_to_list told
names_with_some = search rules

-- if an entry has no associated train, the list `names` is unchanged
pub names_with_none : (names : List (List ℕ)) (found told : Option (List ℕ)) → found ≡ None → found ≡ told → names ≡ names ++ option_to_list told
names_with_none = search (rules, append-nil)

-- if two walks have equal fields and `IsWalk` holds for one of them, it holds for the other
pub walk_by : {place other_place : List ℕ} {entries kept run other_kept other_run : List (model.Key × ops.Entry)} {needed other_needed : Bool}
    {names other_names : List (List ℕ)}
    → other_place ≡ place → other_kept ≡ kept → other_run ≡ run → other_needed ≡ needed → other_names ≡ names
    → IsWalk place entries kept run needed names → IsWalk other_place entries other_kept other_run other_needed other_names
walk_by = search rules

-- after the last schedule of a UID, the rows of this UID's schedules are appended to the kept rows if they are needed, and dropped otherwise
pub run_ended : (needed other : Bool) (kept run after : List (Key × Entry)) → needed ≡ other → after ≡ cond needed (kept ++ run) kept
    → map row_meant after ≡ cond other (map row_meant kept ++ map row_meant run) (map row_meant kept)
run_ended = search (rules, map-append)
