-- The live keys of a state, with their bodies.
use Rattle.std.specs.Prelude.{List, [], ◌∷◌}
use Rattle.docker_model.specs.file.Change.{Key, Body}
use Rattle.std.specs.Ordering.{on}
use Rattle.docker_model.specs.state.Order.{IsStrictlyAscending}
use Rattle.docker_model.specs.state.Op.{Op, deleted, lapsed, put_with, Entry, key_cmp}

-- the list with the key and its body prepended, if the op is a put; otherwise the unchanged list
abbrev pub put_before : Key → Op → List (Key × Body) → List (Key × Body)
put_before key deleted rest = rest
put_before key lapsed rest = rest
put_before key (put_with body) rest = (key, body) ∷ rest

-- each key under which an entry puts a body, with this body, in the order of the entries
abbrev pub live_rows : List (Key × Entry) → List (Key × Body)
live_rows [] = []
live_rows (entry ∷ entries) = put_before entry.0 entry.1.op (live_rows entries)

-- Says that the keys are strictly increasing.
abbrev pub AreInKeyOrder : List (Key × Body) → Type 0
AreInKeyOrder rows = IsStrictlyAscending (on (λ (row : Key × Body). row.0) key_cmp) rows
