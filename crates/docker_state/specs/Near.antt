-- Defines the position of a key among rows in key order.
use Rattle.std.specs.Prelude.{◌≡◌, ℕ, ◌-◌, ◌<◌, ◌≤◌, List, length, get_or}
use Rattle.std.specs.declared.cmp.Ordering.TheVariants.{Less, Greater}
use Rattle.docker_model.specs.file.Change as model
use Rattle.docker_model.specs.state.Op.{key_cmp}
use Rattle.cif_change.specs.Meaning.{key_meant}
use Rattle.cif_change.specs.declared.key.Key.{Key}
use Rattle.docker_join.specs.declared.entry.Entry.{Entry}

-- Says that the key is below the key of the row at this index, or that this is the index just after
-- the last row.
abbrev pub IsBelowAt : model.Key → List (Key × Entry) → ℕ → Type 0
IsBelowAt key rows at =
    (at ≤ length rows) × ((d : Key × Entry) → at < length rows → key_cmp (key_meant (get_or rows at d).0) key ≡ Greater)

-- Says that the key is above the key of the row just before this index, or that there is no such
-- row.
abbrev pub IsAboveBefore : model.Key → List (Key × Entry) → ℕ → Type 0
IsAboveBefore key rows at =
    (d : Key × Entry) → 0 < at → key_cmp (key_meant (get_or rows (at - 1) d).0) key ≡ Less
