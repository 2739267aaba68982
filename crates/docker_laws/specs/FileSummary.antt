-- The summary of one file, computed from its changes.
use Rattle.std.specs.Prelude.{List, [], ◌∷◌, map, ℕ}
use Rattle.std.specs.declared.cmp.Ordering.{Ordering}
use Rattle.std.specs.declared.cmp.Ordering.TheVariants.{Less, Equal, Greater}
use Rattle.docker_model.specs.file.Change.{Key, Change, changes}
use Rattle.docker_model.specs.state.Stamp.{ledger_item_of}
use Rattle.docker_model.specs.state.Op.{Entry, key_cmp}
use Rattle.docker_model.specs.state.State.{State}
use Rattle.docker_model.specs.state.Summary.{entry_of}

-- the list `first ∷ entries` after an entry is inserted in key order. The first argument says how
-- the key of the inserted entry compares with the first key. If the inserted key is lower, the
-- entry is put at the front. If the keys are equal, the entry isn't inserted. If the inserted key
-- is higher, the entry belongs later in the list, and `rest` is `entries` with the entry inserted
abbrev pub placed : Ordering → Key × Entry → Key × Entry → List (Key × Entry) → List (Key × Entry) → List (Key × Entry)
placed Less entry first entries rest = entry ∷ first ∷ entries
placed Equal entry first entries rest = first ∷ entries
placed Greater entry first entries rest = first ∷ rest

-- the list, in key order, after an entry is inserted. The entry is left out if the list already has
-- an entry with the same key
abbrev pub with_earlier : Key × Entry → List (Key × Entry) → List (Key × Entry)
with_earlier entry [] = entry ∷ []
with_earlier entry (first ∷ entries) = placed (key_cmp entry.0 first.0) entry first entries (with_earlier entry entries)

-- the last entry for each key in a list of entries. The result is in key order
abbrev pub latest_entries : List (Key × Entry) → List (Key × Entry)
latest_entries [] = []
latest_entries (entry ∷ entries) = with_earlier entry (latest_entries entries)

-- the summary of one file, without a horizon
abbrev pub summary_of : List (List ℕ) → State
summary_of file = record {
  horizon = 0;
  ledger = ledger_item_of file ∷ [];
  entries = latest_entries (map (λ (change : Change). (change.key, entry_of file change)) (changes file));
}
