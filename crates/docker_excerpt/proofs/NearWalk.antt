-- Skipping the entries that can't count on a day, and shortening the other entries, leaves the order
-- of the other entries unchanged.
use Rattle.cif_laws.proofs.Common.{◌≡◌, ℕ, List, sym, subst, All, Key, IsBelow, Entry, key_cmp, IsAboveEntries}
use Rattle.std.proofs.lemmas.List.Elements.{All-map}
use Rattle.docker_laws.specs.NearDay.{may_count, near_entries}
use Rattle.docker_laws.specs.Thinning.{excerpt_entry, excerpt_entries}
use Rattle.docker_laws.proofs.dockers.Sublists.{sublist_all, sublist_filter}
use Rattle.docker_excerpt.specs.Walked.{state_of_entries}

abbrev Keyed : Type 0
Keyed = Key × Entry

-- if a key is above all entries, it is above all shortened entries that may count on the day
pub near_above : (place : List ℕ) (day : ℕ) (near entries : List Keyed) (key : Key) → near ≡ excerpt_entries place day entries
    → IsAboveEntries (state_of_entries entries) key → IsAboveEntries (state_of_entries near) key
near_above place day near entries key is above = subst (All Below) (sym is) (All-map Below (excerpt_entry place day) (near_entries day entries) kept)
  where
    Below : Keyed → Type 0
    Below entry = IsBelow key_cmp entry.0 key

    kept : All Below (near_entries day entries)
    kept = sublist_all Below (near_entries day entries) entries (sublist_filter (λ (e : Keyed). may_count day e.1.op) entries) above
