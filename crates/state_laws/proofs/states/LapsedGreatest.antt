-- Lapsing commutes with taking the greatest entry: after lapsing, the greatest entry for a key is
-- still the greatest of the key's entries.
use Rattle.cif_laws.proofs.Common.{◌≡◌, ℕ, List, map, Contains, subst, ap, Key, IsAtMost, Op, op_cmp, Entry, entry_cmp, lapse, lapse_entry, lapse_keyed}
use Rattle.cif_laws.proofs.Common.{lapse_entries, IsGreatestAmong}
use Rattle.cif_laws.proofs.lists.Membership.{Contains-map, map-Contains}
use Rattle.state_laws.proofs.states.Lapse.{lapse_keeps_order, lapse_entry_keeps_order}

-- each entry of a lapsed list is made by lapsing an entry with the same key in the original list
pub lapsed_from : (horizon : ℕ) (entries : List (Key × Entry)) (key : Key) (entry : Entry) → Contains (lapse_entries horizon entries) (key, entry)
    → (before : Entry) × Contains entries (key, before) × (lapse_entry horizon before ≡ entry)
lapsed_from horizon entries key entry among =
    let found = Contains-map (lapse_keyed horizon) entries (key, entry) among in
    let same : found.0.0 ≡ key = ap (λ (pair : Key × Entry). pair.0) found.2 in
    (found.0.1, subst (λ k. Contains entries (k, found.0.1)) same found.1, ap (λ (pair : Key × Entry). pair.1) found.2)

-- if a list contains an entry, the lapsed list contains the lapsed entry
pub lapsed_to : (horizon : ℕ) (entries : List (Key × Entry)) (key : Key) (entry : Entry) → Contains entries (key, entry)
    → Contains (lapse_entries horizon entries) (key, lapse_entry horizon entry)
lapsed_to horizon entries key entry among = map-Contains (lapse_keyed horizon) entries (key, entry) among

-- if an entry is the greatest entry for its key in a list, the lapsed entry is the greatest entry
-- for the key in the lapsed list
pub greatest_lapses : (horizon : ℕ) (entries : List (Key × Entry)) (key : Key) (entry : Entry) → IsGreatestAmong entries key entry
    → IsGreatestAmong (lapse_entries horizon entries) key (lapse_entry horizon entry)
greatest_lapses horizon entries key entry best = record {
  among = lapsed_to horizon entries key entry best.among;
  greatest = λ other among.
      let found = lapsed_from horizon entries key other among in
      subst (λ e. IsAtMost entry_cmp e (lapse_entry horizon entry)) found.2 (lapse_entry_keeps_order horizon found.0 entry (best.greatest found.0 found.1));
}

-- if an op is the greatest in a list, the lapsed op is the greatest in the lapsed list
pub greatest_op_lapses : (horizon : ℕ) (ops : List Op) (op : Op) → Contains ops op → ((other : Op) → Contains ops other → IsAtMost op_cmp other op)
    → Contains (map (lapse horizon) ops) (lapse horizon op) × ((other : Op) → Contains (map (lapse horizon) ops) other
    → IsAtMost op_cmp other (lapse horizon op))
greatest_op_lapses horizon ops op among greatest = (
  map-Contains _ ops _ among,
  λ other inside.
      let found = Contains-map (lapse horizon) _ other inside in
      subst (λ o. IsAtMost op_cmp o (lapse horizon op)) found.2 (lapse_keeps_order _ found.0 _ (greatest found.0 found.1)),
)
