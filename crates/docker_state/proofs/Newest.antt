-- A stamp that is newer than all files in a ledger is newer than all entries from these files.
use Rattle.cif_laws.proofs.Common.{◌≡◌, Bool, true, List, [], ◌∷◌, ◌++◌, map, sym, ◌∙◌, subst, inl, inr, ◌⊎◌, Contains, rules, Option, ◌↔◌, IsTrue, Ordering}
use Rattle.cif_laws.proofs.Common.{Less, Equal, is_lt, nat_cmp, ordering_then, map-append, Key, IsBelow, IsAtMost, IsStrictlyAscending, Entry, op_cmp}
use Rattle.cif_laws.proofs.Common.{FileStamp, LedgerItem, file_stamp_cmp, ledger_item_cmp, IsKept, State, IsValid, IsGoodEntry}
use Rattle.std.proofs.lemmas.List.Elements.{Contains-push}
use Rattle.state_laws.specs.Staging.{IsToStage}
use Rattle.cif_laws.proofs.lists.Membership.{Contains-cons, Contains-map, below_by_recursion, member_of}
use Rattle.cif_laws.proofs.orders.AtMost.{at_most_below, at_most_or, at_most_trans, level}
use Rattle.cif_laws.proofs.orders.Orders.{file_stamp_total}

-- of two ledger items, the lower item's stamp isn't above the higher item's stamp
stamp_at_most : (a b : LedgerItem) → IsBelow ledger_item_cmp a b → IsAtMost file_stamp_cmp a.stamp b.stamp
stamp_at_most = search rules

-- if a stamp is above the stamp of the higher of two ledger items, it is also above the stamp of
-- the lower item
below_with : (a b : LedgerItem) (stamp : FileStamp) → IsBelow ledger_item_cmp a b → IsBelow file_stamp_cmp b.stamp stamp
    → IsBelow file_stamp_cmp a.stamp stamp
below_with a b stamp before low = elim (at_most_or file_stamp_total stamp a.stamp) [
  | inr below ↦ below
  | inl above ↦
      let up = at_most_trans file_stamp_total stamp a.stamp b.stamp above (stamp_at_most a b before) in
      let same = level file_stamp_total b.stamp stamp (at_most_below file_stamp_cmp b.stamp stamp low) up in
      let bad : Less ≡ Equal = sym low ∙ same in cc
]

-- a stamp above the stamp of a ledger's last item is above the stamps of all items
pub above_last : (before : List LedgerItem) (last : LedgerItem) (stamp : FileStamp) → IsStrictlyAscending ledger_item_cmp (before ++ last ∷ [])
    → IsBelow file_stamp_cmp last.stamp stamp → (item : LedgerItem) → Contains (before ++ last ∷ []) item → IsBelow file_stamp_cmp item.stamp stamp
above_last [] last stamp up low item among = search rules
above_last (first ∷ before) last stamp up low item among =
    by (λ behind. above_last before last stamp up.1 low item behind) (Contains-cons first (before ++ last ∷ []) item among)
  where
    by : (Contains (before ++ last ∷ []) item → IsBelow file_stamp_cmp item.stamp stamp) → (first ≡ item) ⊎ Contains (before ++ last ∷ []) item
        → IsBelow file_stamp_cmp item.stamp stamp
    by rest (inl same) = subst (λ (one : LedgerItem). IsBelow file_stamp_cmp one.stamp stamp) same
        (below_with first last stamp
        (below_by_recursion (IsBelow ledger_item_cmp first) (before ++ last ∷ []) last up.0 (Contains-push before last)) low)
    by rest (inr behind) = rest behind

less_is : (o : Ordering) → is_lt o ≡ true → o ≡ Less
less_is = search rules

-- if the code finds that a stamp is above the stamp of the ledger's last item, the stamp is above the stamps of all items
pub above_each : {A : Type 0} (meant : A → LedgerItem) (items before : List A) (last : A) (stamp file : FileStamp) (b : Bool)
    → items ≡ before ++ last ∷ [] → IsStrictlyAscending ledger_item_cmp (map meant items) → file ≡ (meant last).stamp
    → b ≡ is_lt (file_stamp_cmp file stamp) → IsTrue b → (item : LedgerItem) → Contains (map meant items) item → IsBelow file_stamp_cmp item.stamp stamp
above_each = search (rules, map-append, above_last, less_is)

-- suppose that an entry's file is newer than all files in the ledger of the state `own`. Then the
-- entry has to be staged if and only if it isn't below the floor
pub newest_tells : (own : State) → IsValid own → (floor : Option FileStamp) (key : Key) (entry : Entry)
    → ((item : LedgerItem) → Contains own.ledger item → IsBelow file_stamp_cmp item.stamp entry.stamp.file)
    → (b : Bool) → IsTrue b ↔ IsKept floor entry.stamp.file → IsTrue b ↔ IsToStage own floor key entry
newest_tells own valid floor key entry above b tells = (
  λ told. record { kept = tells.0 told; greater = greater },
  λ to. tells.1 to.kept,
)
  where
    greater : (other : Entry) → Contains own.entries (key, other) → Rattle.docker_model.specs.state.Op.entry_cmp other entry ≡ Less
    greater other among =
        let good : IsGoodEntry own.ledger (key, other) = member_of (IsGoodEntry own.ledger) own.entries (key, other) valid.entries.0 among in
        let item = Contains-map (λ (item : LedgerItem). item.stamp) own.ledger other.stamp.file good.stamp.in_ledger in
        let low : file_stamp_cmp other.stamp.file entry.stamp.file ≡ Less =
        subst (λ (stamp : FileStamp). IsBelow file_stamp_cmp stamp entry.stamp.file) item.2 (above item.0 item.1) in
        (λ i. ordering_then (ordering_then (low i) (nat_cmp other.stamp.number entry.stamp.number)) (op_cmp other.op entry.op))
