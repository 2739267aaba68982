-- The state made from one file has the file's ledger item and, for each key, the greatest entry that the file's changes make.
use Rattle.cif_laws.proofs.Common.{◌≡◌, ℕ, ◌≤◌, List, [], ◌∷◌, ◌++◌, map, length, rules, refl, ap, sym, ◌∙◌, subst, inl, inr, Contains, All, Some, None, arith}
use Rattle.cif_laws.proofs.Common.{Option, ◌↔◌, slice_index_or, eqb_tells, changes, IsFile, first_record, most_records, FileStamp, ledger_item_cmp}
use Rattle.cif_laws.proofs.Common.{file_stamp_cmp, file_stamp_of, ledger_item_of, IsFull, IsFloor, IsKept, key_cmp, op_of, IsAtMost, IsStrictlyAscending, State}
use Rattle.cif_laws.proofs.Common.{IsValid, IsGreatestAmong, IsSummary, IsKeptFile, IsEntryOf, entry_of}
use Rattle.docker_model.specs.file.Change as model
use Rattle.docker_model.specs.state.Stamp as stamps
use Rattle.docker_model.specs.state.Op as ops
use Rattle.cif_laws.proofs.lists.Membership.{Contains-single}
use Rattle.cif_laws.proofs.orders.AtMost.{at_most_itself}
use Rattle.cif_laws.proofs.orders.Orders.{file_stamp_total}
use Rattle.cif_laws.proofs.lists.Membership.{cons-Contains-first, Contains-map, map-Contains, all_members}
use Rattle.cif_laws.proofs.files.FileChanges.{file_change}
use Rattle.state_laws.proofs.states.SummaryValid.{summary_is_valid}
use Rattle.state_laws.proofs.joins.RaisedHorizon.{plain_summary}
use Rattle.cif_file.specs.FileRead.{FileRead}
use Rattle.cif_change.specs.Meaning.{change_meant}
use Rattle.cif_change.specs.declared.key.Key.{Key}
use Rattle.cif_file.specs.declared.file.parts.FileParts.{FileParts}
use Rattle.cif_file.specs.MadeChanges.{file_of_parts}
use Rattle.docker_join.specs.declared.entry.Entry.{Entry}
use Rattle.docker_join.specs.declared.stamp.FileStamp as code
use Rattle.docker_join.specs.Meaning.{op_meant, file_stamp_meant, row_meant}
use Rattle.docker_join.specs.Records.{HasRecords}
use Rattle.docker_join.specs.Rows.{AreAscending}
use Rattle.docker_state.specs.declared.item.LedgerItem.{LedgerItem}
use Rattle.docker_state.specs.Meaning.{item_meant, state_meant}
use Rattle.state_index.specs.Rooms.{Item, changed_items}
use Rattle.docker_state.specs.Rows.{made_by}
use Rattle.docker_state.specs.MadeState.{HaveRecords, IsMadeState, MakeValid}
use Rattle.docker_join.proofs.MeantOrder.{ascending_meant}
use Rattle.docker_state.proofs.StateJoin.{op_records}

-- the line at index 0 is the first line
pub first_is : (lines : List (List ℕ)) → slice_index_or lines 0 [] ≡ first_record lines
first_is = search rules

-- Says that the item isn't below the floor of a ledger that has only this item.
abbrev OneFloor : stamps.LedgerItem → Type 0
OneFloor item = (floor : Option FileStamp) × IsFloor (item ∷ []) floor × IsKept floor item.stamp

one_floor : (item : stamps.LedgerItem) → OneFloor item
one_floor item = elim (eqb_tells item.indicator 70) [
  | inl full ↦ (
    Some item.stamp,
    record {
      full = item;
      among = cons-Contains-first item [];
      is_full = full.1;
      stamped = refl;
      greatest = λ other among is_full. subst (λ (i : stamps.LedgerItem). IsAtMost file_stamp_cmp i.stamp item.stamp) (Contains-single item other among)
          (at_most_itself file_stamp_total item.stamp);
    },
    at_most_itself file_stamp_total item.stamp,
  )
  | inr update ↦ (None, λ other among is_full. update.1 (subst (λ (i : stamps.LedgerItem). IsFull i) (sym (Contains-single item other among)) is_full), tt)
]

-- if all bodies put by changes consist of records, so do the bodies in the rows that the changes
-- make
pub made_records : (all : List model.Change) → HaveRecords all → (stamp : FileStamp) (made : List (Key × Entry))
    → map row_meant made ≡ map (made_by stamp) all → All (λ (row : Key × Entry). HasRecords (op_meant row.1.op)) made
made_records all have stamp made made_is = all_members _ _ (λ row among.
    let found = Contains-map _ _ _ (subst (λ (rows : List (model.Key × ops.Entry)). Contains rows (row_meant row)) made_is (map-Contains _ _ _ among)) in
    subst (λ (pair : model.Key × ops.Entry). HasRecords pair.1.op) found.2 (have found.0 found.1))

-- the bodies put by a file's changes consist of records
pub file_records : (file : List (List ℕ)) → IsFile file → length file ≤ most_records → HaveRecords (changes file)
file_records file is_file few change among = op_records change.key (op_of change.act) (file_change file is_file few change among).good.1

-- an empty ledger with one item appended is the ledger of just this item
pub one_item : (item : LedgerItem) (before ledger : List LedgerItem) → before ≡ [] → ledger ≡ before ++ item ∷ [] → map item_meant ledger ≡ item_meant item ∷ []
one_item = search rules

-- suppose that a file stamp is the stamp of a ledger item. Then changes make the same rows with the
-- file stamp as with the item's stamp
pub made_stamped : (item : LedgerItem) (stamp : code.FileStamp) → file_stamp_meant stamp ≡ (item_meant item).stamp → (all : List model.Change)
    → (made : List (Key × Entry)) → map row_meant made ≡ map (made_by (file_stamp_meant stamp)) all
    → map row_meant made ≡ map (made_by (item_meant item).stamp) all
made_stamped item stamp same all made made_is = made_is ∙ ap (λ (s : FileStamp). map (made_by s) all) same

-- suppose that a state has one ledger item and, for each key, the greatest entry that the changes
-- make. Then the state satisfies `IsMadeState`, the definition of the state that the changes make
pub made_state : (item : stamps.LedgerItem) (all : List model.Change) (ledger : List LedgerItem) (made rows : List (Key × Entry))
    → map item_meant ledger ≡ item ∷ [] → map row_meant made ≡ map (made_by item.stamp) all → AreAscending rows
    → ((key : model.Key) (entry : ops.Entry) → Contains (map row_meant rows) (key, entry) ↔ IsGreatestAmong (map row_meant made) key entry)
    → IsMadeState item all (state_meant 0 ledger rows)
made_state item all ledger made rows ledger_is made_is up in_rows = record {
  horizon = refl;
  ledger = ledger_is;
  ascending = ascending_meant row_meant (λ (a b : model.Key × ops.Entry). key_cmp a.0 b.0) rows up;
  entries = λ key entry. subst (λ (xs : List (model.Key × ops.Entry)). Contains {X = model.Key × ops.Entry} (map row_meant rows) (key, entry)
      ↔ IsGreatestAmong xs key entry) made_is (in_rows key entry);
}

-- the state that a file's changes make is the summary of the file
module _ (file : List (List ℕ)) (state : State) (is : IsMadeState (ledger_item_of file) (changes file) state) where
  kept_one : (f : Option FileStamp) → IsKept f (file_stamp_of file) → IsKeptFile (file ∷ []) f file
  kept_one f kept = record { among = cons-Contains-first file []; kept = kept }

  -- each entry of the file is one of the entries that its changes make
  to_made : (f : Option FileStamp) (key : model.Key) (entry : ops.Entry) → IsEntryOf (file ∷ []) f key entry
      → Contains (map (made_by (file_stamp_of file)) (changes file)) (key, entry)
  to_made f key entry of =
      let same : file ≡ of.file = Contains-single _ _ of.kept.among in
      let among : Contains (changes file) of.change = subst (λ (x : List (List ℕ)). Contains (changes x) of.change) (sym same) of.among in
      let entry_is : entry_of file of.change ≡ entry = subst (λ (x : List (List ℕ)). entry_of x of.change ≡ entry) (sym same) of.entry_is in
      let pair : made_by (file_stamp_of file) of.change ≡ (key, entry) = (λ i. (of.key_is i, entry_is i)) in
      subst (Contains (map (made_by (file_stamp_of file)) (changes file))) pair (map-Contains _ _ _ among)

  from_made : (f : Option FileStamp) → IsKept f (file_stamp_of file) → (key : model.Key) (entry : ops.Entry)
      → Contains {X = model.Key × ops.Entry} (map (made_by (file_stamp_of file)) (changes file)) (key, entry)
      → IsEntryOf (file ∷ []) f key entry
  from_made f kept key entry among =
      let found = Contains-map (made_by (file_stamp_of file)) (changes file) (key, entry) among in
      record { file = file; kept = kept_one f kept; change = found.0; among = found.1; key_is = (λ i. (found.2 i).0); entry_is = (λ i. (found.2 i).1) }

  summary_under : (f : Option FileStamp) → IsFloor (ledger_item_of file ∷ []) f → IsKept f (file_stamp_of file) → IsSummary (file ∷ []) 0 state
  summary_under f is_floor kept = (plain_summary (file ∷ []) _).0 (record {
    no_horizon = is.horizon;
    floor = f;
    is_floor = is_floor;
    ledger_ascends = subst (IsStrictlyAscending ledger_item_cmp) (sym is.ledger) (tt, tt);
    ledger = λ item. (
      λ among. (file, kept_one f kept, Contains-single _ item (subst (λ (xs : List stamps.LedgerItem). Contains xs item) is.ledger among)),
      λ told. subst (λ (xs : List stamps.LedgerItem). Contains xs item) (sym is.ledger)
          (subst (λ (i : stamps.LedgerItem). Contains (ledger_item_of file ∷ []) i) (ap ledger_item_of (Contains-single _ told.0 told.1.among) ∙ told.2)
          (cons-Contains-first _ [])),
    );
    entries_ascend = is.ascending;
    entries = λ key entry. (
      λ among. let best = (is.entries key entry).0 among in record {
        is = from_made _ kept key _ best.among;
        greatest = λ other of. best.greatest other (to_made f _ other of);
      },
      λ best. (is.entries key entry).1 (record {
        among = to_made _ key _ best.is;
        greatest = λ other among. best.greatest other (from_made f kept _ other among);
      }),
    );
  })

  -- the state that a file's changes make is the file's summary
  pub file_summary : IsSummary (file ∷ []) 0 state
  file_summary = let told = one_floor (ledger_item_of file) in summary_under told.0 told.1 told.2

  -- the state that a file's changes make is valid
  pub file_valid : IsFile file → length file ≤ most_records → IsValid state
  file_valid is_file few = summary_is_valid (file ∷ []) _ state (omega arith) (all_members _ (file ∷ []) (λ f among. subst IsFile
      (Contains-single _ f among) is_file))
      (all_members _ (file ∷ []) (λ f among. subst (λ (x : List (List ℕ)). length x ≤ most_records) (Contains-single _ f among) few)) file_summary

-- the ledger item of a header line is the ledger item of any file that begins with this line
pub item_is_of : (head line : List ℕ) (item : stamps.LedgerItem) (lines : List (List ℕ)) → head ≡ line → line ≡ slice_index_or lines 0 []
    → ((file : List (List ℕ)) → head ≡ first_record file → item ≡ ledger_item_of file) → item ≡ ledger_item_of lines
item_is_of head line item lines same first_line told = told lines (same ∙ first_line ∙ first_is lines)

-- the state that the ledger item and the changes of a file make is the file's summary
pub summary_of_made : (item : stamps.LedgerItem) (all : List model.Change) (lines : List (List ℕ)) (state : State) → item ≡ ledger_item_of lines
    → all ≡ changes lines → IsMadeState item all state → IsSummary (lines ∷ []) 0 state
summary_of_made = search (rules, file_summary)

-- a state is valid if the ledger item and the changes of a file make it
pub valid_of_made : (item : stamps.LedgerItem) (all : List model.Change) (lines : List (List ℕ)) → item ≡ ledger_item_of lines → all ≡ changes lines
    → IsFile lines → length lines ≤ most_records → MakeValid item all
valid_of_made item all lines item_is all_is is_file few state is =
    file_valid lines state
    (subst (λ (i : stamps.LedgerItem). IsMadeState i (changes lines) state) item_is (subst (λ (a : List model.Change). IsMadeState item a state) all_is is))
    is_file few

-- suppose that rows have, for each key, the greatest of the entries that changes make. Then each of the rows is a row that some change makes
pub rows_made_by : (file : FileStamp) (all : List model.Change) (made rows : List (Key × Entry)) → map row_meant made ≡ map (made_by file) all
    → ((key : model.Key) (entry : ops.Entry) → Contains (map row_meant rows) (key, entry) ↔ IsGreatestAmong (map row_meant made) key entry)
    → (row : model.Key × ops.Entry) → Contains (map row_meant rows) row → Contains {X = Item} (changed_items all) (row.0, row.1.op)
rows_made_by file all made rows made_is in_rows row among =
    let inside : Contains (map (made_by file) all) row =
    subst (λ (xs : List (model.Key × ops.Entry)). Contains xs row) made_is ((in_rows row.0 row.1).0 among).among in
    let found = Contains-map (made_by file) all row inside in
    subst (Contains {X = Item} (changed_items all)) (λ i. ((found.2 i).0, (found.2 i).1.op))
    (map-Contains {B = Item} (λ (change : model.Change). (change.key, op_of change.act)) all found.0 found.1)

-- if a file was read into `parts`, the changes in `parts` are the changes that the file makes
pub changes_are : (file : FileRead) (parts : FileParts) → file_of_parts parts ≡ file → map change_meant parts.changes.items ≡ file.changes_made
changes_are file parts same = ap (λ (f : FileRead). f.changes_made) same
