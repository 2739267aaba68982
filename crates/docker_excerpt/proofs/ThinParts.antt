-- The changes that the docker of one place and day needs of a thin file make a valid state. They are the wanted changes of a thinning, in any order.
use Rattle.cif_laws.proofs.Common.{◌≡◌, ℕ, List, [], ◌∷◌, map, ap, ◌∙◌, subst, Contains, ◌↔◌, filter, slice_index_or, Vec, Key, Change, changes, LedgerItem}
use Rattle.cif_laws.proofs.Common.{ledger_item_of, Entry, State, IsGreatestAmong}
use Rattle.docker_laws.specs.Thinning.{IsThinning, IsStateOfChanges, HasUidsOf, is_wanted, wanted_changes}
use Rattle.docker_laws.proofs.dockers.NeededChanges.{wanted_valid}
use Rattle.docker_laws.proofs.dockers.ThinState.{kept_good}
use Rattle.cif_laws.proofs.lists.Membership.{Contains-map, map-Contains}
use Rattle.cif_laws.proofs.lists.FilteredMembers.{filter_back, filter_forth}
use Rattle.cif_change.specs.declared.key.Key.TheVariants as key
use Rattle.cif_change.specs.Meaning.{change_meant, key_meant}
use Rattle.cif_file.specs.declared.file.parts.FileParts.{FileParts}
use Rattle.cif_file.specs.FileRead.{IsOfRecords}
use Rattle.docker_state.specs.MadeState.{HaveRecords, IsMadeState, MakeValid}
use Rattle.docker_state.specs.Rows.{made_by}
use Rattle.docker_state.proofs.StateJoin.{op_records}
use Rattle.docker_excerpt.specs.declared.elsewhere.Elsewhere.{Elsewhere}
use Rattle.docker_excerpt.specs.Elsewhere.{all_kept, HaveSame, uids_named}
use Rattle.docker_excerpt.specs.ThinRead.{ThinRead, IsThinRead, AreThinParts, AreNeededParts, thin_of_parts}
use Rattle.docker_excerpt.proofs.NeededChanges.{AreGood, has_uids, needed_are}
use Rattle.docker_excerpt.proofs.ThinExcerpt.{first_is}

-- a file has the ledger item of its header line
item_of_header : (head : List ℕ) (lines : List (List ℕ)) → head ≡ slice_index_or lines 0 [] → ledger_item_of (head ∷ []) ≡ ledger_item_of lines
item_of_header head lines is = ap (λ (line : List ℕ). ledger_item_of (line ∷ [])) (is ∙ first_is lines)

-- which entry is the greatest for a key doesn't depend on the order of the changes
same_greatest : (made : Change → Key × Entry) (one other : List Change) → HaveSame one other → (key : Key) (entry : Entry)
    → IsGreatestAmong (map made one) key entry → IsGreatestAmong (map made other) key entry
same_greatest made one other same key entry is = record {
  among = over one other (λ change. (same change).0) (key, entry) is.among;
  greatest = λ another among. is.greatest another (over other one (λ change. (same change).1) (key, another) among);
}
  where
    over : (from to : List Change) → ((change : Change) → Contains from change → Contains to change) → (row : Key × Entry) → Contains (map made from) row
        → Contains (map made to) row
    over from to within row among =
        let found = Contains-map made from row among in
        subst (Contains (map made to)) found.2 (map-Contains made to found.0 (within found.0 found.1))

-- the state made from a file's ledger item and some changes satisfies `IsStateOfChanges` for the same changes in another order
state_of_same : (item : LedgerItem) (needed wanted : List Change) → HaveSame needed wanted → (lines : List (List ℕ)) (state : State)
    → item ≡ ledger_item_of lines → IsMadeState item needed state → IsStateOfChanges lines wanted state
state_of_same item needed wanted same lines state item_is is =
    let of = subst (λ (i : LedgerItem). IsMadeState i needed state) item_is is in
    let made = made_by (ledger_item_of lines).stamp in
    record {
      horizon = of.horizon;
      ledger = of.ledger;
      ascending = of.ascending;
      entries = λ key entry. (
        λ among. same_greatest _ _ _ same _ _ ((of.entries key entry).0 among),
        λ told. (of.entries key entry).1 (same_greatest _ _ _ (λ change. ((same change).1, (same change).0)) _ _ told),
      );
    }

module _ (thin : ThinRead) (is : IsThinRead thin) where
  abbrev records : List (List ℕ)
  records = is.read.records

  pub thinning_of_records : IsThinning thin.place thin.day (changes records) is.thinned
  thinning_of_records = subst (λ (all : List Change). IsThinning thin.place thin.day all is.thinned) is.read.of_records.changes_are is.thinning

  -- the kept changes of a thin file put well-formed bodies
  pub kept_are_good : AreGood thin.kept
  kept_are_good change among = (kept_good _ _ _ is.read.is_file is.read.few _ thinning_of_records _ ((is.same change).1 among)).0.1

-- the parts of a thin file, with a body for each of the wanted schedules that don't call at the place, are the needed parts
pub are_needed : (place : List ℕ) (day : ℕ) (all : List Change) (parts : FileParts) (elsewhere : Vec Elsewhere)
    → AreThinParts place day all parts elsewhere → (uids : List (List ℕ))
    → ((uid : List ℕ) → Contains uids uid ↔ Contains (uids_named (map change_meant parts.changes.items)) uid) → (some : Vec Elsewhere)
    → some.items ≡ filter (λ (one : Elsewhere). is_wanted uids (key_meant (key.Schedule one.key))) elsewhere.items → (left : FileParts)
    → left.header ≡ parts.header → left.records ≡ parts.records → map change_meant left.changes.items ≡ all_kept place parts.changes some
    → AreNeededParts (thin_of_parts place day all parts elsewhere) left
are_needed place day all parts elsewhere is uids named some of left header records are = record {
  header = header;
  records = records;
  uids = uids;
  has_uids = has_uids place parts.changes elsewhere (kept_are_good (thin_of_parts place day all parts elsewhere) is) uids named;
  same =
      needed_are place parts.changes elsewhere (kept_are_good (thin_of_parts place day all parts elsewhere) is) uids named some of
      (map change_meant left.changes.items) are;
}

module _ (thin : ThinRead) (is : IsThinRead thin) where
  module _ (parts : FileParts) (are : AreNeededParts thin parts) where
    abbrev needed : List Change
    needed = map change_meant parts.changes.items

    -- the needed changes are the wanted changes of the thinning
    needed_are_wanted : HaveSame needed (wanted_changes are.uids is.thinned)
    needed_are_wanted change = (
      λ among.
          let passed = filter_back _ _ _ ((are.same change).0 among) in
          filter_forth _ _ _ ((is.same change).1 passed.0) passed.1,
      λ among.
          let passed = filter_back _ _ _ among in
          (are.same change).1 (filter_forth _ _ _ ((is.same change).0 passed.0) passed.1),
    )

    -- the UIDs are enough for the changes of the thinning
    pub uids_of_thinning : HasUidsOf thin.place is.thinned are.uids
    uids_of_thinning = record {
      calls = λ change key lines among. are.has_uids.calls change key lines ((is.same change).0 among);
      names = λ change key line among. are.has_uids.names change key line ((is.same change).0 among);
    }

    -- the bodies that the needed changes put consist of records
    pub parts_records : HaveRecords needed
    parts_records change among = op_records _ _ (kept_are_good thin is change (filter_back _ _ _ ((are.same change).0 among)).0)

    -- the state that the needed changes make is the state of the wanted changes of the thinning
    pub parts_state : (lines : List (List ℕ)) → IsOfRecords thin.file lines → (state : State) → IsMadeState (ledger_item_of (parts.header ∷ [])) needed state
        → IsStateOfChanges lines (wanted_changes are.uids is.thinned) state
    parts_state lines of state made = state_of_same (ledger_item_of (parts.header ∷ [])) _ (wanted_changes are.uids is.thinned) needed_are_wanted _ state
        (item_of_header _ lines (are.header ∙ of.header_is)) made

    -- the state that the needed changes make is valid
    pub parts_valid : MakeValid (ledger_item_of (parts.header ∷ [])) needed
    parts_valid state made = wanted_valid _ _ _ is.read.is_file is.read.few _ (thinning_of_records thin is) _ _ (parts_state _ is.read.of_records _ made)
