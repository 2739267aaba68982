-- Lemmas on the changes that remain of a thin file: those that the docker of its place needs.
use Rattle.cif_laws.proofs.Common.{◌≡◌, ℕ, ◌+◌, ◌<◌, ◌≤◌, arith, length, get_or, List, [], ◌∷◌, ◌++◌, map, refl, ap, sym, ◌∙◌, subst, rules, common_steps, inl}
use Rattle.cif_laws.proofs.Common.{inr, true, false, Some, Contains, ◌↔◌, filter, take, option_to_list, Vec, filter_map, cons_option, take_more}
use Rattle.cif_laws.proofs.Common.{filter_map-append, Contains-append_left, Contains-append_right, Contains-append_cases, calls_at, tiploc_key, association_key}
use Rattle.cif_laws.proofs.Common.{schedule_key, op_of, IsOpOf}
use Rattle.docker_model.specs.file.Change as model
use Rattle.docker_laws.specs.Thinning.{ends_elsewhere, is_wanted, wanted_changes, HasUidsOf}
use Rattle.docker_laws.proofs.dockers.ThinBody.{ends_apart}
use Rattle.docker_laws.proofs.dockers.NeededChanges.{wanted_uid}
use Rattle.cif_laws.proofs.lists.Membership.{Contains-map, map-Contains}
use Rattle.cif_laws.proofs.lists.FilteredMembers.{filter_back, filter_forth, part_forth}
use Rattle.cif_change.specs.declared.change.Change.{Change}
use Rattle.cif_change.specs.declared.key.Key.TheVariants as key
use Rattle.cif_change.specs.Meaning.{change_meant, key_meant}
use Rattle.docker_excerpt.specs.declared.elsewhere.Elsewhere.{Elsewhere}
use Rattle.docker_excerpt.specs.Elsewhere.{elsewhere_meant, all_kept, HaveSame, uid_named, uids_named}
use Rattle.docker_excerpt.proofs.NearFields.{first_line_fits}

-- the changes put well-formed bodies
abbrev pub AreGood : List model.Change → Type 0
AreGood changes = (change : model.Change) → Contains changes change → IsOpOf change.key (op_of change.act)

-- the UIDs that the keys of changes name, found from the code's changes
uids_of_changes : (changes : List Change)
    → filter_map (λ (change : Change). uid_named (key_meant change.key)) changes ≡ uids_named (map change_meant changes)
uids_of_changes [] = refl
uids_of_changes (change ∷ changes) = ap (cons_option (uid_named (key_meant change.key))) (uids_of_changes changes)

-- the UID that the key of one more change names is appended, if there is one
pub uids_more : (changes : List Change) (at : ℕ) (one : Change) → at < length changes → get_or changes at one ≡ one → (before after : List (List ℕ))
    → before ≡ filter_map (λ (change : Change). uid_named (key_meant change.key)) (take at changes)
    → after ≡ before ++ option_to_list (uid_named (key_meant one.key))
    → after ≡ filter_map (λ (change : Change). uid_named (key_meant change.key)) (take (at + 1) changes)
uids_more = grind (common_steps, arith, filter_map-append, take_more)

-- after the last change, the UIDs are those that the keys of all changes name
pub uids_whole : (changes : List Change) (at : ℕ) (uids : List (List ℕ)) → length changes ≤ at
    → uids ≡ filter_map (λ (change : Change). uid_named (key_meant change.key)) (take at changes) → uids ≡ uids_named (map change_meant changes)
uids_whole = grind (common_steps, arith, uids_of_changes)

module _ (place : List ℕ) (made : Vec Change) (elsewhere : Vec Elsewhere) (good : AreGood (all_kept place made elsewhere)) (uids : List (List ℕ))
    (named : (uid : List ℕ) → Contains uids uid ↔ Contains (uids_named (map change_meant made.items)) uid) where
  abbrev first : List model.Change
  first = map change_meant made.items

  abbrev last : List model.Change
  last = map (elsewhere_meant place) elsewhere.items

  -- the UID that the key of a change names is among the UIDs
  uid_there : (change : model.Change) (uid : List ℕ) → Contains first change → uid_named change.key ≡ Some uid → Contains uids uid
  uid_there change uid among is = (named uid).1 (part_forth (λ (one : model.Change). uid_named one.key) first change uid among is)

  -- the put of a schedule that doesn't call at the place
  no_call : (one : Elsewhere) → Contains elsewhere.items one → calls_at place (one.basic ∷ ends_elsewhere place) ≡ false
  no_call one among =
      let change = elsewhere_meant place one in
      let inside = Contains-append_right first last change (map-Contains (elsewhere_meant place) elsewhere.items one among) in
      let kind = (first_line_fits change.key (one.basic ∷ ends_elsewhere place) (good change inside)).0 in
      search (rules, ends_apart)

  -- the UIDs are enough for the docker of the place
  pub has_uids : HasUidsOf place (all_kept place made elsewhere) uids
  has_uids = record {
    calls = λ change key lines among key_is act_is calling. elim (Contains-append_cases first last change among) [
      | inl inside ↦ uid_there change key.uid inside (ap uid_named key_is)
      | inr behind ↦
          let found = Contains-map (elsewhere_meant place) elsewhere.items change behind in
          let act = ap (λ (c : model.Change). c.act) found.2 ∙ act_is in
          let same : found.0.basic ∷ ends_elsewhere place ≡ lines = cc in
          let bad : false ≡ true = sym (no_call found.0 found.1) ∙ ap (calls_at place) same ∙ calling in
          cc
    ];
    names = λ change key line among key_is act_is. elim (Contains-append_cases first last change among) [
      | inl inside ↦ uid_there change key.associated inside (ap uid_named key_is)
      | inr behind ↦
          let found = Contains-map (elsewhere_meant place) elsewhere.items change behind in
          let bad = ap (λ (c : model.Change). c.key) found.2 ∙ key_is in
          cc
    ];
  }

  -- a change of the first part is wanted
  first_wanted : (change : model.Change) → Contains first change → is_wanted uids change.key ≡ true
  first_wanted change among = (elim change.key as (λ k. change.key ≡ k → is_wanted uids k ≡ true) [
    | tiploc_key code ↦ λ is. refl
    | association_key key ↦ λ is. refl
    | schedule_key key ↦ λ is. wanted_uid uids key (uid_there change key.uid among (ap uid_named is))
  ]) refl

  module _ (some : Vec Elsewhere)
      (of : some.items ≡ filter (λ (one : Elsewhere). is_wanted uids (key_meant (key.Schedule one.key))) elsewhere.items)
      (needed : List model.Change) (are : needed ≡ all_kept place made some) where
    abbrev left : List model.Change
    left = map (elsewhere_meant place) some.items

    -- the remaining changes are the wanted changes
    pub needed_are : HaveSame needed (wanted_changes uids (all_kept place made elsewhere))
    needed_are change = (
      λ among. elim (Contains-append_cases first left change (subst (λ (list : List model.Change). Contains list change) are among)) [
        | inl inside ↦ filter_forth _ _ _ (Contains-append_left first last change inside) (first_wanted _ inside)
        | inr behind ↦
            let found = Contains-map (elsewhere_meant place) some.items change behind in
            let was = filter_back _ _ _ (subst (λ (list : List Elsewhere). Contains list found.0) of found.1) in
            filter_forth _ _ _ (Contains-append_right first last change (subst (Contains last) found.2 (map-Contains _ _ _ was.0)))
            (subst (λ (c : model.Change). is_wanted uids c.key ≡ true) found.2 was.1)
      ],
      λ among.
          let passed = filter_back (λ (c : model.Change). is_wanted uids c.key) _ change among in
          subst (λ (list : List model.Change). Contains list change) (sym are) (elim (Contains-append_cases first last change passed.0) [
            | inl inside ↦ Contains-append_left first left change inside
            | inr behind ↦
                let found = Contains-map (elsewhere_meant place) elsewhere.items change behind in
                let passes = subst (λ (c : model.Change). is_wanted uids c.key ≡ true) (sym found.2) passed.1 in
                Contains-append_right first left change (subst (Contains left) found.2 (map-Contains _ _ _
                (subst (λ (list : List Elsewhere). Contains list found.0) (sym of) (filter_forth _ _ _ found.1 passes))))
          ]),
    )
