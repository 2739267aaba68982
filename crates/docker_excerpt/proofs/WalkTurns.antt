-- Each step of a walk that makes an excerpt preserves the properties of the walk that are proved
-- here. `run` has the schedules of one UID, and `names` has the UIDs of associated trains.
use Rattle.cif_laws.proofs.Common.{◌≡◌, ℕ, List, [], ◌∷◌, ◌++◌, ap, sym, ◌∙◌, subst, inl, inr, Bool, true, false, cond, Contains, arith, common_steps, rules}
use Rattle.cif_laws.proofs.Common.{◌||◌, ◌↔◌, option_to_list, IsSorted, IsPermutation, Key, schedule_key, ScheduleKey, Entry, bytes_cmp, State, IsAboveEntries}
use Rattle.cif_laws.proofs.lists.Membership.{SameMembers}
use Rattle.docker_laws.specs.ExcerptWalk.{ExcerptSoFar, is_here, has_uid, name_in, names_in, is_call, goes_on, HasKept}
use Rattle.docker_laws.proofs.dockers.ExcerptTurns.{kept_alone, kept_here, kept_elsewhere, kept_joins, kept_begins}
use Rattle.docker_laws.proofs.dockers.ExcerptSteps.{names_stay, names_with}
use Rattle.docker_excerpt.specs.Walked.{AreNames, IsWalk}
use Rattle.docker_excerpt.proofs.SameMembers.{more_members, sorted_members}

abbrev Keyed : Type 0
Keyed = Key × Entry

-- a list with a single entry names only the UID of the entry's associated train, or no UID if the
-- entry has no associated train
names_of_one : (key : Key) (entry : Entry) → names_in ((key, entry) ∷ []) ≡ option_to_list (name_in key entry.op)
names_of_one = search rules

-- if one more entry is kept, the UID of the entry's associated train, if any, is appended to the list `names`
names_more : (names : List (List ℕ)) (kept : List Keyed) (key : Key) (entry : Entry) → AreNames names kept
    → AreNames (names ++ option_to_list (name_in key entry.op)) (kept ++ (key, entry) ∷ [])
names_more names kept key entry are = subst (SameMembers (names ++ option_to_list (name_in key entry.op)))
    (sym (names_with kept (key, entry) ∙ ap (λ (one : List (List ℕ)). names_in kept ++ one) (names_of_one key entry)))
    (more_members names (names_in kept) (option_to_list (name_in key entry.op)) are)

module _ (place : List ℕ) (state : State) (kept run : List Keyed) (needed : Bool) (names : List (List ℕ))
    (is : IsWalk place state.entries kept run needed names) where
  -- when the walk reaches a TIPLOC or an association, `run` has no schedules, because schedules come after all TIPLOCs and associations
  alone : (key : Key) → IsAboveEntries state key → ((uid : List ℕ) → has_uid uid key ≡ false) → run ≡ []
  alone = kept_alone place state kept run needed is.has_kept

  as_it_was : (entries after : List Keyed) → run ≡ [] → HasKept place entries after [] false → HasKept place entries after run needed
  as_it_was = search rules

  -- a TIPLOC or an association at the place is kept, and the UID of the association's associated train is appended to the list `names`
  pub walk_here : (key : Key) (entry : Entry) → IsAboveEntries state key → ((uid : List ℕ) → has_uid uid key ≡ false) → is_here place key ≡ true
      → IsWalk place (state.entries ++ (key, entry) ∷ []) (kept ++ (key, entry) ∷ []) run needed (names ++ option_to_list (name_in key entry.op))
  walk_here key entry above never here = record {
    has_kept = as_it_was (state.entries ++ (key, entry) ∷ []) (kept ++ (key, entry) ∷ []) (alone key above never)
        (kept_here place state kept run needed is.has_kept key entry above never here);
    told = names_more names kept key entry is.told;
    sorted = inl (alone key above never);
  }

  -- a TIPLOC or an association at another place isn't kept
  pub walk_elsewhere : (key : Key) (entry : Entry) → IsAboveEntries state key → ((uid : List ℕ) → has_uid uid key ≡ false) → is_here place key ≡ false
      → IsWalk place (state.entries ++ (key, entry) ∷ []) kept run needed names
  walk_elsewhere = search (rules, as_it_was, alone, kept_elsewhere)

  -- a schedule with the same UID as the schedules in `run` is added to `run`
  pub walk_joins : (key : ScheduleKey) (entry : Entry) → goes_on run key.uid ≡ true
      → IsWalk place (state.entries ++ (schedule_key key, entry) ∷ []) kept (run ++ (schedule_key key, entry) ∷ []) (needed || is_call place entry.op) names
  walk_joins = grind (common_steps, arith, kept_joins)

  -- when the walk comes to a schedule with another UID, the schedules in `run` are kept or dropped,
  -- and then `run` has only the new schedule
  pub walk_begins : (key : ScheduleKey) (entry : Entry) (named : Bool) → goes_on run key.uid ≡ false → IsSorted bytes_cmp names
      → (named ≡ true) ↔ Contains names key.uid
      → IsWalk place (state.entries ++ (schedule_key key, entry) ∷ []) (cond needed (kept ++ run) kept) ((schedule_key key, entry) ∷ [])
      (named || is_call place entry.op) names
  walk_begins key entry named stops sorted tells = record {
    has_kept = begun;
    told = subst (SameMembers names) (sym still) is.told;
    sorted = inr sorted;
  }
    where
      begun : HasKept place (state.entries ++ (schedule_key key, entry) ∷ []) (cond needed (kept ++ run) kept) ((schedule_key key, entry) ∷ [])
          (named || is_call place entry.op)
      begun = kept_begins _ state.entries _ run _ is.has_kept key _ named stops
          (λ told. (is.told key.uid).0 (tells.0 told), λ among. tells.1 ((is.told key.uid).1 among))

      still : names_in (cond needed (kept ++ run) kept) ≡ names_in kept
      still = sym (ap (λ (so_far : ExcerptSoFar). names_in so_far.kept) begun.so_far)
          ∙ names_stay _ state.entries _ entry
          ∙ ap (λ (so_far : ExcerptSoFar). names_in so_far.kept) is.has_kept.so_far

  -- sorting the list `names` preserves `IsWalk`: it changes neither the passed entries nor the kept
  -- entries of the walk
  pub walk_sorted : (after : List (List ℕ)) → IsPermutation names after → IsSorted bytes_cmp after → IsWalk place state.entries kept run needed after
  walk_sorted after moved sorted =
      record { has_kept = is.has_kept; told = sorted_members names after (names_in kept) moved is.told; sorted = inr sorted }
