-- Of the kept changes, those to schedules that the docker of the place doesn't need may be dropped.
-- The state made from the other changes has the same docker for the place and the day.
use Rattle.cif_laws.proofs.Common.{◌≡◌, ℕ, ◌≤◌, List, [], ◌∷◌, length, subst, inl, inr, ◌⊎◌, refl, ap, sym, ◌∙◌, arith, rules, common_steps, Bool, true, false}
use Rattle.cif_laws.proofs.Common.{cond, Some, None, Contains, ◌↔◌, fold, bytes_eq-Decides, IsFile, most_records, Key, schedule_key, ScheduleKey, Body, Act}
use Rattle.cif_laws.proofs.Common.{put, Change, changes, Table, empty_table, after_change, State, IsValid, live_table, IsSummary, DockerLine, IsDockerList}
use Rattle.docker_laws.specs.Excerpt.{IsNeeded, IsConcerned, IsExcerpt}
use Rattle.docker_laws.specs.Thinning.{thinned, table_of, IsThinning, IsStateOfChanges, is_wanted, wanted_changes, HasUidsOf}
use Rattle.cif_laws.proofs.lists.Membership.{cons-Contains, cons-Contains-first}
use Rattle.cif_laws.proofs.lists.FilteredMembers.{filter_back}
use Rattle.cif_laws.proofs.orders.Orders.{same_key}
use Rattle.state_laws.proofs.indexes.CallsTest.{calls_test, any_forth}
use Rattle.docker_laws.proofs.dockers.Sublists.{sublist_filter, sublist_later}
use Rattle.docker_laws.proofs.dockers.ThinChanges.{is_of, left_by, after_there, filtered_there, untouched}
use Rattle.docker_laws.proofs.dockers.ThinDocker.{thin_excerpt_docker}
use Rattle.docker_laws.proofs.dockers.SameDocker.{HaveOneDocker}
use Rattle.docker_laws.proofs.dockers.ThinState.{live_is_made, live_of_summary, kept_apart, some_valid, summary_good}

-- ---- a body in the table was put by a change

-- an act that leaves a body puts this body
put_by : (act : Act) (body : Body) → left_by act ≡ Some body → act ≡ put body
put_by = search rules

-- if a table has a body at a key after some changes, a change put it, or the table had it before
put_or_before : (all : List Change) (table : Table) (key : Key) (body : Body) → fold after_change table all key ≡ Some body
    → ((change : Change) × Contains all change × (change.key ≡ key) × (change.act ≡ put body)) ⊎ (table key ≡ Some body)
put_or_before [] table key body there = inr there
put_or_before (change ∷ all) table key body there = elim (put_or_before all (after_change table change) key body there) [
  | inl found ↦ inl (found.0, cons-Contains change all found.0 found.1, found.2, found.3)
  | inr before ↦ (elim (is_of key change) as (λ b. is_of key change ≡ b → Put ⊎ (table key ≡ Some body)) [
    | true ↦ λ h. let left : left_by change.act ≡ Some body = sym (λ i. cond (h i) (left_by change.act) (table key)) ∙ before in
        inl (change, cons-Contains-first change all, same_key change.key key h, put_by change.act body left)
    | false ↦ λ h. inr (sym (after_there table change key h) ∙ before)
  ]) refl
]
  where
    Put : Type 0
    Put = (one : Change) × Contains (change ∷ all) one × (one.key ≡ key) × (one.act ≡ put body)

-- if the table after some changes has a body at a key, one of these changes put it
pub was_put : (all : List Change) (key : Key) (body : Body) → table_of all key ≡ Some body
    → (change : Change) × Contains all change × (change.key ≡ key) × (change.act ≡ put body)
was_put = search (rules, put_or_before)

-- ---- the table after the wanted changes

module _ (uids : List (List ℕ)) where
  -- at a wanted key the table after the wanted changes equals the table after all changes
  wanted_there : (key : Key) → is_wanted uids key ≡ true → (all : List Change) (one two : Table) → one key ≡ two key
      → fold after_change one (wanted_changes uids all) key ≡ fold after_change two all key
  wanted_there key here = filtered_there (λ (one : Change). is_wanted uids one.key) key
      (λ change h. ap (is_wanted uids) (same_key change.key key h) ∙ here)

  -- at any other key the table after the wanted changes has no body
  wanted_gone : (key : Key) → is_wanted uids key ≡ false → (all : List Change) → table_of (wanted_changes uids all) key ≡ None
  wanted_gone key gone all = untouched (wanted_changes uids all) empty_table key none
    where
      none : (change : Change) → Contains (wanted_changes uids all) change → ¬ (change.key ≡ key)
      none change among same =
          let passed = (filter_back (λ (one : Change). is_wanted uids one.key) all change among).1 in
          let bad : true ≡ false = sym passed ∙ ap (is_wanted uids) same ∙ gone in
          absurd (let worse : true ≡ false = bad in cc)

  -- a schedule with one of the UIDs is wanted
  pub wanted_uid : (key : ScheduleKey) → Contains uids key.uid → is_wanted uids (schedule_key key) ≡ true
  wanted_uid = grind (common_steps, arith, any_forth, bytes_eq-Decides)

-- ---- the state made from the wanted changes has the same docker as the summary of the file

module _ (place : List ℕ) (day : ℕ) (file : List (List ℕ)) (is_file : IsFile file) (few : length file ≤ most_records) (kept : List Change)
    (is : IsThinning place day (changes file) kept) (uids : List (List ℕ)) (part : State)
    (of : IsStateOfChanges file (wanted_changes uids kept) part) where
  abbrev wanted : List Change
  wanted = wanted_changes uids kept

  -- the state made from the wanted changes is valid
  pub wanted_valid : IsValid part
  wanted_valid = some_valid _ _ _ is_file few _ is _ (λ change among. (filter_back _ _ _ among).0) _ of

  live_wanted : (key : Key) → live_table part key ≡ table_of wanted key
  live_wanted = live_is_made file _ part of
      (sublist_later _ wanted _ (sublist_filter (λ (one : Change). is_wanted uids one.key) _) (kept_apart place _ file _ is))

  module _ (has : HasUidsOf place kept uids) (whole : State) (summary : IsSummary (file ∷ []) 0 whole) where
    abbrev thin : Table
    thin = thinned place day (live_table whole)

    table_is_thin : (key : Key) → table_of kept key ≡ thin key
    table_is_thin = search (rules, live_of_summary)

    concerned : (key : ScheduleKey) → IsConcerned thin place key.uid → Contains uids key.uid
    concerned key (inl call) =
        let found = was_put _ _ _ (table_is_thin _ ∙ call.calling.is_live) in
        subst (Contains uids) call.uid_is (has.calls found.0 call.key call.lines found.1 found.2 found.3 ((calls_test _ _).1 call.calling.calls))
    concerned key (inr named) =
        let found = was_put _ _ _ (table_is_thin _ ∙ named.linked.is_live) in
        subst (Contains uids) named.associated_is (has.names found.0 named.key named.line found.1 found.2 found.3)

    not_needed : (key : Key) → is_wanted uids key ≡ false → ¬ IsNeeded thin place key
    not_needed = search (rules, wanted_uid, concerned)

    -- the live table of the state is an excerpt of the thinned table
    pub wanted_excerpt : IsExcerpt place thin (live_table part)
    wanted_excerpt key = by (is_wanted uids key) refl
      where
        by : (b : Bool) → is_wanted uids key ≡ b → (live_table part key ≡ thin key) ⊎ ((live_table part key ≡ None) × ¬ IsNeeded thin place key)
        by true h = inl (live_wanted key ∙ wanted_there uids key h kept empty_table empty_table refl ∙ table_is_thin key)
        by false h = inr (live_wanted key ∙ wanted_gone uids key h kept, not_needed key h)

    -- the state made from the wanted changes has the same docker as the summary of the file
    pub wanted_docker : HaveOneDocker (live_table whole) (live_table part) place day
    wanted_docker = thin_excerpt_docker place day (live_table whole) (summary_good file is_file few whole summary) (live_table part) wanted_excerpt

    -- the state made from the wanted changes has the same docker list as the summary of the file
    pub wanted_list : (lines : List DockerLine) → IsDockerList (live_table whole) place day lines ↔ IsDockerList (live_table part) place day lines
    wanted_list = wanted_docker.list
