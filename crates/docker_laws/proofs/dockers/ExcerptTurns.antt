-- A loop can compute an excerpt from three values. They are the kept entries, the entries for the
-- schedules of the current UID, and a flag that says whether the docker needs these schedules.
use Rattle.cif_laws.proofs.Common.{◌≡◌, ℕ, List, [], ◌∷◌, ◌++◌, subst, ap, sym, ◌∙◌, Bool, true, false, cond, Contains, arith, rules, common_steps, ◌||◌, ◌↔◌}
use Rattle.cif_laws.proofs.Common.{Key, schedule_key, ScheduleKey, Entry, LedgerItem, State, AreEntries, IsAboveEntries}
use Rattle.docker_laws.specs.Excerpt.{IsSublist}
use Rattle.docker_laws.specs.ExcerptWalk.{ExcerptSoFar, is_here, has_uid, names_in, is_call, is_run_named}
use Rattle.docker_laws.specs.ExcerptWalk.{kept_after_run, goes_on, next_kept, kept_so_far, HasKept}
use Rattle.state_laws.proofs.states.PlainTable.{Keyed}
use Rattle.docker_laws.proofs.dockers.ExcerptWalk.{same_tests}
use Rattle.docker_laws.proofs.dockers.ExcerptSteps.{so_far_more, so_far_within, so_far_good, no_run_before, names_stay}
use Rattle.docker_laws.proofs.dockers.ExcerptSteps.{keeps_here, drops_elsewhere, calls_more, named_iff, or_false}

abbrev at : List Keyed → List Keyed → ExcerptSoFar
at kept run = record { kept = kept; run = run }

module _ (place : List ℕ) (entries kept run : List Keyed) (needed : Bool) (has : HasKept place entries kept run needed) where
  -- `next_kept` computes the lists `kept` and `run` after the loop passes one more entry
  next_is : (x : Keyed) → kept_so_far place (entries ++ x ∷ []) ≡ next_kept place (at kept run) x
  next_is x = so_far_more place entries x ∙ ap (λ (so_far : ExcerptSoFar). next_kept place so_far x) has.so_far

  -- a schedule that has the UID of the entries in `run` is appended to `run`. The docker then needs
  -- these entries if it needed them before, or if the schedule calls at the place
  pub kept_joins : (key : ScheduleKey) (entry : Entry) → goes_on run key.uid ≡ true
      → HasKept place (entries ++ (schedule_key key, entry) ∷ []) kept (run ++ (schedule_key key, entry) ∷ []) (needed || is_call place entry.op)
  kept_joins = search (rules, next_is, calls_more)

  -- `kept_after_run` appends the entries in `run` to the kept entries if they are needed, and drops
  -- them otherwise
  ended : kept_after_run place (at kept run) ≡ cond needed (kept ++ run) kept
  ended = λ i. cond (has.is_needed i) (kept ++ run) kept

  began : (key : ScheduleKey) (entry : Entry) → goes_on run key.uid ≡ false
      → kept_so_far place (entries ++ (schedule_key key, entry) ∷ []) ≡ at (cond needed (kept ++ run) kept) ((schedule_key key, entry) ∷ [])
  began = search (rules, next_is, ended)

  still_names : (key : ScheduleKey) (entry : Entry) → goes_on run key.uid ≡ false → names_in (cond needed (kept ++ run) kept) ≡ names_in kept
  still_names key entry stops =
      sym (ap (λ (so_far : ExcerptSoFar). names_in so_far.kept) (began key entry stops))
      ∙ names_stay place entries key entry
      ∙ ap (λ (so_far : ExcerptSoFar). names_in so_far.kept) has.so_far

  -- when the loop comes to a schedule whose UID isn't the UID of the entries in `run`, it keeps or
  -- drops these entries. After this step, `run` has only the schedule. The docker needs the
  -- schedule if its UID belongs to the associated train of a kept association, or if the schedule
  -- calls at the place
  pub kept_begins : (key : ScheduleKey) (entry : Entry) (named : Bool) → goes_on run key.uid ≡ false
      → (named ≡ true) ↔ Contains (names_in kept) key.uid
      → HasKept place (entries ++ (schedule_key key, entry) ∷ []) (cond needed (kept ++ run) kept) ((schedule_key key, entry) ∷ [])
      (named || is_call place entry.op)
  kept_begins key entry named stops tells = record {
    so_far = began key entry stops;
    is_needed = λ i. names i || or_false (is_call place entry.op) i;
  }
    where
      told : (is_run_named (names_in (cond needed (kept ++ run) kept)) ((schedule_key key, entry) ∷ []) ≡ true) ↔ Contains (names_in kept) key.uid
      told =
          subst (λ (names : List (List ℕ)).
          (is_run_named (names_in (cond needed (kept ++ run) kept)) ((schedule_key key, entry) ∷ []) ≡ true) ↔ Contains names key.uid)
          (still_names key entry stops) (named_iff (names_in (cond needed (kept ++ run) kept)) key entry [])

      names : is_run_named (names_in (cond needed (kept ++ run) kept)) ((schedule_key key, entry) ∷ []) ≡ named
      names = search (rules, same_tests, tells.1, told.0, told.1, tells.0)

  -- the entries in `kept`, followed by the entries in `run`, are a sublist of the entries that the
  -- loop has passed
  pub kept_within : IsSublist (kept ++ run) entries
  kept_within = subst (λ (so_far : ExcerptSoFar). IsSublist (so_far.kept ++ so_far.run) entries) has.so_far (so_far_within place entries)

  -- if a state may have the entries that the loop has passed, it may also have only the entries in
  -- `kept` and `run`
  pub kept_good : (ledger : List LedgerItem) → AreEntries ledger entries → AreEntries ledger (kept ++ run)
  kept_good ledger are = subst (λ (so_far : ExcerptSoFar). AreEntries ledger (so_far.kept ++ so_far.run)) has.so_far (so_far_good place ledger entries are)

module _ (place : List ℕ) (state : State) (kept run : List Keyed) (needed : Bool) (has : HasKept place state.entries kept run needed) where
  -- when the loop reaches a TIPLOC or an association, `run` is empty
  pub kept_alone : (key : Key) → IsAboveEntries state key → ((uid : List ℕ) → has_uid uid key ≡ false) → run ≡ []
  kept_alone key above never = sym (ap (λ (so_far : ExcerptSoFar). so_far.run) has.so_far) ∙ no_run_before place state.entries key above never

  -- the TIPLOC of the place is kept, and so is an association at the place
  pub kept_here : (key : Key) (entry : Entry) → IsAboveEntries state key → ((uid : List ℕ) → has_uid uid key ≡ false) → is_here place key ≡ true
      → HasKept place (state.entries ++ (key, entry) ∷ []) (kept ++ (key, entry) ∷ []) [] false
  kept_here = grind (common_steps, arith, next_is, keeps_here, kept_alone)

  -- the TIPLOC of a place other than the excerpt's place isn't kept, and neither is an association
  -- at such a place
  pub kept_elsewhere : (key : Key) (entry : Entry) → IsAboveEntries state key → ((uid : List ℕ) → has_uid uid key ≡ false) → is_here place key ≡ false
      → HasKept place (state.entries ++ (key, entry) ∷ []) kept [] false
  kept_elsewhere = grind (common_steps, arith, next_is, drops_elsewhere, kept_alone)
