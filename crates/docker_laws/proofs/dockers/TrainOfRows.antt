-- The rows of a live table determine its chosen schedules and its trains.
use Rattle.cif_laws.proofs.Common.{◌≡◌, ℕ, List, refl, ap, sym, ◌∙◌, Some, None, Bool, true, false, cond, Contains, eqb-true, rules, Option, ◌&&◌, ◌==◌, on}
use Rattle.cif_laws.proofs.Common.{IsTotalOrder, on_total, bytes_eq-Decides, Key, schedule_key, Body, schedule_body, Table, Row, AreRowsOf, schedule_choice_cmp}
use Rattle.cif_laws.proofs.Common.{IsRunning, IsChosen, Train, IsChosenOn}
use Rattle.docker_laws.specs.LiveRows.{HasSchedulesOf, schedule_of, schedules_in, is_running, chosen_in, unless_cancelled, train_in, IsTrainOn, TellsTrains}
use Rattle.docker_laws.specs.ChoiceWalk.{IsChosenSoFar}
use Rattle.cif_laws.proofs.lists.BoolsAndOptions.{both, none_some}
use Rattle.cif_laws.proofs.lists.FilteredMembers.{part_back, part_forth}
use Rattle.docker_laws.proofs.dockers.OneChoice.{schedule_choice_total, one_chosen, one_train}
use Rattle.docker_laws.proofs.dockers.FirstOfRows.{IsFirst, best_is_first, found_is_first}

by_key : IsTotalOrder (on (λ (train : Train). train.key) schedule_choice_cmp)
by_key = on_total (λ (train : Train). train.key) schedule_choice_total

-- if a row has a schedule, the row's key and body are the key and body of this schedule
row_is : (key : Key) (body : Body) (train : Train) → schedule_of key body ≡ Some train → (key ≡ schedule_key train.key) × (body ≡ schedule_body train.lines)
row_is = search (rules, none_some)

module _ (live : Table) (rows : List Row) (uid : List ℕ) (has : HasSchedulesOf live uid rows) where
  schedule_live : (train : Train) → Contains (schedules_in rows) train → live (schedule_key train.key) ≡ Some (schedule_body train.lines)
  schedule_live train among =
      let found = part_back (λ (row : Row). schedule_of row.0 row.1) rows train among in
      let told = row_is found.0.0 found.0.1 train found.2 in
      let there = has.each found.0.0 found.0.1 found.1 in
      ap live (sym told.0) ∙ there ∙ ap Some told.1

  module _ (day : ℕ) where
    abbrev Runs : Train → Type 0
    Runs train = IsRunning live uid day train.key train.lines

    running : (train : Train) → Contains (schedules_in rows) train → is_running uid day train ≡ true → Runs train
    running = search (rules, both, bytes_eq-Decides, schedule_live)

    among_running : (train : Train) → Runs train → Contains (schedules_in rows) train
    among_running train is = part_forth _ _ _ _ (has.all train.key train.lines is.uid_is is.is_live) refl

    passes_running : (train : Train) → Runs train → is_running uid day train ≡ true
    passes_running train is = λ i. (bytes_eq-Decides train.key.uid uid).1 is.uid_is i && is.runs_then i

    first_is_chosen : (found : Option Train) → IsFirst (on (λ (train : Train). train.key) schedule_choice_cmp) Runs found → IsChosenOn live uid day found
    first_is_chosen None none = λ key lines is. none (record { key = key; lines = lines }) is
    first_is_chosen (Some train) first = record {
      running = first.0;
      first = λ other others is. first.1 (record { key = other; lines = others }) is;
    }

    -- the best schedule of the rows is the chosen schedule
    pub best_is_chosen : (found : Option Train) → IsChosenSoFar uid day rows found → IsChosenOn live uid day found
    best_is_chosen = search (rules, first_is_chosen, best_is_first, by_key, running, among_running, passes_running)

    -- `chosen_in` computes the chosen schedule of a UID from rows that are in the live table and
    -- include every schedule of the UID
    pub chosen_tells : IsChosenOn live uid day (chosen_in rows uid day)
    chosen_tells = first_is_chosen _ (found_is_first by_key _ (schedules_in rows) _ running among_running passes_running)

    -- `train_in` computes the train of a UID from rows that are in the live table and include every
    -- schedule of the UID
    pub train_tells : IsTrainOn live uid day (train_in rows uid day)
    train_tells = by (chosen_in rows uid day) chosen_tells
      where
        at_letter : (train : Train) → IsChosen live uid day train.key train.lines → (b : Bool) → (train.key.indicator == 67) ≡ b
            → IsTrainOn live uid day (cond b None (Some train))
        at_letter train chosen true h = search (rules, one_chosen, eqb-true)
        at_letter train chosen false h = search rules

        by : (found : Option Train) → IsChosenOn live uid day found → IsTrainOn live uid day (unless_cancelled found)
        by None none = λ key lines runs. none key lines runs.chosen.running
        by (Some train) chosen = at_letter train chosen (train.key.indicator == 67) refl

-- the rows of a whole table include each schedule of each UID
pub rows_have : (live : Table) (rows : List Row) → AreRowsOf live rows → (uid : List ℕ) → HasSchedulesOf live uid rows
rows_have live rows are uid = record {
  each = λ key body among. (are.members key body).0 among;
  all = λ key lines same is. (are.members (schedule_key key) (schedule_body lines)).1 is;
}

-- from the rows of a whole table, `train_in` computes each train
pub trains_tell : (live : Table) (rows : List Row) → AreRowsOf live rows → TellsTrains live (train_in rows)
trains_tell live rows are uid day = train_tells live rows uid (rows_have live rows are uid) day

-- for a UID and a day, the chosen schedule is unique
pub one_answer : (live : Table) (uid : List ℕ) (day : ℕ) (a b : Option Train) → IsChosenOn live uid day a → IsChosenOn live uid day b → a ≡ b
one_answer live uid day None None one two = refl
one_answer live uid day None (Some b) one two = absurd (one b.key b.lines two.running)
one_answer live uid day (Some a) None one two = absurd (two a.key a.lines one.running)
one_answer live uid day (Some a) (Some b) one two = search (rules, one_chosen)

-- for a UID and a day, the train is unique
pub one_train_answer : (live : Table) (uid : List ℕ) (day : ℕ) (a b : Option Train) → IsTrainOn live uid day a → IsTrainOn live uid day b → a ≡ b
one_train_answer live uid day None None one two = refl
one_train_answer live uid day None (Some b) one two = absurd (one b.key b.lines two)
one_train_answer live uid day (Some a) None one two = absurd (two a.key a.lines one)
one_train_answer live uid day (Some a) (Some b) one two = search (rules, one_train)
