-- A walk over rows computes the chosen schedule, or the chosen association.
use Rattle.cif_laws.proofs.Common.{◌≡◌, ℕ, true, cond, List, [], ◌∷◌, ◌++◌, refl, ap, sym, ◌∙◌, subst, inl, inr, Some, None, Contains, append_assoc, append-nil}
use Rattle.cif_laws.proofs.Common.{rules, Option, ◌&&◌, bytes_eq-Decides, first_record, on, Key, schedule_key, ScheduleKey, Body, schedule_body, Table, Group}
use Rattle.cif_laws.proofs.Common.{schedule_runs, schedule_choice_cmp, association_choice_cmp, Train, IsChosenOn, Row, AreRowsOf, HasGoodBodies}
use Rattle.docker_laws.specs.Best.{with_one_more}
use Rattle.docker_laws.specs.LiveRows.{Link, HasSchedulesOf, HasAssociationsOf, IsLinkOn}
use Rattle.docker_laws.specs.LiveRows.{unless_cancelled, train_in, link_in, schedule_of, association_of, is_running, is_linked}
use Rattle.docker_laws.specs.ChoiceWalk.{IsChosenSoFar, IsLinkSoFar, next_chosen, next_link}
use Rattle.state_laws.specs.Index.{AreCalling, AreLinked, AreOfUid}
use Rattle.cif_laws.proofs.lists.Membership.{Contains-cons, cons-Contains, cons-Contains-first}
use Rattle.docker_laws.proofs.dockers.ChoiceWalk.{none_chosen, chosen_more, none_linked, link_more}
use Rattle.docker_laws.proofs.dockers.TrainOfRows.{best_is_chosen, one_answer, rows_have, chosen_tells}
use Rattle.docker_laws.proofs.dockers.LinkOfRows.{best_is_link, one_link_answer, links_tell}
use Rattle.train_choice.specs.Along.{chosen_along, link_along, AreGoodRows, AreLive, IsLiveTrain}

none_some : {A : Type 0} (value : A) → ◌≡◌ {A = Option A} None (Some value) → ⊥
none_some value is = cc

chosen_behind : (uid : List ℕ) (day : ℕ) (front rows : List Row) (found : Option Train) → IsChosenSoFar uid day front found
    → IsChosenSoFar uid day (front ++ rows) (chosen_along uid day found rows)
chosen_behind uid day front [] found best = subst (λ (rs : List Row). IsChosenSoFar uid day rs found) (sym (append-nil front)) best
chosen_behind uid day front (row ∷ rows) found best =
    subst (λ (rs : List Row). IsChosenSoFar uid day rs (chosen_along uid day found (row ∷ rows))) (append_assoc front (row ∷ []) rows)
    (chosen_behind uid day (front ++ row ∷ []) rows _ (chosen_more uid day front row.0 row.1 found best))

link_behind : (group : Group) (day : ℕ) (front rows : List Row) (found : Option Link) → IsLinkSoFar group day front found
    → IsLinkSoFar group day (front ++ rows) (link_along group day found rows)
link_behind group day front [] found best = subst (λ (rs : List Row). IsLinkSoFar group day rs found) (sym (append-nil front)) best
link_behind group day front (row ∷ rows) found best =
    subst (λ (rs : List Row). IsLinkSoFar group day rs (link_along group day found (row ∷ rows))) (append_assoc front (row ∷ []) rows)
    (link_behind group day (front ++ row ∷ []) rows _ (link_more group day front row.0 row.1 found best))

-- if the rows include every schedule of a UID, a walk over the rows computes the chosen schedule
pub chosen_of_uid : (live : Table) (uid : List ℕ) (day : ℕ) (rows : List Row) (found : Option Train) → HasSchedulesOf live uid rows
    → found ≡ chosen_along uid day None rows → IsChosenOn live uid day found
chosen_of_uid live uid day rows found has is =
    best_is_chosen live rows uid has day found
    (subst (IsChosenSoFar uid day rows) (sym is) (chosen_behind uid day [] rows None (none_chosen uid day)))

-- if the rows include every association of a group, a walk over the rows computes the chosen
-- association
pub link_of_group : (live : Table) (group : Group) (day : ℕ) (rows : List Row) (found : Option Link) → HasAssociationsOf live group rows
    → found ≡ link_along group day None rows → IsLinkOn live group day found
link_of_group live group day rows found has is =
    best_is_link live rows group has day found
    (subst (IsLinkSoFar group day rows) (sym is) (link_behind group day [] rows None (none_linked group day)))

-- for the rows of a table, `train_in` returns the chosen schedule, or `None` if the chosen schedule
-- is a cancellation
pub train_of_rows : (live : Table) (rows : List Row) (uid : List ℕ) (day : ℕ) (found : Option Train) → AreRowsOf live rows
    → IsChosenOn live uid day found → unless_cancelled found ≡ train_in rows uid day
train_of_rows live rows uid day found are chosen = ap unless_cancelled (one_answer _ _ _ _ _ chosen (chosen_tells _ rows uid (rows_have _ _ are _) day))

-- for the rows of a table, `link_in` returns the chosen association
pub link_of_rows : (live : Table) (rows : List Row) (group : Group) (day : ℕ) (found : Option Link) → AreRowsOf live rows
    → IsLinkOn live group day found → found ≡ link_in rows group day
link_of_rows live rows group day found are is = one_link_answer live group day found (link_in rows group day) is (links_tell live rows are group day)

-- if each row of a list is live, `AreLive` holds for the list
live_rows : (live : Table) (rows : List Row) → ((key : Key) (body : Body) → Contains rows (key, body) → live key ≡ Some body) → AreLive live rows
live_rows live [] each = tt
live_rows live (row ∷ rows) each = (
  each row.0 row.1 (cons-Contains-first _ rows),
  live_rows _ rows (λ key body among. each key body (cons-Contains _ rows _ among)),
)

-- if all bodies of a table are well formed, so are the bodies of live rows
good_rows : (live : Table) (rows : List Row) → HasGoodBodies live → AreLive live rows → AreGoodRows rows
good_rows live [] good are = tt
good_rows live (row ∷ rows) good are = (good row.0 row.1 are.0, good_rows live rows good are.1)

-- if all bodies of a table are well formed, so are the bodies of a UID's schedules
pub good_of_uid : (live : Table) (uid : List ℕ) (rows : List Row) → HasGoodBodies live → AreOfUid live uid rows → AreGoodRows rows
good_of_uid live uid rows good are = good_rows live rows good (live_rows live rows (λ key body among. ((are.members key body).0 among).4))

-- the associations at a place are live
pub live_linked : (live : Table) (place : List ℕ) (rows : List Row) → AreLinked live place rows → AreLive live rows
live_linked live place rows are = live_rows live rows (λ key body among. let one = (are.members key body).0 among in
    ap live one.2 ∙ one.4.is_live ∙ ap Some (sym one.3))

-- if all bodies of a table are well formed, so are the bodies of the associations at a place
pub good_linked : (live : Table) (place : List ℕ) (rows : List Row) → HasGoodBodies live → AreLinked live place rows → AreGoodRows rows
good_linked live place rows good are = good_rows live rows good (live_linked live place rows are)

-- the schedules that call at a place are live
pub live_calling : (live : Table) (place : List ℕ) (rows : List Row) → AreCalling live place rows → AreLive live rows
live_calling live place rows are = live_rows live rows (λ key body among. let one = (are.members key body).0 among in
    ap live one.2 ∙ one.4.is_live ∙ ap Some (sym one.3))

-- if all bodies of a table are well formed, so are the bodies of the schedules that call at a place
pub good_calling : (live : Table) (place : List ℕ) (rows : List Row) → HasGoodBodies live → AreCalling live place rows → AreGoodRows rows
good_calling live place rows good are = good_rows live rows good (live_calling live place rows are)

-- updating the best schedule with the row of a schedule is the same as updating it with this
-- schedule
pub next_is_one : (uid : List ℕ) (day : ℕ) (found : Option Train) (key : Key) (body : Body) (train : Train) → schedule_of key body ≡ Some train
    → with_one_more (on (λ (t : Train). t.key) schedule_choice_cmp) (is_running uid day) found train ≡ next_chosen uid day found key body
next_is_one = search (rules, none_some)

-- updating the best association with the row of an association is the same as updating it with this
-- association
pub next_link_is_one : (group : Group) (day : ℕ) (found : Option Link) (key : Key) (body : Body) (link : Link) → association_of key body ≡ Some link
    → with_one_more (on (λ (l : Link). l.key) association_choice_cmp) (is_linked group day) found link ≡ next_link group day found key body
next_link_is_one = search (rules, none_some)

-- a row that isn't an association leaves the best association unchanged
pub next_link_is_none : (group : Group) (day : ℕ) (found : Option Link) (key : Key) (body : Body) → association_of key body ≡ None
    → found ≡ next_link group day found key body
next_link_is_none = search (rules, none_some)

-- the row of a schedule
abbrev row_of : Train → Row
row_of train = (schedule_key train.key, schedule_body train.lines)

-- if rows include every live schedule of a UID, they still do after the row of one of these
-- schedules is prepended
has_in_front : (live : Table) (train : Train) (rows : List Row) → IsLiveTrain live train → HasSchedulesOf live train.key.uid rows
    → HasSchedulesOf live train.key.uid (row_of train ∷ rows)
has_in_front live train rows is_live has = record {
  each = λ key body among. elim (Contains-cons (row_of train) rows (key, body) among) [
    | inl same ↦ subst (λ (row : Row). live row.0 ≡ Some row.1) same is_live
    | inr inside ↦ has.each key body inside
  ];
  all = λ key lines same is. cons-Contains (row_of train) rows (schedule_key key, schedule_body lines) (has.all key lines same is);
}

-- if a list has a single row, and its schedule runs on the day, this schedule is the best in the
-- list
best_alone : (train : Train) (day : ℕ) → schedule_runs (first_record train.lines) day ≡ true
    → IsChosenSoFar train.key.uid day (row_of train ∷ []) (Some train)
best_alone train day runs =
    subst (IsChosenSoFar train.key.uid day (row_of train ∷ [])) (λ i. cond (running i) (Some train) None)
    (chosen_more train.key.uid day [] (schedule_key train.key) (schedule_body train.lines) None (none_chosen train.key.uid day))
  where
    running : is_running train.key.uid day train ≡ true
    running = λ i. (bytes_eq-Decides train.key.uid train.key.uid).1 refl i && runs i

-- let a walk over a UID's rows start from one of the UID's live schedules that run on the day. Then
-- the walk's result is the schedule chosen on the day. Unless this schedule is a cancellation, the
-- UID's train runs according to it
train_from_it : (live : Table) (rows : List Row) (train : Train) (day : ℕ) (walk : List Row) (found : Option Train) → AreRowsOf live rows
    → IsLiveTrain live train → schedule_runs (first_record train.lines) day ≡ true → HasSchedulesOf live train.key.uid walk
    → found ≡ chosen_along train.key.uid day (Some train) walk → unless_cancelled found ≡ train_in rows train.key.uid day
train_from_it live rows train day walk found are is_live runs has is =
    train_of_rows live rows train.key.uid day found are
    (best_is_chosen live (row_of train ∷ walk) train.key.uid (has_in_front live train walk is_live has) day found
    (subst (IsChosenSoFar train.key.uid day (row_of train ∷ walk)) (sym is)
    (chosen_behind train.key.uid day (row_of train ∷ []) walk (Some train) (best_alone train day runs))))

-- let a walk over a UID's rows start from one of the UID's live schedules that run on the day.
-- Unless the walk's result is a cancellation, the UID's train runs according to the schedule that
-- the walk returns
pub train_from_told : (live : Table) (rows : List Row) (train : Train) (key : ScheduleKey) (day : ℕ) (walk : List Row) (best found : Option Train)
    → key ≡ train.key → AreRowsOf live rows → IsLiveTrain live train → schedule_runs (first_record train.lines) day ≡ true → HasSchedulesOf live key.uid walk
    → best ≡ chosen_along key.uid day (Some train) walk → found ≡ unless_cancelled best → found ≡ train_in rows train.key.uid day
train_from_told = search (rules, train_from_it)
