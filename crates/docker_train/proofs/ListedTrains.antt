-- The list of the trains that have an identity and start on a day is written row by row. It is
-- unique, and the same for a table before and after its rows lapse.
use Rattle.cif_laws.proofs.Common.{◌≡◌, ℕ, ◌≤◌, List, [], ◌∷◌, ◌++◌, true, false, cond, Contains, refl, ap, sym, ◌∙◌, subst, Some, None, rules, Option, filter}
use Rattle.cif_laws.proofs.Common.{max, ◌&&◌, ◌↔◌, cons_option, flat_map, Ordering, Less, Equal, Greater, is_eq, nat_cmp, on, ordering_then, IsTotalOrder}
use Rattle.cif_laws.proofs.Common.{on_total, tied_itself, nat_list_cmp_total, le-max_left, le-max_right, exact_bytes, IsDay, no_end_number, Key, schedule_key}
use Rattle.cif_laws.proofs.Common.{Body, schedule_body, HaveSameFiles, lapse_table, key_cmp, schedule_key_cmp, bytes_cmp, IsBelow, Row, AreRowsOf, State}
use Rattle.cif_laws.proofs.Common.{lapse_state, live_table, IsSummary, Table, IsPlainTable, Train, TrainRuns, ended}
use Rattle.cif_laws.proofs.lists.BoolsAndOptions.{both, none_some}
use Rattle.cif_laws.proofs.lists.FilteredMembers.{filter_back, filter_forth, part_back, part_forth}
use Rattle.cif_laws.proofs.lists.Later.{AllLater, later_filter, later_weaker}
use Rattle.cif_laws.proofs.lists.Membership.{below_by_recursion, each_member}
use Rattle.cif_laws.proofs.orders.Ascending.{ascending_of, later_of, same_list}
use Rattle.cif_laws.proofs.orders.AtMost.{eq_is}
use Rattle.cif_laws.proofs.orders.Orders.{exact_schedule_key, schedule_key_total}
use Rattle.state_laws.proofs.states.Lapse.{max_most}
use Rattle.state_laws.proofs.states.PlainLive.{live_is_lapsed_plain}
use Rattle.state_laws.proofs.states.SummaryLaws.{lapsed_summary, summary_unique}
use Rattle.state_laws.proofs.states.TableLapsed.{live_lapsed}
use Rattle.docker_laws.specs.Gathering.{runs_by}
use Rattle.docker_laws.specs.LiveRows.{IsTrainOn, schedule_of, schedules_in, train_in}
use Rattle.docker_laws.proofs.dockers.LapsedChoice.{train_iff}
use Rattle.docker_laws.proofs.dockers.OneChoice.{one_schedule, one_train}
use Rattle.docker_laws.proofs.dockers.PrintedDocker.{day_bound}
use Rattle.docker_laws.proofs.dockers.TrainOfRows.{one_train_answer, trains_tell}
use Rattle.docker_model.specs.lists.TrainsText.{AreListed, IsListed, IsTrainsText, train_columns, trains_text}
use Rattle.docker_train.specs.TrainRows.{is_listed, row_line, schedule_line}

-- if a row has a schedule, the row's key and body are the key and body of this schedule
row_is : (key : Key) (body : Body) (train : Train) → schedule_of key body ≡ Some train → (key ≡ schedule_key train.key) × (body ≡ schedule_body train.lines)
row_is = search (rules, none_some)

-- ---- the lines of a walk

module _ (rows : List Row) (identity : List ℕ) (day : ℕ) where
  -- the schedules of a walk that are listed
  abbrev pub listed_in : List Row → List Train
  listed_in walk = filter (is_listed rows identity day) (schedules_in walk)

  -- the lines of a walk's rows are the lines of its listed schedules
  pub lines_are : (walk : List Row) → flat_map (row_line rows identity day) walk ≡ trains_text day (listed_in walk)
  lines_are [] = refl
  lines_are (row ∷ walk) = elim (schedule_of row.0 row.1) as (λ o. schedule_line rows identity day o ++ flat_map (row_line rows identity day) walk
      ≡ trains_text day (filter (is_listed rows identity day) (cons_option o (schedules_in walk)))) [
        | None ↦ lines_are walk
        | Some train ↦ elim (is_listed rows identity day train) as (λ b. cond b (ended (train_columns day train.key)) []
            ++ flat_map (row_line rows identity day) walk ≡ trains_text day (cond b (train ∷ listed_in walk) (listed_in walk))) [
              | true ↦ ap (λ bytes. ended (train_columns day train.key) ++ bytes) (lines_are walk)
              | false ↦ lines_are walk
            ]
      ]

-- ---- the listed schedules

-- in this order of the schedules' keys, the first schedule is below the second
abbrev IsKeyBelow : Train → Train → Type 0
IsKeyBelow a b = schedule_key_cmp a.key b.key ≡ Less

abbrev row_cmp : Row → Row → Ordering
row_cmp = on (λ (row : Row). row.0) key_cmp

-- if the rows of a walk are in key order, so are its schedules
keys_ascend : (walk : List Row) → AllLater (IsBelow row_cmp) walk → AllLater IsKeyBelow (schedules_in walk)
keys_ascend [] up = tt
keys_ascend (row ∷ walk) up = (elim (schedule_of row.0 row.1) as (λ o. schedule_of row.0 row.1 ≡ o
    → AllLater IsKeyBelow (cons_option o (schedules_in walk))) [
      | None ↦ λ is. keys_ascend walk up.1
      | Some train ↦ λ is. (each_member (IsKeyBelow train) (schedules_in walk) (below train is), keys_ascend walk up.1)
    ]) refl
  where
    below : (train : Train) → schedule_of row.0 row.1 ≡ Some train → (z : Train) → Contains (schedules_in walk) z → IsKeyBelow train z
    below train is z among =
        let found = part_back (λ (r : Row). schedule_of r.0 r.1) walk z among in
        let low = below_by_recursion (IsBelow row_cmp row) walk found.0 up.0 found.1 in
        let own = (row_is row.0 row.1 train is).0 in
        let other = (row_is found.0.0 found.0.1 z found.2).0 in
        (λ i. key_cmp (sym own i) (sym other i)) ∙ low

module _ (live : Table) (rows : List Row) (are : AreRowsOf live rows) (identity : List ℕ) (day : ℕ) where
  -- a schedule of the rows is live
  is_live : (train : Train) → Contains (schedules_in rows) train → live (schedule_key train.key) ≡ Some (schedule_body train.lines)
  is_live train among =
      let found = part_back (λ (row : Row). schedule_of row.0 row.1) rows train among in
      let told = row_is found.0.0 found.0.1 train found.2 in
      ap live (sym told.0) ∙ (are.members found.0.0 found.0.1).0 found.1 ∙ ap Some told.1

  -- if the train of a UID runs according to the schedule with this key, it runs according to this
  -- live schedule
  runs_back : (train : Train) → live (schedule_key train.key) ≡ Some (schedule_body train.lines) → (found : Option Train)
      → IsTrainOn live train.key.uid day found → runs_by found train.key ≡ true → TrainRuns live train.key.uid day train.key train.lines
  runs_back train here None on by = cc
  runs_back train here (Some other) on by =
      let keys = exact_schedule_key other.key train.key (eq_is (schedule_key_cmp other.key train.key) by) in
      let lines = one_schedule live other.key train.key other.lines train.lines keys on.chosen.running.is_live here in
      subst (λ (t : Train). TrainRuns live train.key.uid day t.key t.lines) (λ i. record { key = keys i; lines = lines i }) on

  listed_back : (train : Train) → Contains (listed_in rows identity day rows) train → IsListed live identity day train
  listed_back train among =
      let passed = filter_back _ _ _ among in
      let outer = both _ _ passed.1 in
      let inner = both _ _ outer.0 in
      record {
        runs = runs_back _ (is_live _ passed.0) _ (trains_tell _ _ are train.key.uid day) outer.1;
        identified = inner.1;
      }

  listed_forth : (train : Train) → IsListed live identity day train → Contains (listed_in rows identity day rows) train
  listed_forth train is = filter_forth _ _ _ (part_forth _ _ _ _
      ((are.members (schedule_key train.key) (schedule_body train.lines)).1 is.runs.chosen.running.is_live) refl)
      (λ i. is.runs.chosen.running.runs_then i && is.identified i && runs_is i)
    where
      train_is : train_in rows train.key.uid day ≡ Some train
      train_is = one_train_answer _ _ _ _ _ (trains_tell _ _ are train.key.uid day) is.runs

      runs_is : runs_by (train_in rows train.key.uid day) train.key ≡ true
      runs_is = ap (λ (o : Option Train). runs_by o train.key) train_is ∙ (λ i. is_eq (tied_itself schedule_key_total train.key i))

  -- of two listed trains, the one whose schedule has the lower key has the lower UID
  uid_below : (a b : Train) → IsListed live identity day a → IsListed live identity day b → IsKeyBelow a b → bytes_cmp a.key.uid b.key.uid ≡ Less
  uid_below a b one two below = by (bytes_cmp a.key.uid b.key.uid) refl below
    where
      later : Ordering
      later = ordering_then (nat_cmp a.key.runs_from b.key.runs_from) (nat_cmp a.key.indicator b.key.indicator)

      never : a.key.uid ≡ b.key.uid → ⊥
      never uids =
          let same = one_train _ _ _ _ _ _ _ one.runs (subst (λ (uid : List ℕ). TrainRuns live uid day b.key b.lines) (sym uids) two.runs) in
          let tied : schedule_key_cmp a.key b.key ≡ Equal = ap (schedule_key_cmp a.key) (sym same.0) ∙ tied_itself schedule_key_total a.key in
          let bad : Equal ≡ Less = sym tied ∙ below in let none : ⊥ = cc in none

      by : (o : Ordering) → bytes_cmp a.key.uid b.key.uid ≡ o → ordering_then o later ≡ Less → bytes_cmp a.key.uid b.key.uid ≡ Less
      by Less is low = is
      by Equal is low = absurd (never (exact_bytes a.key.uid b.key.uid is))
      by Greater is low = is ∙ low

  -- the listed schedules of all live rows belong to the trains of the list
  pub are_listed : AreListed live identity day (listed_in rows identity day rows)
  are_listed = record {
    ascending = ascending_of _ _ (later_weaker _ _ _ (λ a b in_a in_b. uid_below _ _ (listed_back _ in_a) (listed_back _ in_b))
        (later_filter _ _ _ (keys_ascend _ (later_of _ _ are.ascending))));
    members = λ train. (listed_back _, listed_forth _);
  }

  -- the lines of all live rows are the list of the trains
  pub is_trains_text : IsTrainsText live identity day (flat_map (row_line rows identity day) rows)
  is_trains_text = search (rules, are_listed, lines_are)

-- ---- one list

uid_total : IsTotalOrder (on (λ (train : Train). train.key.uid) bytes_cmp)
uid_total = on_total (λ (train : Train). train.key.uid) nat_list_cmp_total

-- a table has at most one list of the trains that have an identity and start on a day
pub one_list : (live : Table) (identity : List ℕ) (day : ℕ) (text other : List ℕ) → IsTrainsText live identity day text
    → IsTrainsText live identity day other → text ≡ other
one_list live identity day text other one two = one.text_is
    ∙ ap (trains_text day) (same_list uid_total _ _ one.are.ascending two.are.ascending (λ train. (
      λ among. (two.are.members train).1 ((one.are.members train).0 among),
      λ among. (one.are.members train).1 ((two.are.members train).0 among),
    )))
    ∙ sym two.text_is

-- ---- lapsed rows

-- if two tables list the same trains, the list of the first table is the list of the second
list_as : (live other : Table) (identity : List ℕ) (day : ℕ) (text : List ℕ)
    → ((train : Train) → IsListed live identity day train ↔ IsListed other identity day train)
    → IsTrainsText live identity day text → IsTrainsText other identity day text
list_as live other identity day text same is = record {
  trains = is.trains;
  are = record {
    ascending = is.are.ascending;
    members = λ train. (λ among. (same train).0 ((is.are.members train).0 among), λ listed. (is.are.members train).1 ((same train).1 listed));
  };
  text_is = is.text_is;
}

module _ (horizon : ℕ) (bound : horizon ≤ no_end_number) (live : Table) (identity : List ℕ) (day : ℕ) (from : horizon ≤ day) where
  listed_iff : (train : Train) → IsListed live identity day train ↔ IsListed (lapse_table horizon live) identity day train
  listed_iff train = (
    λ is. record { runs = (train_iff horizon bound live day from train.key.uid train.key train.lines).0 is.runs; identified = is.identified },
    λ is. record { runs = (train_iff horizon bound live day from train.key.uid train.key train.lines).1 is.runs; identified = is.identified },
  )

  -- on a day that isn't before the horizon, the list of trains is the same for the table before and
  -- after its rows lapse
  pub list_lapsed : (text : List ℕ) → IsTrainsText live identity day text ↔ IsTrainsText (lapse_table horizon live) identity day text
  list_lapsed text = (
    list_as live (lapse_table horizon live) _ _ _ listed_iff,
    list_as (lapse_table horizon live) live _ _ _ (λ train. ((listed_iff train).1, (listed_iff train).0)),
  )

-- on a day that isn't before the horizon, the list of trains for the summary of a set of files is
-- the list for the files' plain table
pub list_is_plain : (files : List (List (List ℕ))) (horizon : ℕ) (state : State) (table : Table) (identity : List ℕ) (day : ℕ) (text : List ℕ)
    → IsSummary files horizon state → IsPlainTable files table → IsDay horizon → horizon ≤ day
    → IsTrainsText (live_table state) identity day text → IsTrainsText table identity day text
list_is_plain files horizon state table identity day text is plain is_day from told = (list_lapsed _ (day_bound _ is_day) table identity day from text).1
    (subst (λ (live : Table). IsTrainsText live identity day text) (live_is_lapsed_plain _ _ _ _ is plain) told)

list_stays : (horizon : ℕ) (state : State) (identity : List ℕ) (day : ℕ) (text : List ℕ) → IsDay horizon → horizon ≤ day
    → IsTrainsText (live_table state) identity day text → IsTrainsText (live_table (lapse_state horizon state)) identity day text
list_stays horizon state identity day text is_day from told = subst (λ (live : Table). IsTrainsText live identity day text) (sym (live_lapsed _ state))
    ((list_lapsed _ (day_bound horizon is_day) (live_table state) identity day from text).0 told)

-- two summaries of the same files have the same list of trains for each day that isn't before
-- either horizon
pub list_of_files : (files others : List (List (List ℕ))) (horizon theirs : ℕ) (one two : State) → HaveSameFiles files others → IsDay horizon → IsDay theirs
    → IsSummary files horizon one → IsSummary others theirs two → (identity : List ℕ) (day : ℕ) → horizon ≤ day → theirs ≤ day → (text other : List ℕ)
    → IsTrainsText (live_table one) identity day text → IsTrainsText (live_table two) identity day other → text ≡ other
list_of_files files others horizon theirs one two same is_day day_too is that identity day from from_too text other told told_too =
    let greater = max horizon theirs in
    let day_is : IsDay greater = max_most horizon theirs _ is_day day_too in
    let below : greater ≤ day = max_most horizon theirs day from from_too in
    let states = summary_unique files others same greater (lapse_state greater one) (lapse_state greater two)
    (lapsed_summary files horizon greater one (le-max_left horizon theirs) is) (lapsed_summary others theirs greater two (le-max_right horizon theirs) that) in
    one_list (live_table (lapse_state greater two)) identity day text other
    (subst (λ (s : State). IsTrainsText (live_table s) identity day text) states (list_stays greater one identity day text day_is below told))
    (list_stays greater two identity day other day_is below told_too)
