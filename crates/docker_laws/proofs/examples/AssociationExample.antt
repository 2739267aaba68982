-- An example of an association line: the train that ends at COLWELL at 23:50 becomes the train that
-- leaves COLWELL after midnight.
use Rattle.cif_laws.proofs.Common.{◌≡◌, ℕ, List, [], ◌∷◌, refl, inl, inr, Some, None, arith, ap, sym, ◌∙◌, subst, Contains, ◌⊎◌, rules, codes, Option}
use Rattle.cif_laws.proofs.Common.{slice_index, next_working, arrival, Key, schedule_key, association_key, ScheduleKey, AssociationKey, Body, schedule_body}
use Rattle.cif_laws.proofs.Common.{association_body, IsAtMost, Entry, put_with, body_of, State, live_table, Event, schedule_choice_cmp, IsChosen}
use Rattle.cif_laws.proofs.Common.{IsChosenAssociation, group_of, DockerLine, line_of_association, IsAssociationLine, line_text}
use Rattle.jiff_core.specs.Calendar.{days_from_civil, day_count, days_of_years, days_of_months}
use Rattle.cif_laws.proofs.records.Builders.{no_text, bs, lo, lt, aa}
use Rattle.cif_laws.proofs.lists.Membership.{Contains-cons, nil-Contains}
use Rattle.state_laws.proofs.states.PlainTable.{Keyed}
use Rattle.docker_laws.proofs.examples.ChoiceExamples.{in_state, some_stamp}

abbrev base_lines : List (List ℕ)
base_lines =
    bs (codes "N") (codes "C40001") (codes "240610") (codes "240610") (codes "1000000") (codes "4D40") (codes "P")
    ∷ lo (codes "ASHFELD") no_text (codes "2300") no_text (codes "1") no_text
    ∷ lt (codes "COLWELL") no_text (codes "2350") no_text (codes "1") no_text ∷ []

abbrev next_lines : List (List ℕ)
next_lines =
    bs (codes "N") (codes "C40002") (codes "240611") (codes "240611") (codes "0100000") (codes "4D42") (codes "P")
    ∷ lo (codes "COLWELL") no_text (codes "0010") no_text (codes "1") no_text
    ∷ lt (codes "ASHFELD") no_text (codes "0100") no_text (codes "1") no_text ∷ []

abbrev link : List ℕ
link =
    aa (codes "N") (codes "C40001") (codes "C40002") (codes "240610") (codes "240610") (codes "1000000") (codes "NP") (codes "N")
    (codes "COLWELL") no_text no_text (codes "P")

abbrev base_key : ScheduleKey
base_key = record { uid = codes "C40001"; runs_from = 23537; indicator = 80 }

abbrev next_key : ScheduleKey
next_key = record { uid = codes "C40002"; runs_from = 23538; indicator = 80 }

abbrev link_key : AssociationKey
link_key = record { base = codes "C40001"; associated = codes "C40002"; start = 23537; location = codes "COLWELL"; suffix = 32; indicator = 80 }

abbrev put_in : Key → Body → Keyed
put_in key body = (key, record { stamp = some_stamp; op = put_with body })

abbrev linked : State
linked = record {
  horizon = 0;
  ledger = [];
  entries =
      put_in (association_key link_key) (association_body link) ∷ put_in (schedule_key base_key) (schedule_body base_lines) ∷ put_in (schedule_key next_key)
      (schedule_body next_lines) ∷ [];
}

abbrev Same : Key → Body → Key → Body → Type 0
Same key body other others = (key ≡ other) × (body ≡ others)

abbrev body_or : Option Body → Body
body_or (Some body) = body
body_or None = association_body []

same_entry : (key other : Key) (body others : Body) (entry : Entry) → put_in key body ≡ (other, entry) → body_of entry.op ≡ Some others
    → Same key body other others
same_entry = search (rules, body_or)

-- the key and the body belong to one of the three live entries of the example
abbrev OneOf : Key → Body → Type 0
OneOf other others =
    Same (association_key link_key) (association_body link) other others
    ⊎ (Same (schedule_key base_key) (schedule_body base_lines) other others ⊎ Same (schedule_key next_key) (schedule_body next_lines) other others)

one_of : (other : Key) (others : Body) → live_table linked other ≡ Some others → OneOf other others
one_of other others h = by (in_state linked _ others h)
  where
    by : (entry : Entry) × Contains linked.entries (other, entry) × (body_of entry.op ≡ Some others) → OneOf other others
    by found = first (Contains-cons _ (put_in (schedule_key base_key) (schedule_body base_lines) ∷ put_in
        (schedule_key next_key) (schedule_body next_lines) ∷ []) _ found.1)
      where
        first : (put_in (association_key link_key) (association_body link) ≡ (other, found.0))
            ⊎ Contains (put_in (schedule_key base_key) (schedule_body base_lines) ∷ put_in (schedule_key next_key) (schedule_body next_lines) ∷ [])
            (other, found.0) → OneOf other others
        first (inl e) = inl (same_entry (association_key link_key) _ (association_body link) _ found.0 e found.2)
        first (inr rest) = search (rules, put_in, next_key, next_lines, same_entry, base_key, base_lines, nil-Contains)

schedule_in : Key → ScheduleKey
schedule_in (schedule_key key) = key
schedule_in _ = base_key

association_in : Key → AssociationKey
association_in (association_key key) = key
association_in _ = link_key

-- the UIDs of the two trains differ in their last digit
uids_differ : codes "C40001" ≡ codes "C40002" → ⊥
uids_differ same = let last : ◌≡◌ {A = ℕ} 49 50 = ap (λ bytes. slice_index bytes 5) same in omega arith

base_chosen : IsChosen (live_table linked) (codes "C40001") 23537 base_key base_lines
unfolding days_from_civil day_count days_of_years days_of_months schedule_in
base_chosen = record {
  running = record { uid_is = refl; is_live = refl; runs_then = refl };
  first = λ other others running. elim (one_of (schedule_key other) (schedule_body others) running.is_live) [
    | inl e ↦ absurd (let bad : association_key link_key ≡ schedule_key other = e.0 in cc)
    | inr (inl e) ↦ subst (λ k. IsAtMost schedule_choice_cmp base_key k) (ap schedule_in e.0) (λ greater. cc)
    | inr (inr e) ↦ absurd (uids_differ (sym running.uid_is ∙ sym (ap (λ key. (schedule_in key).uid) e.0)))
  ];
}

next_chosen : IsChosen (live_table linked) (codes "C40002") 23538 next_key next_lines
unfolding days_from_civil day_count days_of_years days_of_months schedule_in
next_chosen = record {
  running = record { uid_is = refl; is_live = refl; runs_then = refl };
  first = λ other others running. elim (one_of (schedule_key other) (schedule_body others) running.is_live) [
    | inl e ↦ absurd (let bad : association_key link_key ≡ schedule_key other = e.0 in cc)
    | inr (inl e) ↦ absurd (uids_differ (ap (λ key. (schedule_in key).uid) e.0 ∙ running.uid_is))
    | inr (inr e) ↦ subst (λ k. IsAtMost schedule_choice_cmp next_key k) (ap schedule_in e.0) (λ greater. cc)
  ];
}

link_chosen : IsChosenAssociation (live_table linked) (group_of link_key) 23537 link_key link
unfolding days_from_civil day_count days_of_years days_of_months association_in
link_chosen = grind (arith, one_of, association_in)

abbrev at_colwell : Event
at_colwell = record { number = 2; place = 2; occasion = arrival; time = 2860 }

abbrev the_line : DockerLine
the_line = line_of_association next_working 80 base_key 23537 base_lines at_colwell (codes "C40002") (codes "4D42")

-- the example line is in the docker, as the line of an association
pub works_on : IsAssociationLine (live_table linked) (codes "COLWELL") 23537 the_line
works_on = record {
  start = 23537;
  key = link_key;
  association = link;
  chosen = link_chosen;
  no_cancellation = λ cancelled. omega arith;
  occasion = next_working;
  category = refl;
  date_indicator = refl;
  base_key = base_key;
  base = base_lines;
  base_runs = record { chosen = base_chosen; no_cancellation = λ cancelled. omega arith };
  event = at_colwell;
  first_there = refl;
  identity = codes "4D42";
  partner = inl (next_key, next_lines, record { chosen = next_chosen; no_cancellation = λ cancelled. omega arith }, refl);
  here = refl;
  today = refl;
  is = refl;
}

text_of_line : line_text the_line ≡ codes "2350  N 4D40 C40001 P   1                C40002  4D42   "
text_of_line = refl
