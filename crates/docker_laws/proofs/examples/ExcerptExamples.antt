-- Examples of excerpts for COLWELL: the entries that the docker of COLWELL needs, and the excerpt
-- that the walk computes. Without the needed entries the docker would be wrong.
use Rattle.cif_laws.proofs.Common.{◌≡◌, ℕ, List, [], ◌∷◌, refl, inl, inr, Some, None, arith, ap, ◌∙◌, subst, rules, codes, slice_index, spaces, Key, tiploc_key}
use Rattle.cif_laws.proofs.Common.{schedule_key, association_key, ScheduleKey, AssociationKey, Body, tiploc_body, schedule_body, association_body, Entry, Op}
use Rattle.cif_laws.proofs.Common.{deleted, lapsed, put_with, State, AreAscending, live_table, TrainRuns, schedule_choice_cmp, IsPartnerIdentity, IsAtMost}
use Rattle.jiff_core.specs.Calendar.{days_from_civil, day_count, days_of_years, days_of_months}
use Rattle.docker_laws.specs.Excerpt.{IsNeeded, IsExcerpt, IsExcerptState}
use Rattle.docker_laws.specs.ExcerptWalk.{excerpt_for}
use Rattle.cif_laws.proofs.records.Builders.{no_text, bs, lo, lt, aa}
use Rattle.state_laws.proofs.states.PlainTable.{Keyed}
use Rattle.docker_laws.proofs.examples.ChoiceExamples.{in_state, some_stamp}
use Rattle.state_laws.proofs.indexes.CallsTest.{calls_test}
use Rattle.docker_laws.proofs.dockers.ExcerptWalk.{walk_is_excerpt}

-- the place of the examples
abbrev pub place : List ℕ
place = codes "COLWELL"

abbrev with_op : Key → Op → Keyed
with_op key op = (key, record { stamp = some_stamp; op = op })

abbrev put_in : Key → Body → Keyed
put_in key body = with_op key (put_with body)

abbrev state_of : List Keyed → State
state_of entries = record { horizon = 0; ledger = []; entries = entries }

-- a schedule that runs for a week, between two TIPLOCs
abbrev week : List ℕ → List ℕ → List ℕ → List ℕ → List (List ℕ)
week uid identity origin terminus =
    bs (codes "N") uid (codes "240610") (codes "240616") (codes "1111111") identity (codes "P")
    ∷ lo origin no_text (codes "2300") no_text (codes "1") no_text
    ∷ lt terminus no_text (codes "2350") no_text (codes "1") no_text ∷ []

-- an overlay that runs on one day
abbrev one_day : List ℕ → List ℕ → List ℕ → List ℕ → List (List ℕ)
one_day uid identity origin terminus =
    bs (codes "N") uid (codes "240611") (codes "240611") (codes "0100000") identity (codes "O")
    ∷ lo origin no_text (codes "2300") no_text (codes "1") no_text
    ∷ lt terminus no_text (codes "2350") no_text (codes "1") no_text ∷ []

-- the key of a schedule with this UID, this first day and this STP indicator
abbrev pub key_of : List ℕ → ℕ → ℕ → ScheduleKey
key_of uid day letter = record { uid = uid; runs_from = day; indicator = letter }

-- ---- a train that calls at COLWELL, except on the day of an overlay

-- the schedule of a train that ends at COLWELL
abbrev pub stops : List (List ℕ)
stops = week (codes "C40001") (codes "4D40") (codes "ASHFELD") (codes "COLWELL")

-- an overlay of the train C40001. On 11 June this train ends at BRAYTON and not at COLWELL
abbrev pub short : List (List ℕ)
short = one_day (codes "C40001") (codes "4D40") (codes "ASHFELD") (codes "BRAYTON")

-- the key of the train's permanent schedule
abbrev pub stops_key : ScheduleKey
stops_key = key_of (codes "C40001") 23537 80

-- the key of the overlay
abbrev pub short_key : ScheduleKey
short_key = key_of (codes "C40001") 23538 79

abbrev overlaid : State
overlaid = state_of (put_in (schedule_key stops_key) (schedule_body stops) ∷ put_in (schedule_key short_key) (schedule_body short) ∷ [])

-- the state without the overlay
abbrev pub alone : State
alone = state_of (put_in (schedule_key stops_key) (schedule_body stops) ∷ [])

abbrev schedule_in : Key → ScheduleKey
schedule_in (schedule_key key) = key
schedule_in _ = stops_key

only_stops : (other : ScheduleKey) (others : List (List ℕ)) → live_table alone (schedule_key other) ≡ Some (schedule_body others) → stops_key ≡ other
only_stops = grind (arith, in_state, schedule_in)

-- on the day of the overlay the train doesn't run according to the permanent schedule
runs_by_overlay : ¬ TrainRuns (live_table overlaid) (codes "C40001") 23538 stops_key stops
unfolding days_from_civil day_count days_of_years days_of_months
runs_by_overlay runs = runs.chosen.first short_key short (record { uid_is = refl; is_live = refl; runs_then = refl }) refl

-- if there were no overlay, the train would run according to the permanent schedule on the day of
-- the overlay
would_stop : TrainRuns (live_table alone) (codes "C40001") 23538 stops_key stops
unfolding days_from_civil day_count days_of_years days_of_months
would_stop = record {
  chosen = record {
    running = record { uid_is = refl; is_live = refl; runs_then = refl };
    first = λ other others running.
        subst (λ (k : ScheduleKey). IsAtMost schedule_choice_cmp stops_key k) (only_stops other others running.is_live) (λ greater. cc);
  };
  no_cancellation = λ cancelled. omega arith;
}

-- the docker of COLWELL needs the overlay
overlay_is_needed : IsNeeded (live_table overlaid) place (schedule_key short_key)
overlay_is_needed = inl (record {
  key = stops_key;
  lines = stops;
  uid_is = refl;
  calling = record { is_live = refl; calls = (calls_test place stops).0 refl };
})

alone_is_no_excerpt : ¬ IsExcerpt place (live_table overlaid) (live_table alone)
alone_is_no_excerpt is = elim (is (schedule_key short_key)) [
  | inl same ↦ let bad : None ≡ Some (schedule_body short) = same in cc
  | inr none ↦ none.1 overlay_is_needed
]

overlay_is_kept : (excerpt_for place overlaid).entries ≡ overlaid.entries
overlay_is_kept = refl

-- ---- an associated train that doesn't call at COLWELL

abbrev partner : List (List ℕ)
partner = week (codes "C40002") (codes "4D42") (codes "BRAYTON") (codes "ASHFELD")

abbrev partner_key : ScheduleKey
partner_key = key_of (codes "C40002") 23537 80

-- the record of an association at COLWELL
abbrev pub link : List ℕ
link =
    aa (codes "N") (codes "C40001") (codes "C40002") (codes "240610") (codes "240616") (codes "1111111") (codes "NP") (codes "S")
    (codes "COLWELL") no_text no_text (codes "P")

-- the key of the association at COLWELL
abbrev pub link_key : AssociationKey
link_key = record { base = codes "C40001"; associated = codes "C40002"; start = 23537; location = codes "COLWELL"; suffix = 32; indicator = 80 }

abbrev joined : State
joined = state_of (
    put_in (association_key link_key) (association_body link) ∷ put_in (schedule_key stops_key) (schedule_body stops)
    ∷ put_in (schedule_key partner_key) (schedule_body partner) ∷ []
    )

-- the state without the schedule of the associated train
abbrev parted : State
parted = state_of (put_in (association_key link_key) (association_body link) ∷ put_in (schedule_key stops_key) (schedule_body stops) ∷ [])

-- the UIDs of the two trains differ in their last digit
uids_differ : codes "C40001" ≡ codes "C40002" → ⊥
uids_differ same = let last : ◌≡◌ {A = ℕ} 49 50 = ap (λ bytes. slice_index bytes 5) same in omega arith

not_first : (other : ScheduleKey) (entry : Entry) → other.uid ≡ codes "C40002"
    → ¬ (put_in (association_key link_key) (association_body link) ≡ (schedule_key other, entry))
not_first other entry uid same = let bad : association_key link_key ≡ schedule_key other = ap (λ (pair : Keyed). pair.0) same in cc

not_second : (other : ScheduleKey) (entry : Entry) → other.uid ≡ codes "C40002"
    → ¬ (put_in (schedule_key stops_key) (schedule_body stops) ≡ (schedule_key other, entry))
not_second other entry uid same = uids_differ (ap (λ (pair : Keyed). (schedule_in pair.0).uid) same ∙ uid)

-- the associated train has only one schedule
only_partner : (other : ScheduleKey) (others : List (List ℕ)) → other.uid ≡ codes "C40002"
    → live_table joined (schedule_key other) ≡ Some (schedule_body others) → partner_key ≡ other
only_partner = search (rules, in_state, not_second, schedule_in, not_first)

no_partner : (other : ScheduleKey) (others : List (List ℕ)) → other.uid ≡ codes "C40002"
    → ¬ (live_table parted (schedule_key other) ≡ Some (schedule_body others))
no_partner = search (rules, in_state, not_first, not_second)

-- the docker shows the identity of the associated train
identity_there : IsPartnerIdentity (live_table joined) (codes "C40002") (Some 23537) (codes "4D42")
unfolding days_from_civil day_count days_of_years days_of_months
identity_there = inl (
  partner_key,
  partner,
  record {
    chosen = record {
      running = record { uid_is = refl; is_live = refl; runs_then = refl };
      first = λ other others running. subst (λ (k : ScheduleKey). IsAtMost schedule_choice_cmp partner_key k)
          (only_partner other _ running.uid_is running.is_live) (λ greater. cc);
    };
    no_cancellation = λ cancelled. omega arith;
  },
  refl,
)

-- if the state doesn't have the associated train, the docker can't show its identity
identity_lost : ¬ IsPartnerIdentity (live_table parted) (codes "C40002") (Some 23537) (codes "4D42")
identity_lost = search (rules, no_partner)

-- the docker of COLWELL needs the associated train
partner_is_needed : IsNeeded (live_table joined) place (schedule_key partner_key)
partner_is_needed = inr (record { key = link_key; line = link; associated_is = refl; linked = record { is_live = refl; here = refl } })

parted_is_no_excerpt : ¬ IsExcerpt place (live_table joined) (live_table parted)
parted_is_no_excerpt is = elim (is (schedule_key partner_key)) [
  | inl same ↦ let bad : None ≡ Some (schedule_body partner) = same in cc
  | inr none ↦ none.1 partner_is_needed
]

partner_is_kept : (excerpt_for place joined).entries ≡ joined.entries
partner_is_kept = refl

-- the excerpt of a state with only the associated train is empty. If a state with the association
-- were joined to this excerpt later, the associated train would be missing. So an excerpt must be
-- computed from a whole state
partner_alone_is_dropped : (excerpt_for place (state_of (put_in (schedule_key partner_key) (schedule_body partner) ∷ []))).entries ≡ []
partner_alone_is_dropped = refl

-- ---- an example of a walk

abbrev other : List (List ℕ)
other = week (codes "C40003") (codes "4D43") (codes "ASHFELD") (codes "BRAYTON")

abbrev far : List (List ℕ)
far = week (codes "C40004") (codes "4D44") (codes "BRAYTON") (codes "ASHFELD")

abbrev late : List (List ℕ)
late = week (codes "C40005") (codes "4D45") (codes "COLWELL") (codes "ASHFELD")

-- the key of a deleted association at COLWELL
abbrev gone_key : AssociationKey
gone_key = record { base = codes "C40001"; associated = codes "C40003"; start = 23537; location = codes "COLWELL"; suffix = 32; indicator = 80 }

-- the key of an association at ASHFELD
abbrev pub far_link_key : AssociationKey
far_link_key = record { base = codes "C40003"; associated = codes "C40004"; start = 23537; location = codes "ASHFELD"; suffix = 32; indicator = 80 }

-- the record of the association at ASHFELD
abbrev pub far_link : List ℕ
far_link =
    aa (codes "N") (codes "C40003") (codes "C40004") (codes "240610") (codes "240616") (codes "1111111") (codes "NP") (codes "S")
    (codes "ASHFELD") no_text no_text (codes "P")

-- a state with two TIPLOCs, three associations and schedules of five UIDs
abbrev whole : State
whole = state_of (
    put_in (tiploc_key (codes "ASHFELD")) (tiploc_body (spaces 63)) ∷ put_in (tiploc_key (codes "COLWELL")) (tiploc_body (spaces 63))
    ∷ put_in (association_key link_key) (association_body link) ∷ with_op (association_key gone_key) deleted
    ∷ put_in (association_key far_link_key) (association_body far_link) ∷ put_in (schedule_key stops_key) (schedule_body stops)
    ∷ put_in (schedule_key short_key) (schedule_body short) ∷ put_in (schedule_key partner_key) (schedule_body partner)
    ∷ put_in (schedule_key (key_of (codes "C40003") 23537 80)) (schedule_body other)
    ∷ put_in (schedule_key (key_of (codes "C40004") 23537 80)) (schedule_body far)
    ∷ with_op (schedule_key (key_of (codes "C40005") 23500 80)) lapsed
    ∷ put_in (schedule_key (key_of (codes "C40005") 23537 80)) (schedule_body late) ∷ []
    )

-- the excerpt has the TIPLOC of COLWELL, both associations at COLWELL, the base train with its
-- overlay, the associated train, and the lapsed schedule and the live schedule of C40005. The live
-- schedule of C40005 calls at COLWELL
walk_leaves : (excerpt_for place whole).entries
    ≡ put_in (tiploc_key (codes "COLWELL")) (tiploc_body (spaces 63)) ∷ put_in (association_key link_key) (association_body link)
    ∷ with_op (association_key gone_key) deleted ∷ put_in (schedule_key stops_key) (schedule_body stops)
    ∷ put_in (schedule_key short_key) (schedule_body short) ∷ put_in (schedule_key partner_key) (schedule_body partner)
    ∷ with_op (schedule_key (key_of (codes "C40005") 23500 80)) lapsed
    ∷ put_in (schedule_key (key_of (codes "C40005") 23537 80)) (schedule_body late) ∷ []
walk_leaves = refl

whole_ascends : AreAscending whole.entries
whole_ascends = search rules

-- the result of the walk is an excerpt
walk_leaves_excerpt : IsExcerptState place whole (excerpt_for place whole)
walk_leaves_excerpt = walk_is_excerpt place whole whole_ascends
