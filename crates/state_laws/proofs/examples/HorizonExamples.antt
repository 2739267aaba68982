-- Worked examples of horizons, and of the texts of states in the format with a horizon.
use Rattle.cif_laws.proofs.Common.{◌≡◌, ℕ, ◌≤◌, List, [], ◌∷◌, ◌++◌, length, take, drop, refl, inl, inr, lit≤, lit<, arith, ap, rules, codes, slice_index}
use Rattle.cif_laws.proofs.Common.{All-from_recursion, IsDay, Key, schedule_key, ScheduleKey, schedule_body, tiploc_body, IsBelow, key_cmp, body_end, lapsed}
use Rattle.cif_laws.proofs.Common.{put_with, Entry, lapse, IsDayRefused, State, raise_horizon, dks_1, dks_2, state_text, IsToldState, IsOpByte, before_op}
use Rattle.cif_laws.proofs.Common.{before_line, IsStampHere, before_mark, before_horizon, in_entry, IsStateFault, IsStateText, bad_mark, bad_body, too_short}
use Rattle.cif_laws.proofs.Common.{has_tail}
use Rattle.jiff_core.specs.Calendar.{days_from_civil, day_count, days_of_years, days_of_months}
use Rattle.docker_model.specs.state.StateFault.{bad_horizon}
use Rattle.cif_laws.proofs.records.Builders.{f2_basic, f2_schedule}
use Rattle.state_laws.proofs.examples.StateExamples.{f2_item, end_of_f2}
use Rattle.state_laws.proofs.examples.SummaryExamples as plain

-- the schedule in the example file ends on 14 June, day 23541. With the horizon 14 June it is live,
-- and with the horizon 15 June it has lapsed
lives : lapse 23541 (put_with (schedule_body f2_schedule)) ≡ put_with (schedule_body f2_schedule)
unfolding days_from_civil day_count days_of_years days_of_months
lives = refl

lapses : lapse 23542 (put_with (schedule_body f2_schedule)) ≡ lapsed
unfolding days_from_civil day_count days_of_years days_of_months
lapses = refl

-- a TIPLOC never lapses
tiploc_stays : lapse 36524 (put_with (tiploc_body [])) ≡ put_with (tiploc_body [])
tiploc_stays = refl

-- with the horizon 14 June, the program refuses the docker of 16 June and makes the docker of 17
-- June
day_is_refused : IsDayRefused 23541 23543
day_is_refused = (lit< tt, lit< tt)

day_is_printed : ¬ IsDayRefused 23541 23544
day_is_printed told = let before = told.1 in omega arith

-- ---- texts

-- the key of the schedule in the example file
abbrev pub f2_key : ScheduleKey
f2_key = record { uid = codes "C10001"; runs_from = 23537; indicator = 80 }

-- a state that has the ledger of the example file, this horizon and these entries
abbrev pub state_with : ℕ → List (Key × Entry) → State
state_with horizon entries = record { horizon = horizon; ledger = f2_item ∷ []; entries = entries }

-- the state of the example file
abbrev pub f2_state : State
f2_state = state_with 0 ((schedule_key f2_key, record { stamp = record { file = f2_item.stamp; number = 2 }; op = put_with (schedule_body f2_schedule) }) ∷ [])

-- the entry of the example file's state after it has lapsed
abbrev pub lapsed_entry : Key × Entry
lapsed_entry = (schedule_key f2_key, record { stamp = record { file = f2_item.stamp; number = 2 }; op = lapsed })

empty_text : state_text dks_2 (record { horizon = 0; ledger = []; entries = [] })
    ≡ 0x44 ∷ 0x4b ∷ 0x53 ∷ 0x32 ∷ 0 ∷ 0 ∷ 0 ∷ 0 ∷ 0 ∷ 0 ∷ 0 ∷ 0 ∷ 0 ∷ 0 ∷ 0 ∷ 0 ∷ 0 ∷ 0 ∷ 0 ∷ 0 ∷ 0 ∷ 0 ∷ []
empty_text = refl

length_of_first : length (state_text dks_1 f2_state) ≡ 309
length_of_first = refl

length_of_second : length (state_text dks_2 f2_state) ≡ 311
length_of_second = refl

-- with the horizon 15 June the entry has lapsed: its stamp is unchanged, and it has no body
pub raised_state : raise_horizon 23542 f2_state ≡ state_with 23542 (lapsed_entry ∷ [])
unfolding days_from_civil day_count days_of_years days_of_months
raised_state = refl

length_of_lapsed : length (state_text dks_2 (state_with 23542 (lapsed_entry ∷ []))) ≡ 67
length_of_lapsed = refl

start_of_lapsed : take 14 (state_text dks_2 (state_with 23542 (lapsed_entry ∷ []))) ≡ codes "DKS2" ++ 0x5b ∷ 0xf6 ∷ 0 ∷ 0 ∷ 0 ∷ 0 ∷ 0 ∷ 0 ∷ 0 ∷ 1 ∷ []
start_of_lapsed = refl

end_of_lapsed : drop 66 (state_text dks_2 (state_with 23542 (lapsed_entry ∷ []))) ≡ 2 ∷ []
end_of_lapsed = refl

-- ---- faults

abbrev text : List ℕ
text = state_text dks_2 f2_state

-- a text that is read in the format DKS2 but begins with the mark of the format DKS1 has the fault
-- `bad_mark`
other_mark : IsStateFault dks_2 1000 (codes "DKS1" ++ drop 4 text) (record { at = 0; cause = bad_mark })
other_mark = inl (record {
  before = before_mark;
  good = tt;
  bytes = codes "DKS1";
  rest = drop 4 text;
  whole = refl;
  size = refl;
  below_limit = lit≤ tt;
  bad = (refl, λ same. (let last : ◌≡◌ {A = ℕ} 49 50 = ap (λ bytes. slice_index bytes 3) same in omega arith));
  item_at = refl;
})

-- a text whose horizon is after 31 December 2059, the last day with a day number (36524), has the
-- fault `bad_horizon`
high_horizon : IsStateFault dks_2 1000 (codes "DKS2" ++ 0x8e ∷ 0xad ∷ drop 6 text) (record { at = 4; cause = bad_horizon })
high_horizon = inl (record {
  before = before_horizon;
  good = tt;
  bytes = 0x8e ∷ 0xad ∷ [];
  rest = drop 6 text;
  whole = refl;
  size = refl;
  below_limit = lit≤ tt;
  bad = (refl, λ low. omega arith);
  item_at = refl;
})

-- a text that ends after five bytes, within the horizon, has the fault `too_short`
cut_in_horizon : IsStateFault dks_2 1000 (take 5 text) (record { at = 4; cause = too_short })
cut_in_horizon =
    inr (inr (inl (record { before = before_horizon; good = tt; rest = 0 ∷ []; whole = refl; ends = lit< tt; within = lit≤ tt; cause = refl; item_at = refl })))

-- the example state without its entry can be written in the format DKS2, whichever day is the
-- horizon
told_without : (horizon : ℕ) → IsDay horizon → IsToldState dks_2 (state_with horizon [])
told_without horizon day = search (rules, plain.good_ledger)

stamp_here : (horizon : ℕ) → IsStampHere (state_with horizon []) (schedule_key f2_key) (record { file = f2_item.stamp; number = 2 })
stamp_here horizon = ((plain.good_entry.key, All-from_recursion (λ entry. IsBelow key_cmp entry.0 (schedule_key f2_key)) [] tt), plain.good_entry.stamp)

op_three : IsStateFault dks_2 1000 (take 66 text ++ 3 ∷ drop 67 text) (record { at = 41; cause = bad_body })
op_three = inl (record {
  before = in_entry 1 (state_with 0 []) (before_op (schedule_key f2_key) (record { file = f2_item.stamp; number = 2 }));
  good = (told_without 0 (lit≤ tt), lit< tt, lit< tt, lit< tt, stamp_here 0);
  bytes = 3 ∷ [];
  rest = drop 67 text;
  whole = refl;
  size = refl;
  below_limit = lit≤ tt;
  bad = (refl, no_op);
  item_at = refl;
})
  where
    no_op : ¬ IsOpByte dks_2 3
    no_op (inl e) = omega arith
    no_op (inr (inl e)) = omega arith
    no_op (inr (inr e)) = omega arith

-- a lapsed op is good even if the horizon of the text is 0. If the put of the example text is
-- changed to a lapsed op, the entry ends after the op. The fault is `has_tail` at the first byte of
-- the old body
op_two : IsStateFault dks_2 1000 (take 66 text ++ 2 ∷ drop 67 text) (record { at = 67; cause = has_tail })
op_two = inr (inr (inr (record {
  state = state_with 0 (lapsed_entry ∷ []);
  valid = (told, lit< tt, lit< tt);
  next = 0;
  rest = drop 68 text;
  whole = refl;
  within = lit≤ tt;
  cause = refl;
  end_at = refl;
})))
  where
    told : IsToldState dks_2 (state_with 0 (lapsed_entry ∷ []))
    told = search (rules, plain.good_ledger)

-- the end of a schedule's body depends only on the schedule's first record
end_of_line : body_end (schedule_body (f2_basic ∷ [])) ≡ 23541
unfolding days_from_civil day_count days_of_years days_of_months
end_of_line = refl

ends_before : IsStateFault dks_2 1000 (take 4 text ++ 0x5b ∷ 0xf6 ∷ drop 6 text) (record { at = 41; cause = bad_body })
ends_before = inl (record {
  before = in_entry 1 (state_with 23542 []) (before_line f2_key (record { file = f2_item.stamp; number = 2 }) 3 []);
  good = (told_without 23542 (lit≤ tt), lit< tt, lit< tt, lit< tt, (stamp_here 23542, (lit< tt, lit< tt), lit< tt, inl refl));
  bytes = f2_basic;
  rest = drop 151 text;
  whole = refl;
  size = refl;
  below_limit = lit≤ tt;
  bad = (refl, λ are. (let stays = are.1 in let end = end_of_line in omega arith));
  item_at = refl;
})

-- the example state with the last day of its schedule as the horizon: the schedule hasn't lapsed
abbrev last_day_state : State
last_day_state = record { horizon = 23541; ledger = f2_state.ledger; entries = f2_state.entries }

lives_on_last_day : 23541 ≤ body_end (schedule_body f2_schedule)
lives_on_last_day = let end = end_of_f2 in omega arith

last_day_is_read : IsStateText dks_2 311 (take 4 text ++ 0x5b ∷ 0xf5 ∷ drop 6 text) last_day_state
last_day_is_read = record { valid = (told, lit< tt, lit< tt); is = refl; within = lit≤ tt }
  where
    told : IsToldState dks_2 last_day_state
    told = search (rules, lives_on_last_day, plain.good_ledger, plain.good_entry.op)
