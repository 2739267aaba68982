-- Worked examples of texts that aren't the text of a state.
use Rattle.cif_laws.proofs.Common.{◌≡◌, ℕ, List, [], ◌∷◌, ◌++◌, take, drop, refl, inl, inr, lit≤, lit<, arith, ap, rules, codes, slice_index}
use Rattle.cif_laws.proofs.Common.{All-from_recursion, tied_itself, Key, schedule_key, ScheduleKey, IsBelow, ledger_item_cmp, Entry, key_cmp, State, IsValid}
use Rattle.cif_laws.proofs.Common.{dks_1, state_text, item_bytes, IsToldState, TellsOp, IsOpByte, IsTag, before_mark, before_item, in_entry, before_tag}
use Rattle.cif_laws.proofs.Common.{before_op, before_line, IsStampHere, IsStateFault, bad_mark, bad_body, too_short, has_tail}
use Rattle.docker_model.specs.state.StateText.{ledger_text}
use Rattle.docker_model.specs.state.StateFault.{bad_order, bad_tag, too_long}
use Rattle.cif_laws.proofs.records.Builders.{f2_basic, f2_origin, f2_terminus}
use Rattle.state_laws.proofs.examples.StateExamples.{f2_item, f2_state, key_of_f2}
use Rattle.cif_laws.proofs.schedules.WorkedSchedule.{f2_is_schedule}
use Rattle.state_laws.proofs.examples.SummaryExamples.{good_item, good_ledger, good_entry, f2_state_valid}
use Rattle.cif_laws.proofs.orders.Orders.{ledger_item_total}

abbrev text : List ℕ
text = state_text dks_1 f2_state

-- a text that ends after three bytes, within the mark, has the fault `too_short`
cut_in_mark : IsStateFault dks_1 1000 (take 3 text) (record { at = 0; cause = too_short })
cut_in_mark =
    inr (inr (inl (record {
      before = before_mark;
      good = tt;
      rest = take 3 text;
      whole = refl;
      ends = lit< tt;
      within = lit≤ tt;
      cause = refl;
      item_at = refl;
    })))

-- a text that is read in the format DKS1 but begins with the mark of the format DKS2 has the fault
-- `bad_mark`
other_mark : IsStateFault dks_1 1000 (codes "DKS2" ++ drop 4 text) (record { at = 0; cause = bad_mark })
other_mark = inl (record {
  before = before_mark;
  good = tt;
  bytes = codes "DKS2";
  rest = drop 4 text;
  whole = refl;
  size = refl;
  below_limit = lit≤ tt;
  bad = (refl, λ same. (let last : ◌≡◌ {A = ℕ} 50 49 = ap (λ bytes. slice_index bytes 3) same in omega arith));
  item_at = refl;
})

told_f2 : IsToldState dks_1 f2_state
told_f2 = search (rules, f2_state_valid, f2_state)

-- a text with an extra byte after the end of the state has the fault `has_tail`
one_byte_more : IsStateFault dks_1 1000 (text ++ 7 ∷ []) (record { at = 309; cause = has_tail })
one_byte_more = inr (inr (inr (record {
  state = f2_state;
  valid = (told_f2, lit< tt, lit< tt);
  next = 7;
  rest = [];
  whole = refl;
  within = lit≤ tt;
  cause = refl;
  end_at = refl;
})))

-- the example text with its ledger item repeated
abbrev twice : List ℕ
twice = ledger_text dks_1 0 2 (f2_item ∷ f2_item ∷ []) ++ drop 31 text

item_twice : IsStateFault dks_1 1000 twice (record { at = 31; cause = bad_order })
item_twice = inl (record {
  before = before_item 0 2 (f2_item ∷ []);
  good = (refl, good_ledger, lit< tt, lit< tt);
  bytes = item_bytes f2_item;
  rest = drop 31 text;
  whole = refl;
  size = refl;
  below_limit = lit≤ tt;
  bad = (
    good_item,
    λ above.
        let below : IsBelow ledger_item_cmp f2_item f2_item = above 0 f2_item (lit< tt) in
        let tied = tied_itself ledger_item_total f2_item in
        cc,
  );
  item_at = refl;
})

-- the example state without its entry
abbrev without_entry : State
without_entry = record { horizon = 0; ledger = f2_item ∷ []; entries = [] }

valid_without : IsValid without_entry
valid_without = search (rules, lit≤, good_ledger, f2_item)

told_without : IsToldState dks_1 without_entry
told_without = record { valid = valid_without; horizon = refl; ops = All-from_recursion (λ (entry : Key × Entry). TellsOp dks_1 entry.1.op) [] tt }

tag_four : IsStateFault dks_1 1000 (take 39 text ++ 4 ∷ drop 40 text) (record { at = 39; cause = bad_tag })
tag_four = inl (record {
  before = in_entry 1 without_entry before_tag;
  good = (told_without, lit< tt, lit< tt, lit< tt, tt);
  bytes = 4 ∷ [];
  rest = drop 40 text;
  whole = refl;
  size = refl;
  below_limit = lit≤ tt;
  bad = (refl, no_tag);
  item_at = refl;
})
  where
    no_tag : ¬ IsTag 4
    no_tag (inl e) = omega arith
    no_tag (inr (inl e)) = omega arith
    no_tag (inr (inr e)) = omega arith

abbrev f2_key : ScheduleKey
f2_key = record { uid = codes "C10001"; runs_from = 23537; indicator = 80 }

stamp_here : IsStampHere without_entry (schedule_key f2_key) (record { file = f2_item.stamp; number = 2 })
stamp_here = ((good_entry.key, All-from_recursion (λ entry. IsBelow key_cmp entry.0 (schedule_key f2_key)) [] tt), good_entry.stamp)

op_two : IsStateFault dks_1 1000 (take 64 text ++ 2 ∷ drop 65 text) (record { at = 39; cause = bad_body })
op_two = inl (record {
  before = in_entry 1 without_entry (before_op (schedule_key f2_key) (record { file = f2_item.stamp; number = 2 }));
  good = (told_without, lit< tt, lit< tt, lit< tt, stamp_here);
  bytes = 2 ∷ [];
  rest = drop 65 text;
  whole = refl;
  size = refl;
  below_limit = lit≤ tt;
  bad = (refl, no_op);
  item_at = refl;
})
  where
    no_op : ¬ IsOpByte dks_1 2
    no_op (inl e) = omega arith
    no_op (inr e) = omega arith

-- the example text has the fault `too_long` if the limit is one byte less than the length of the
-- text
too_long_by_one : IsStateFault dks_1 308 text (record { at = 308; cause = too_long })
too_long_by_one = inr (inl (record {
  before = in_entry 1 without_entry (before_line f2_key (record { file = f2_item.stamp; number = 2 }) 3 (f2_basic ∷ f2_origin ∷ []));
  good = search (rules, told_without, f2_is_schedule, key_of_f2);
  rest = f2_terminus;
  whole = refl;
  reaches = lit≤ tt;
  needs = lit< tt;
  there = lit< tt;
  cause = refl;
  limit_at = refl;
}))
