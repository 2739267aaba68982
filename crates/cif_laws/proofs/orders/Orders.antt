-- All orders that `docker_model` defines are total. Each distinguishes different values, with three
-- exceptions. The orders of bodies, ops and entries do so only if all lines in the bodies are
-- records.
use Rattle.cif_laws.proofs.Common.{◌≡◌, subst, sym, ℕ, List, ap, true, false, rules, [], Ordering, Equal, ordering_then, nat_cmp, on, is_eq, IsTotalOrder}
use Rattle.cif_laws.proofs.Common.{then_total, on_total, nat_cmp_total, tied_itself, nat_list_cmp_total, exact_unsigned, exact_bytes, Key, tiploc_key}
use Rattle.cif_laws.proofs.Common.{association_key, AssociationKey, schedule_key, ScheduleKey, Body, bytes_cmp, moment_cmp, file_stamp_cmp, stamp_cmp}
use Rattle.cif_laws.proofs.Common.{ledger_item_cmp, association_key_cmp, schedule_key_cmp, key_tag, key_cmp, body_end, Op, deleted, lapsed, put_with, op_cmp}
use Rattle.cif_laws.proofs.Common.{entry_cmp, docker_line_cmp}
use mathlib.Core.Path.{fun_ext}
use Rattle.std.specs.Ordering.{then_cmp}
use Rattle.std.proofs.lemmas.Map.Lookups.{CmpEqualImpliesEq}
use Rattle.docker_model.specs.state.Op.{body_cmp}
use Rattle.docker_model.specs.state.Op.{body_bytes, body_tag}
use Rattle.docker_model.specs.docker.DockerLine.{occasion_rank, associated_uid}
use Rattle.cif_laws.proofs.orders.AtMost.{eq_is}

-- an order that agrees with a total order is total
pub total_along : {K : Type 0} {R S : K → K → Ordering} → ((a b : K) → R a b ≡ S a b) → IsTotalOrder S → IsTotalOrder R
total_along same total = subst IsTotalOrder (sym (fun_ext (λ a. fun_ext (λ b. same a b)))) total

-- the order of moments is total
pub moment_total : IsTotalOrder moment_cmp
moment_total = then_total (on_total (λ m. m.day) nat_cmp_total) (on_total (λ m. m.minute) nat_cmp_total)

-- the order of file stamps is total
pub file_stamp_total : IsTotalOrder file_stamp_cmp
file_stamp_total = then_total (on_total (λ s. s.moment) moment_total) (on_total (λ s. s.reference) nat_list_cmp_total)

-- the order of stamps is total
pub stamp_total : IsTotalOrder stamp_cmp
stamp_total = then_total (on_total (λ s. s.file) file_stamp_total) (on_total (λ s. s.number) nat_cmp_total)

-- the order of ledger items is total
pub ledger_item_total : IsTotalOrder ledger_item_cmp
ledger_item_total =
    then_total (on_total (λ i. i.stamp) file_stamp_total)
    (then_total (on_total (λ i. i.indicator) nat_cmp_total) (on_total (λ i. i.last_reference) nat_list_cmp_total))

-- if `ordering_then a b` is `Equal`, then both `a` and `b` are `Equal`
pub then_equal : (a b : Ordering) → ordering_then a b ≡ Equal → (a ≡ Equal) × (b ≡ Equal)
then_equal = search rules

-- different moments don't compare as equal
pub exact_moment : CmpEqualImpliesEq moment_cmp
exact_moment = search (rules, then_equal, exact_unsigned)

-- different file stamps don't compare as equal
pub exact_file_stamp : CmpEqualImpliesEq file_stamp_cmp
exact_file_stamp a b e =
    let parts = then_equal (moment_cmp a.moment b.moment) (bytes_cmp a.reference b.reference) e in
    λ i. record { moment = exact_moment a.moment b.moment parts.0 i; reference = exact_bytes a.reference b.reference parts.1 i }

-- different stamps don't compare as equal
pub exact_stamp : CmpEqualImpliesEq stamp_cmp
exact_stamp a b e =
    let parts = then_equal (file_stamp_cmp a.file b.file) (nat_cmp a.number b.number) e in
    λ i. record { file = exact_file_stamp a.file b.file parts.0 i; number = exact_unsigned a.number b.number parts.1 i }

-- different ledger items don't compare as equal
pub exact_ledger_item : CmpEqualImpliesEq ledger_item_cmp
exact_ledger_item a b e =
    let parts = then_equal (file_stamp_cmp a.stamp b.stamp) _ e in
    let others = then_equal (nat_cmp a.indicator b.indicator) (bytes_cmp a.last_reference b.last_reference) parts.1 in
    λ i. record {
      stamp = exact_file_stamp a.stamp b.stamp parts.0 i;
      indicator = exact_unsigned a.indicator b.indicator others.0 i;
      last_reference = exact_bytes a.last_reference b.last_reference others.1 i;
    }

-- the order of association keys is total
pub association_key_total : IsTotalOrder association_key_cmp
association_key_total =
    then_total (on_total (λ k. k.base) nat_list_cmp_total) (then_total (on_total (λ k. k.associated) nat_list_cmp_total)
    (then_total (on_total (λ k. k.start) nat_cmp_total) (then_total (on_total (λ k. k.location) nat_list_cmp_total)
    (then_total (on_total (λ k. k.suffix) nat_cmp_total) (on_total (λ k. k.indicator) nat_cmp_total)))))

-- the order of schedule keys is total
pub schedule_key_total : IsTotalOrder schedule_key_cmp
schedule_key_total =
    then_total (on_total (λ k. k.uid) nat_list_cmp_total)
    (then_total (on_total (λ k. k.runs_from) nat_cmp_total) (on_total (λ k. k.indicator) nat_cmp_total))

-- different association keys don't compare as equal
pub exact_association_key : CmpEqualImpliesEq association_key_cmp
exact_association_key a b e =
    let p = then_equal (bytes_cmp a.base b.base) _ e in
    let q = then_equal (bytes_cmp a.associated b.associated) _ p.1 in
    let r = then_equal (nat_cmp a.start b.start) _ q.1 in
    let s = then_equal (bytes_cmp a.location b.location) _ r.1 in
    let t = then_equal (nat_cmp a.suffix b.suffix) (nat_cmp a.indicator b.indicator) s.1 in
    λ i. record {
      base = exact_bytes a.base b.base p.0 i;
      associated = exact_bytes a.associated b.associated q.0 i;
      start = exact_unsigned a.start b.start r.0 i;
      location = exact_bytes a.location b.location s.0 i;
      suffix = exact_unsigned a.suffix b.suffix t.0 i;
      indicator = exact_unsigned a.indicator b.indicator t.1 i;
    }

-- different schedule keys don't compare as equal
pub exact_schedule_key : CmpEqualImpliesEq schedule_key_cmp
exact_schedule_key a b e =
    let p = then_equal (bytes_cmp a.uid b.uid) _ e in
    let q = then_equal (nat_cmp a.runs_from b.runs_from) (nat_cmp a.indicator b.indicator) p.1 in
    λ i. record {
      uid = exact_bytes a.uid b.uid p.0 i;
      runs_from = exact_unsigned a.runs_from b.runs_from q.0 i;
      indicator = exact_unsigned a.indicator b.indicator q.1 i;
    }

-- the code in a TIPLOC key, or the empty list for a key of another kind. In the same way, the
-- functions below return the fields of the other kinds of key
abbrev code_in : Key → List ℕ
code_in (tiploc_key code) = code
code_in _ = []

abbrev association_in : Key → AssociationKey
association_in (association_key key) = key
association_in _ = record { base = []; associated = []; start = 0; location = []; suffix = 0; indicator = 0 }

abbrev schedule_in : Key → ScheduleKey
schedule_in (schedule_key key) = key
schedule_in _ = record { uid = []; runs_from = 0; indicator = 0 }

abbrev by_parts : Key → Key → Ordering
by_parts = then_cmp (on key_tag nat_cmp) (then_cmp (on code_in bytes_cmp) (then_cmp (on association_in association_key_cmp) (on schedule_in schedule_key_cmp)))

-- `ordering_then a Equal` is `a`
pub then_equal_right : (a : Ordering) → ordering_then a Equal ≡ a
then_equal_right = search rules

key_by_parts : (a b : Key) → key_cmp a b ≡ by_parts a b
key_by_parts = search (rules, then_equal_right)

-- the order of keys is total
pub key_total : IsTotalOrder key_cmp
key_total =
    total_along key_by_parts
    (then_total (on_total key_tag nat_cmp_total) (then_total (on_total code_in nat_list_cmp_total)
    (then_total (on_total association_in association_key_total) (on_total schedule_in schedule_key_total))))

-- different keys don't compare as equal
pub exact_key : CmpEqualImpliesEq key_cmp
exact_key (tiploc_key a) (tiploc_key b) e = ap tiploc_key (exact_bytes a b e)
exact_key (association_key a) (association_key b) e = ap association_key (exact_association_key a b e)
exact_key (schedule_key a) (schedule_key b) e = ap schedule_key (exact_schedule_key a b e)
exact_key a b e = cc

-- the order of bodies is total. Two schedules with different lines may compare as equal if the
-- concatenations of their lines are equal
pub body_total : IsTotalOrder body_cmp
body_total = then_total (on_total body_end nat_cmp_total) (then_total (on_total body_bytes nat_list_cmp_total) (on_total body_tag nat_cmp_total))

abbrev op_rank : Op → ℕ
op_rank deleted = 0
op_rank lapsed = 1
op_rank (put_with body) = 2

abbrev body_or : {A : Type 0} → (Body → A) → A → Op → A
body_or f none (put_with body) = f body
body_or f none _ = none

abbrev op_by_parts : Op → Op → Ordering
op_by_parts =
    then_cmp (on op_rank nat_cmp) (then_cmp (on (body_or body_end 0) nat_cmp) (then_cmp (on (body_or body_bytes []) bytes_cmp)
    (on (body_or body_tag 0) nat_cmp)))

op_is_by_parts : (a b : Op) → op_cmp a b ≡ op_by_parts a b
op_is_by_parts = search rules

-- the order of ops is total
pub op_total : IsTotalOrder op_cmp
op_total =
    total_along op_is_by_parts
    (then_total (on_total op_rank nat_cmp_total) (then_total (on_total (body_or body_end 0) nat_cmp_total)
    (then_total (on_total (body_or body_bytes []) nat_list_cmp_total) (on_total (body_or body_tag 0) nat_cmp_total))))

-- the order of entries is total
pub entry_total : IsTotalOrder entry_cmp
entry_total = then_total (on_total (λ e. e.stamp) stamp_total) (on_total (λ e. e.op) op_total)

key_tied : (key : Key) → is_eq (key_cmp key key) ≡ true
key_tied key = ap is_eq (tied_itself key_total key)

-- keys that compare as equal are equal
pub same_key : (a b : Key) → is_eq (key_cmp a b) ≡ true → a ≡ b
same_key a b h = exact_key a b (eq_is (key_cmp a b) h)

-- keys that don't compare as equal are different
pub other_key : (a b : Key) → is_eq (key_cmp a b) ≡ false → ¬ (a ≡ b)
other_key a b h same = let tied : is_eq (key_cmp a b) ≡ true = subst (λ k. is_eq (key_cmp a k) ≡ true) same (key_tied a) in cc

-- the order of docker lines is total
pub docker_line_total : IsTotalOrder docker_line_cmp
docker_line_total =
    then_total (on_total (λ l. l.time) nat_cmp_total) (then_total (on_total (λ l. occasion_rank l.occasion) nat_cmp_total)
    (then_total (on_total (λ l. l.uid) nat_list_cmp_total) (then_total (on_total (λ l. l.start) nat_cmp_total)
    (then_total (on_total (λ l. l.number) nat_cmp_total) (on_total (λ l. associated_uid l.detail) nat_list_cmp_total)))))
