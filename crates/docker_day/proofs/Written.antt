-- Writing a text part by part: which bytes the sink has gained, and how often the sink has failed.
use Rattle.cif_laws.proofs.Common.{◌≡◌, ℕ, ◌+◌, ◌<◌, ◌≤◌, List, ◌∷◌, ◌++◌, length, drop, get_or, ap, rules, sym, subst, Ok, arith, append_assoc, append-nil}
use Rattle.cif_laws.proofs.Common.{length-append, ◌≢◌, true, false, Option, Result, IsErr, IsErrAnd, OnOk, OnErr, ⊤, flat_map, drop_of_length-le}
use Rattle.cif_laws.proofs.Common.{take-append-le, take-append-add, on_ok_weaker, on_err_weaker}
use Rattle.std.proofs.Math.Seq.{drop-cons}
use Rattle.cif_device.proofs.DeviceLemmas.{counts_error}
use Rattle.cif_device.specs.Device.{CountsFailure, Takes, TakesPart}

-- if a sink gains two parts, one after the other, it gains their concatenation
pub both_taken : (first second third : Option (List ℕ)) (front back : List ℕ) → Takes first front second → Takes second back third
    → Takes first (front ++ back) third
both_taken = search (rules, append_assoc)

-- a proper prefix of `front` is a proper prefix of `front ++ back`
pub part_of_front : (first second : Option (List ℕ)) (front back : List ℕ) → TakesPart first front second → TakesPart first (front ++ back) second
part_of_front = search (rules, length-append, take-append-le)

-- `front`, followed by a proper prefix of `back`, is a proper prefix of `front ++ back`
pub part_of_back : (first second third : Option (List ℕ)) (front back : List ℕ) → Takes first front second → TakesPart second back third
    → TakesPart first (front ++ back) third
part_of_back first second third front back one (n, short, taken) =
    let long = length-append front back in (
      length front + n,
      omega arith,
      subst (λ bytes. Takes first bytes third) (sym (take-append-add front back n)) (both_taken _ _ _ _ _ one taken),
    )

-- if a proposition is true, it is also true on condition that the result is an error
pub on_any_err : {A E : Type 0} (result : Result A E) {P : Type 0} → P → OnErr result P
on_any_err = search rules

-- ---- how often a write to the sink has failed

no_error : false ≢ true
no_error is = cc

-- if no write has failed, the number of failures is unchanged
pub as_often : (before after : ℕ) → CountsFailure (false ≡ true) before after → after ≡ before
as_often before after counted = counted.1 no_error

-- if the number of failures is unchanged, no write has failed
pub none_failed : (before after : ℕ) → after ≡ before → CountsFailure (false ≡ true) before after
none_failed before after same = counts_error {A = ⊤} {E = ⊤} (Ok tt) before after same tt

-- if one write has failed, the number of failures has grown by one
pub one_failed : {A E : Type 0} (Q : E → Type 0) (result : Result A E) (before after : ℕ) → IsErrAnd result Q → after ≡ before + 1
    → CountsFailure (IsErr result) before after
one_failed = search (rules, counts_error)

-- if only the last write may have failed, the number of failures has grown by one if the last write
-- has failed, and is unchanged otherwise
pub last_failed : {A E : Type 0} (result : Result A E) (before between after : ℕ) → between ≡ before → OnOk result (after ≡ between)
    → OnErr result (after ≡ between + 1) → CountsFailure (IsErr result) before after
last_failed = search (rules, counts_error, on_ok_weaker, on_err_weaker)

-- the lemmas for a text that consists of three parts: `front`, `middle` and `back`. The written
-- bytes `a`, `b` and `c` equal these three parts
module _ (first second third last : Option (List ℕ)) (a b c front middle back : List ℕ) (a_is : a ≡ front) (b_is : b ≡ middle) (c_is : c ≡ back) where
  -- if the sink gains each of the three parts, it gains the whole text
  pub all_taken : Takes first a second → Takes second b third → Takes third c last → Takes first (front ++ middle ++ back) last
  all_taken = search (rules, both_taken)

  -- if the first write fails, the sink has gained a proper prefix of the text
  pub part_of_first : TakesPart first a second → TakesPart first (front ++ middle ++ back) second
  part_of_first = search (rules, part_of_front)

  -- if the second write fails, the sink has gained a proper prefix of the text
  pub part_of_second : Takes first a second → TakesPart second b third → TakesPart first (front ++ middle ++ back) third
  part_of_second one two = part_of_front _ _ _ _ (part_of_back _ _ _ _ _ (subst (λ bytes. Takes first bytes second) a_is one)
      (subst (λ bytes. TakesPart second bytes third) b_is two))

  -- if the third write fails, the sink has gained a proper prefix of the text
  pub part_of_third : Takes first a second → Takes second b third → TakesPart third c last → TakesPart first (front ++ middle ++ back) last
  part_of_third one two three = part_of_back _ _ _ _ _
      (both_taken _ _ _ _ _ (subst (λ bytes. Takes first bytes second) a_is one) (subst (λ bytes. Takes second bytes third) b_is two))
      (subst (λ bytes. TakesPart third bytes last) c_is three)

-- ---- line by line

-- says that writing the remaining lines completes the text. If the sink gains all remaining lines,
-- it has gained all lines since the start. If the sink gains a proper prefix of the remaining
-- lines, it has gained a proper prefix of all lines
pub record Leads {A : Type 0} (bytes : A → List ℕ) (lines rest : List A) (first now : Option (List ℕ)) : Type 0 where
  pub whole : (last : Option (List ℕ)) → Takes now (flat_map bytes rest) last → Takes first (flat_map bytes lines) last
  pub part : (last : Option (List ℕ)) → TakesPart now (flat_map bytes rest) last → TakesPart first (flat_map bytes lines) last

drop_next : {A : Type 0} (i : ℕ) (xs : List A) (x : A) → i < length xs → x ≡ get_or xs i x → drop i xs ≡ x ∷ drop (i + 1) xs
drop_next = search (rules, drop-cons)

-- before the first line is written, writing all lines completes the text
pub leads_first : {A : Type 0} (bytes : A → List ℕ) (lines : List A) (first : Option (List ℕ)) → Leads bytes lines (drop 0 lines) first first
leads_first bytes lines first = record { whole = λ last taken. taken; part = λ last taken. taken }

-- after a line is written, writing the later lines completes the text
pub leads_on : {A : Type 0} (bytes : A → List ℕ) (lines : List A) (i : ℕ) (line : A) (text : List ℕ) (first now next : Option (List ℕ))
    → i < length lines → line ≡ get_or lines i line
    → text ≡ bytes line → Leads bytes lines (drop i lines) first now → Takes now text next → Leads bytes lines (drop (i + 1) lines) first next
leads_on bytes lines i line text first now next below at is leads taken = record {
  whole = λ last more. leads.whole last (subst (λ b. Takes now b last) joined (both_taken _ _ _ _ _ here more));
  part = λ last more. leads.part last (subst (λ b. TakesPart now b last) joined (part_of_back _ _ _ _ _ here more));
}
  where
    here : Takes now (bytes line) next
    here = subst (λ b. Takes now b next) is taken

    joined : bytes line ++ flat_map bytes (drop (i + 1) lines) ≡ flat_map bytes (drop i lines)
    joined = ap (flat_map bytes) (sym (drop_next _ _ _ below at))

-- if only a proper prefix of a line is written, the sink has gained a proper prefix of the text
pub leads_part : {A : Type 0} (bytes : A → List ℕ) (lines : List A) (i : ℕ) (line : A) (text : List ℕ) (first now next : Option (List ℕ))
    → i < length lines → line ≡ get_or lines i line
    → text ≡ bytes line → Leads bytes lines (drop i lines) first now → TakesPart now text next → TakesPart first (flat_map bytes lines) next
leads_part bytes lines i line text first now next below at is leads part = leads.part next
    (subst (λ b. TakesPart now b next) (ap (flat_map bytes) (sym (drop_next _ _ _ below at)))
    (part_of_front _ _ _ _ (subst (λ b. TakesPart now b next) is part)))

-- after the last line, the whole text is written
pub leads_last : {A : Type 0} (bytes : A → List ℕ) (lines : List A) (i : ℕ) (first now : Option (List ℕ)) → length lines ≤ i
    → Leads bytes lines (drop i lines) first now → Takes first (flat_map bytes lines) now
leads_last = search (rules, drop_of_length-le, append-nil)
