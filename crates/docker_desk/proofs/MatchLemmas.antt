-- How a sink compares a text with the bytes that are written to it.
use Rattle.cif_laws.proofs.Common.{◌≡◌, ◌<◌, ◌+◌, ◌-◌, ℕ, List, [], ◌∷◌, ◌++◌, length, take, drop, Option, None, rules, common_steps, Some, sym, ◌∙◌, ap, subst}
use Rattle.cif_laws.proofs.Common.{arith, append-nil, take-append-drop, length-drop, Bool, true, false, ◌&&◌, Result, Ok, Err, OnOk, OnErr, IfErr, IfSome}
use Rattle.cif_laws.proofs.Common.{IsTrue, ⊤, is_some, is_ok}
use Rattle.std.proofs.Math.Seq.{take-add, take-length}
use Rattle.cif_device.specs.Device.{CountsFailure, Takes, TakesPart}
use Rattle.docker_office.specs.declared.fault.OfficeFault.{OfficeFault}
use Rattle.docker_office.specs.declared.fault.OfficeFault.TheVariants as office
use Rattle.docker_desk.specs.Copying.{IsNoFront, with_other}

-- suppose that `taken` is the first `at` bytes of a text, and that the next n bytes of the text are
-- the first n bytes of a piece. Then `taken`, followed by these n bytes, is the first `at + n`
-- bytes of the text
pub goes_on : (text piece taken : List ℕ) (at n : ℕ) → take n (drop at text) ≡ take n piece → take at text ≡ taken → take (at + n) text ≡ taken ++ take n piece
goes_on text piece taken at n same front = take-add at n text ∙ (λ i. front i ++ same i)

-- the same as `goes_on`, for a sink whose bytes have all agreed with the text so far
pub goes_on_as : (text piece taken : List ℕ) (other : Option ℕ) (at n : ℕ) → is_some other ≡ false → with_other (take at text) other ≡ taken
    → take n (take (length text - at) (drop at text)) ≡ take n piece → Some (with_other (take (at + n) text) other) ≡ Some (taken ++ take n piece)
goes_on_as = grind (common_steps, arith, goes_on, length-drop, take-length)

-- if a sink has taken a byte that differs from the byte of the text at the same offset, the sink
-- hasn't taken exactly the text
pub never_whole : (text own front taken : List ℕ) (other : Option ℕ) (test : Bool) → is_some other ≡ true → own ≡ text → with_other front other ≡ taken
    → IfSome other (λ _. IsNoFront (with_other front other) own) → test ≡ false → (IsTrue test → taken ≡ text) × (taken ≡ text → IsTrue test)
never_whole text own front taken None test some same is none fails = let never : ⊥ = cc in absurd never
never_whole text own front taken (Some byte) test some same is none fails = (
  λ passes. let never : ⊥ = cc in absurd never,
  λ whole. absurd (none [] (same ∙ sym whole ∙ sym is ∙ sym (append-nil (front ++ byte ∷ [])))),
)

-- suppose that the sink fails only if it has taken bytes that aren't a prefix of the text. Then
-- writing succeeds and the sink has the whole text if and only if the text itself was sent
pub sent_compares : (text sent before taken own : List ℕ) (bytes : Option (List ℕ)) (failures_before failures : ℕ) (done : Result ⊤ OfficeFault)
    (ok whole : Bool) → before ≡ [] → failures_before ≡ 0 → bytes ≡ Some text → bytes ≡ Some own → OnOk done (Takes (Some before) sent (Some taken))
    → OnErr done (TakesPart (Some before) sent (Some taken)) → CountsFailure (done ≡ Err office.Sink) failures_before failures
    → IfErr done (λ fault. fault ≡ office.Sink) → ok ≡ is_ok done → (IsTrue whole → taken ≡ own) × (taken ≡ own → IsTrue whole)
    → (0 < failures → IsNoFront taken own) → (IsTrue (ok && whole) → text ≡ sent) × (text ≡ sent → IsTrue (ok && whole))
sent_compares text sent before taken own bytes failures_before failures (Ok done) ok whole none zero named named_too takes part counts only is_ok wholly apart =
    search rules
sent_compares text sent before taken own bytes failures_before failures (Err why) ok whole none zero named named_too takes part counts only is_ok wholly apart =
    subst (λ (o : Bool). (IsTrue (o && whole) → text ≡ sent) × (text ≡ sent → IsTrue (o && whole))) (sym is_ok)
    (λ is. let never : ⊥ = cc in absurd never, λ is. absurd (other is))
  where
    same : own ≡ text
    same = cc

    failed : failures ≡ failures_before + 1
    failed = counts.0.0 (ap Err only)

    other : ¬ (text ≡ sent)
    other is =
        let takes = part.2 in
        let front : taken ≡ take part.0 sent = search rules in
        apart (omega (arith, failed)) (drop part.0 sent)
        (same ∙ is ∙ sym (take-append-drop part.0 sent) ∙ ap (λ (t : List ℕ). t ++ drop part.0 sent) (sym front))
