-- Lemmas on a record at the start of a text, and on its line end.
use Rattle.cif_laws.proofs.Common.{◌≡◌, ℕ, ◌≤◌, inl, inr, true, false, List, [], ◌∷◌, ◌++◌, length, take, rules, drop, get_or, refl, sym, ap, ◌∙◌, subst, arith}
use Rattle.cif_laws.proofs.Common.{length-append, append_assoc, common_steps, ◌==◌, strip_carriage_return, eq-eqb, nat_tests, take-append-drop, length-take-le}
use Rattle.cif_laws.proofs.Common.{All-append, All-from_recursion, IsRecord, is_printable}
use Rattle.std.proofs.Math.Seq.{drop-append_seam}
use Rattle.cif_laws.specs.CompleteLines.{HasNoFeed}
use Rattle.cif_file.specs.Cut.{IsCut, BeginsWithEnd, BeginsWithEighty}

no_feed : (b : ℕ) → is_printable b ≡ true → (b == 10) ≡ false
no_feed b printable = grind (arith, nat_tests)

-- a record contains no line feed
record_plain : (line : List ℕ) → IsRecord line → HasNoFeed line
record_plain line is = λ k d below. no_feed (get_or line k d) (is.1 k d below)

-- stripping the carriage return after a line leaves the line
strip_return : (line : List ℕ) → strip_carriage_return (line ++ 13 ∷ []) ≡ line
strip_return = grind (common_steps, arith, eq-eqb)

-- Says that cutting a text at its first line feed gives this line, with or without a carriage return, and this rest.
pub record CutsRecord (text line rest : List ℕ) : Type 0 where
  pub front : List ℕ
  pub cut : IsCut text front rest
  pub line_is : line ≡ strip_carriage_return front

-- a text that begins with a record and a line end is cut at this line end
pub record_cut : (text line rest : List ℕ) → IsRecord line → BeginsWithEighty text line rest → CutsRecord text line rest
record_cut text line rest is begins = elim begins.ended [
  | inl feed ↦ search rules
  | inr both ↦ record {
    front = line ++ 13 ∷ [];
    cut = record {
      whole = begins.whole ∙ ap (λ l. line ++ l) both ∙ sym (append_assoc line (13 ∷ []) (10 ∷ rest));
      plain = All-append (λ b. (b == 10) ≡ false) line (13 ∷ []) (record_plain line is) (All-from_recursion (λ b. (b == 10) ≡ false) (13 ∷ []) (refl, tt));
    };
    line_is = sym (strip_return line);
  }
]

-- if a text begins with a line of 80 bytes, a line end follows its first 80 bytes
pub begins_at : (text line rest : List ℕ) → BeginsWithEighty text line rest → BeginsWithEnd (drop 80 text) rest × (80 ≤ length text)
begins_at text line rest begins =
    let size = begins.eighty in
    let all = ap (λ (l : List ℕ). length l) begins.whole in
    let parts = length-append line begins.after in
    let second : drop 80 text ≡ begins.after = (λ i. drop (sym size i) (begins.whole i)) ∙ drop-append_seam line begins.after in
    (subst (λ l. BeginsWithEnd l rest) (sym second) begins.ended, omega arith)

-- conversely, if a line end follows the first 80 bytes of a text, the text begins with a line of 80 bytes
pub begins_with : (text rest : List ℕ) → 80 ≤ length text → BeginsWithEnd (drop 80 text) rest → BeginsWithEighty text (take 80 text) rest
begins_with = search (rules, length-take-le, take-append-drop)
