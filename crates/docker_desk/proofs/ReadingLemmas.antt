-- A text can be divided into lines in at most one way.
use Rattle.cif_laws.proofs.Common.{◌≡◌, ℕ, List, [], ◌∷◌, ◌++◌, refl, sym, ◌∙◌, ap, subst, rules, recursion_from_All}
use Rattle.docker_cmd.specs.JobLine.{IsJobLine, IsLineText}
use Rattle.docker_desk.specs.Lines.{AreLines, IsBadLine, IsNextLine, IsWithoutFeed, LineView, whole_line, bad_line, cut_line}

-- ---- the first line feed of a text

-- the first line feed of a text determines the line before it and the bytes after it
one_split : (line other rest last : List ℕ) → IsWithoutFeed line → IsWithoutFeed other → line ++ 10 ∷ rest ≡ other ++ 10 ∷ last → (line ≡ other) × (rest ≡ last)
one_split [] [] rest last first second same = (refl, cc)
one_split [] (b ∷ other) rest last first second same = absurd (second.0 (cc))
one_split (a ∷ line) [] rest last first second same = absurd (first.0 (cc))
one_split (a ∷ line) (b ∷ other) rest last first second same =
    let head : a ≡ b = cc in
    let tail : line ++ 10 ∷ rest ≡ other ++ 10 ∷ last = cc in
    let split = one_split line other rest last first.1 second.1 tail in
    (cc, split.1)

-- a text without a line feed can't be split at a line feed
no_split : (text line rest : List ℕ) → IsWithoutFeed text → ¬ (text ≡ line ++ 10 ∷ rest)
no_split [] [] rest without same = let never : ⊥ = cc in never
no_split [] (b ∷ line) rest without same = let never : ⊥ = cc in never
no_split (a ∷ text) [] rest without same = without.0 (cc)
no_split (a ∷ text) (b ∷ line) rest without same = let tail : text ≡ line ++ 10 ∷ rest = cc in no_split text line rest without.1 tail

-- a line of printable bytes has no line feed
text_without : (line : List ℕ) → IsLineText line → IsWithoutFeed line
text_without = search (rules, recursion_from_All)

-- ---- the next line

module _ (text rest last : List ℕ) where
  two_whole : (line other : List ℕ) → IsJobLine text line rest → IsJobLine text other last → (whole_line line ≡ whole_line other) × (rest ≡ last)
  two_whole line other first second =
      let split = one_split line other rest last (text_without line first.line_text) (text_without other second.line_text) (sym first.whole ∙ second.whole) in
      (ap whole_line split.0, split.1)

  not_both : (line : List ℕ) → IsJobLine text line rest → ¬ IsBadLine text last
  not_both line first second =
      let split = one_split line second.line rest last (text_without line first.line_text) second.one (sym first.whole ∙ second.whole) in
      second.bad (subst IsLineText split.0 first.line_text)

  two_bad : IsBadLine text rest → IsBadLine text last → rest ≡ last
  two_bad = search (rules, one_split)

-- a text determines its next line and the bytes after that line
one_line : (text rest last : List ℕ) (line other : LineView) → IsNextLine text line rest → IsNextLine text other last → (line ≡ other) × (rest ≡ last)
one_line text rest last (whole_line line) (whole_line other) first second = two_whole text rest last line other first second
one_line text rest last (whole_line line) bad_line first second = absurd (not_both text rest last line first second)
one_line text rest last (whole_line line) cut_line first second = absurd (no_split text line rest second.0.one first.whole)
one_line text rest last bad_line (whole_line other) first second = absurd (not_both text last rest other second first)
one_line text rest last bad_line bad_line first second = (refl, two_bad text rest last first second)
one_line text rest last bad_line cut_line first second = absurd (no_split text first.line rest second.0.one first.whole)
one_line text rest last cut_line (whole_line other) first second = absurd (no_split text other last first.0.one second.whole)
one_line text rest last cut_line bad_line first second = absurd (no_split text second.line last first.0.one second.whole)
one_line text rest last cut_line cut_line first second = (refl, first.1 ∙ sym second.1)

-- the empty text has no next line
no_line : (line : LineView) (rest : List ℕ) → ¬ IsNextLine [] line rest
no_line (whole_line line) rest next = no_split [] line rest tt next.whole
no_line bad_line rest next = no_split [] next.line rest tt next.whole
no_line cut_line rest next = next.0.some refl

-- a text can be divided into lines in only one way
pub one_reading : (text : List ℕ) (lines others : List LineView) → AreLines text lines → AreLines text others → lines ≡ others
one_reading text [] [] first second = refl
one_reading text [] (other ∷ others) first second = absurd (no_line other second.0 (subst (λ t. IsNextLine t other second.0) first second.1.0))
one_reading text (line ∷ lines) [] first second = absurd (no_line line first.0 (subst (λ t. IsNextLine t line first.0) second first.1.0))
one_reading text (line ∷ lines) (other ∷ others) first second =
    let next = one_line text first.0 second.0 line other first.1.0 second.1.0 in
    let more = one_reading second.0 lines others (subst (λ t. AreLines t lines) next.1 first.1.1) second.1.1 in
    cc
