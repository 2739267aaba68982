-- Reading a line byte by byte, and what the bytes read so far say about the line.
use Rattle.cif_laws.proofs.Common.{◌≡◌, ℕ, ◌+◌, ◌≤◌, ◌≢◌, List, [], ◌∷◌, ◌++◌, length, true, false, refl, sym, ◌∙◌, rules, common_steps, ap, subst, arith}
use Rattle.cif_laws.proofs.Common.{append_assoc, length-append, append-nil, Some, None, inl, inr, Ok, Err, Option, Result, ◌⊎◌, AllByRecursion}
use Rattle.cif_laws.proofs.Common.{recursion_from_All, is_printable}
use Rattle.cif_device.specs.Device.{Reads, IsEnd}
use Rattle.docker_cmd.specs.JobLine.{IsLineText}
use Rattle.docker_desk.specs.declared.lines.Asked.{Asked}
use Rattle.docker_desk.specs.declared.lines.Asked.TheVariants as asked
use Rattle.docker_desk.specs.declared.lines.InputFault.{InputFault}
use Rattle.docker_desk.specs.declared.lines.InputFault.TheVariants.{Failed, Endless}
use Rattle.docker_desk.specs.Lines.{IsWithoutFeed, ReadsNext, ReadsAsked, ReadsMany, EndsLine, EndsSkipping}
use Rattle.docker_desk.specs.Lines.{SkipsLine, SkipsAll, whole_line, cut_or_end}

-- ---- what was read ahead

-- ---- bytes without a line feed

-- each of these bytes is printable
abbrev pub ArePrintable : List ℕ → Type 0
ArePrintable = AllByRecursion (λ b. is_printable b ≡ true)

-- if all bytes of a line are printable, none of them is a line feed
pub printable_without : (line : List ℕ) → ArePrintable line → IsWithoutFeed line
printable_without [] good = tt
printable_without (b ∷ line) good = (other b good.0, printable_without line good.1)
  where
    other : (b : ℕ) → is_printable b ≡ true → b ≢ 10
    other b here = λ same. let feed : is_printable 10 ≡ true = subst (λ c. is_printable c ≡ true) same here in cc

-- if a printable byte is appended to printable bytes, all bytes are still printable
pub printable_more : (line : List ℕ) (b : ℕ) → ArePrintable line → is_printable b ≡ true → ArePrintable (line ++ b ∷ [])
printable_more = grind (common_steps, arith)

-- the concatenation of two texts without a line feed has no line feed
pub without_both : (xs ys : List ℕ) → IsWithoutFeed xs → IsWithoutFeed ys → IsWithoutFeed (xs ++ ys)
without_both = grind (common_steps, arith)

-- ---- one reading after another

-- if the bytes `line` were read and then the bytes `more`, the concatenation `line ++ more` was
-- read
pub reads_on : (old now new : Option (List ℕ)) (line more : List ℕ) → Reads old line now → Reads now more new → Reads old (line ++ more) new
reads_on = search (rules, append_assoc)

-- if at least n bytes and then one more were read, at least n + 1 bytes were read
pub many_more : (n : ℕ) (old now new : Option (List ℕ)) (byte : ℕ) → ReadsMany n old now → Reads now (byte ∷ []) new → ReadsMany (n + 1) old new
many_more n old now new byte many then_one = record {
  lost = many.lost ++ byte ∷ [];
  many = (let first = many.many in omega (arith, first, length-append many.lost (byte ∷ [])));
  read = reads_on old now new many.lost (byte ∷ []) many.read then_one;
}

-- if a line and then at least n bytes were read, at least n bytes were read
pub many_behind : (n : ℕ) (old now new : Option (List ℕ)) (line : List ℕ) → Reads old line now → ReadsMany n now new → ReadsMany n old new
many_behind n old now new line first many = record {
  lost = line ++ many.lost;
  many = (let long = many.many in omega (arith, long, length-append line many.lost));
  read = reads_on old now new line many.lost first many.read;
}

-- ---- the rest of a bad line

-- suppose that a byte was read that isn't a line feed, and that the bytes after it on its line were
-- skipped. Then the rest of the line was skipped, beginning with this byte
pub skips_byte : (old now new : Option (List ℕ)) (b : ℕ) → Reads old (b ∷ []) now → b ≢ 10 → SkipsLine now new → SkipsLine old new
skips_byte None now new b read other line = tt
skips_byte (Some text) None new b read other line = let never : ⊥ = cc in absurd never
skips_byte (Some text) (Some left) new b read other line =
    record {
      skipped = b ∷ line.skipped;
      rest = line.rest;
      whole = behind text left b line.skipped line.rest (cc) line.whole;
      one = (other, line.one);
      behind = line.behind;
    }
  where
    behind : (text left : List ℕ) (b : ℕ) (skipped rest : List ℕ) → text ≡ b ∷ left → left ≡ skipped ++ 10 ∷ rest → text ≡ b ∷ skipped ++ 10 ∷ rest
    behind text left b skipped rest first second = cc

-- suppose that a byte was read that isn't a line feed, and that the bytes after it on the last line
-- were skipped. Then the rest of the last line was skipped, beginning with this byte
pub skips_before : (old now new : Option (List ℕ)) (b : ℕ) → Reads old (b ∷ []) now → b ≢ 10 → SkipsAll now new → SkipsAll old new
skips_before = search rules

-- ---- reading a whole, cut or bad line

-- if at most 255 printable bytes and then a line feed were read, a whole line was read
pub reads_whole : (old now new : Option (List ℕ)) (line : List ℕ) → Reads old line now → Reads now (10 ∷ []) new → ArePrintable line → length line ≤ 255
    → ReadsNext old (whole_line line) new
reads_whole = grind (common_steps, arith, reads_on, append_assoc)

-- if the source ends after printable bytes, these bytes were read as a cut line. If there were no
-- bytes, no line was read
pub reads_cut : (old now new : Option (List ℕ)) (line : List ℕ) → Reads old line now → IsEnd now → new ≡ now → ArePrintable line
    → ReadsAsked old (cut_or_end line) new
reads_cut = search (rules, append-nil, printable_without)

-- this byte makes the line bad: the byte isn't a line feed, and either it isn't printable or the
-- line already has 255 bytes
pub record IsSpoiled (line : List ℕ) (b : ℕ) : Type 0 where
  pub other : b ≢ 10
  pub why : (length line ≡ 255) ⊎ (is_printable b ≡ false)

-- if a byte makes a line bad, the line with this byte isn't a line of at most 255 printable bytes,
-- whatever bytes follow
not_text : (line : List ℕ) (b : ℕ) (more : List ℕ) → IsSpoiled line b → ¬ IsLineText (line ++ b ∷ more)
not_text line b more spoiled text = elim spoiled.why [
  | inl full ↦ let short = text.short in omega (arith, full, short, length-append line (b ∷ more))
  | inr bad ↦ let good : is_printable b ≡ true = inside line (recursion_from_All _ (line ++ b ∷ more) text.printable) in cc
]
  where
    inside : (line : List ℕ) → ArePrintable (line ++ b ∷ more) → is_printable b ≡ true
    inside [] good = good.0
    inside (y ∷ line) good = inside line good.1

-- if a byte makes a line bad and the rest of the line is skipped, a bad line was read
pub reads_bad : (old now mid new : Option (List ℕ)) (line : List ℕ) (b : ℕ) (result : Result Asked InputFault) → Reads old line now → Reads now (b ∷ []) mid
    → ArePrintable line → IsSpoiled line b → EndsSkipping mid result new → EndsLine old result new
reads_bad old now mid new line b result first then_one good spoiled ends = by old mid result (reads_on _ _ _ _ _ first then_one) ends
  where
    front : IsWithoutFeed (line ++ b ∷ [])
    front = without_both _ _ (printable_without _ good) (spoiled.other, tt)

    by : (old mid : Option (List ℕ)) (result : Result Asked InputFault) → Reads old (line ++ b ∷ []) mid → EndsSkipping mid result new → EndsLine old result new
    by None mid (Ok asked.Bad) read ends = tt
    by None mid (Ok asked.Cut) read ends = tt
    by (Some text) None result read ends = let never : ⊥ = cc in absurd never
    by (Some text) (Some left) (Ok asked.Bad) read ends =
        let same : text ≡ (line ++ b ∷ []) ++ left = cc in (
          ends.rest,
          (
            record {
              line = (line ++ b ∷ []) ++ ends.skipped;
              whole = same ∙ ap (λ l. (line ++ b ∷ []) ++ l) ends.whole ∙ sym (append_assoc (line ++ b ∷ []) ends.skipped (10 ∷ ends.rest));
              one = without_both _ _ front ends.one;
              bad = subst (λ l. ¬ IsLineText l) (sym (append_assoc line (b ∷ []) ends.skipped)) (not_text _ _ _ spoiled);
            },
            ends.behind,
          ),
        )
    by (Some text) (Some left) (Ok asked.Cut) read ends =
        let same : text ≡ (line ++ b ∷ []) ++ left = cc in (
          [],
          (
            (
              record {
                some = λ none. nothing line b left (sym same ∙ none);
                one = subst IsWithoutFeed (sym same) (without_both _ _ front ends.0);
              },
              refl,
            ),
            ends.1,
          ),
        )
      where
        nothing : (line : List ℕ) (b : ℕ) (left : List ℕ) → (line ++ b ∷ []) ++ left ≡ [] → ⊥
        nothing [] b left none = cc
        nothing (y ∷ line) b left none = cc
    by old mid (Ok (asked.Line other)) read ends = absurd ends
    by old mid (Ok asked.End) read ends = absurd ends
    by old mid (Err Failed) read ends = many_behind _ _ _ _ _ read ends
    by old mid (Err Endless) read ends = many_behind _ _ _ _ _ read ends
