-- Reading the job line byte by byte, and what the bytes read so far say about the source's text.
use Rattle.cif_laws.proofs.Common.{◌≡◌, ℕ, ◌<◌, ◌≤◌, ◌≢◌, inl, inr, List, [], ◌∷◌, ◌++◌, length, true, false, refl, sym, ◌∙◌, rules, common_steps, ap, subst}
use Rattle.cif_laws.proofs.Common.{arith, append_assoc, length-append, append-nil, Some, None, get_or, Option, leb_tells, AllByRecursion, AllPass}
use Rattle.cif_laws.proofs.Common.{recursion_from_All, is_printable}
use Rattle.std.specs.Str.{IsAscii}
use Rattle.std.proofs.lemmas.Str.Ascii.{IsAscii-from_all}
use Rattle.std.proofs.lemmas.Bool.{cases_Bool}
use Rattle.cif_device.specs.Device.{Reads, IsEnd}
use Rattle.docker_cmd.specs.Job.{NameNoJob}
use Rattle.docker_cmd.specs.JobLine.{ReadsLine, HasNoLine, HasNoJob, HasJob, ReadsAtMost, words_in}

-- each of these bytes is printable
abbrev pub ArePrintable : List ℕ → Type 0
ArePrintable = AllByRecursion (λ b. is_printable b ≡ true)

-- if a byte before the first line feed of a text isn't printable, the text doesn't begin with a
-- line of printable bytes and a line feed
clash : (a b : List ℕ) (x : ℕ) (r s : List ℕ) → ArePrintable a → ArePrintable b → is_printable x ≡ false → x ≢ 10 → a ++ x ∷ r ≡ b ++ 10 ∷ s → ⊥
clash (y ∷ a) (z ∷ b) x r s a_good b_good bad other same = clash a b x r s a_good.1 b_good.1 bad other (cc)
clash [] [] x r s a_good b_good bad other same = other (cc)
clash a b x r s a_good b_good bad other same = cc

-- if a text begins with n printable bytes, its first line has at least n bytes
long : (a b r s : List ℕ) → ArePrintable a → length b < length a → a ++ r ≡ b ++ 10 ∷ s → ⊥
long (y ∷ a) (z ∷ b) r s good short same = long a b r s good.1 (omega arith) (cc)
long (y ∷ a) [] r s good short same = cc
long [] b r s good short same = absurd (omega arith)

-- printable bytes contain no line feed
ended : (a b s : List ℕ) → ArePrintable a → a ≡ b ++ 10 ∷ s → ⊥
ended a b s good same = long a b [] s good (let size = ap length same in omega (arith, length-append b (10 ∷ s))) (append-nil a ∙ same)

-- if a printable byte is appended to printable bytes, all bytes are still printable
pub printable_more : (line : List ℕ) (b : ℕ) → ArePrintable line → is_printable b ≡ true → ArePrintable (line ++ b ∷ [])
printable_more = grind (common_steps, arith)

-- if the bytes of a line were read and then one more byte, the line with this byte appended was
-- read
pub reads_on : (old now new : Option (List ℕ)) (line : List ℕ) (b : ℕ) → Reads old line now → Reads now (b ∷ []) new → Reads old (line ++ b ∷ []) new
reads_on = search (rules, append_assoc)

-- if all bytes of a text are printable, the text has no line feed, so it has no job line
pub no_line_at_end : (old now : Option (List ℕ)) (line : List ℕ) → Reads old line now → IsEnd now → ArePrintable line → HasNoLine old
no_line_at_end = search (rules, append-nil, ended)

-- if the first unprintable byte of a text isn't a line feed, the text has no job line
pub no_line_at : (old now new : Option (List ℕ)) (line : List ℕ) (b : ℕ) → Reads old line now → Reads now (b ∷ []) new → ArePrintable line
    → is_printable b ≡ false → b ≢ 10 → HasNoLine old
no_line_at old now new line b first feed good bad other = by old new (reads_on _ _ _ _ _ first feed)
  where
    by : (old new : Option (List ℕ)) → Reads old (line ++ b ∷ []) new → HasNoLine old
    by None new read = tt
    by (Some text) None read = cc
    by (Some text) (Some rest) read = λ found behind is.
        let same : text ≡ (line ++ b ∷ []) ++ rest = cc in
        clash _ _ _ _ _ good (recursion_from_All _ found is.line_text.printable) bad other (sym (append_assoc line (b ∷ []) rest) ∙ sym same ∙ is.whole)

-- a text that begins with more than 255 printable bytes has no job line
pub no_line_behind : (old new : Option (List ℕ)) (line : List ℕ) → Reads old line new → ArePrintable line → 255 < length line → HasNoLine old
no_line_behind = search (rules, long)

-- if a text begins with 255 printable bytes and the next byte isn't a line feed, the text has no
-- job line
pub no_line_full : (old now new : Option (List ℕ)) (line : List ℕ) (b : ℕ) → Reads old line now → Reads now (b ∷ []) new → ArePrintable line
    → length line ≡ 255 → b ≢ 10 → HasNoLine old
no_line_full old now new line b first feed good full other = elim (cases_Bool (is_printable b)) [
  | inl here ↦ no_line_behind _ _ _ (reads_on _ _ _ _ _ first feed) (printable_more _ _ good here) (omega (arith, length-append line (b ∷ [])))
  | inr here ↦ no_line_at _ _ _ _ _ first feed good here other
]

-- if two lines of printable bytes, each followed by a line feed, begin the same text, the two lines
-- are equal
one_line : (a b r s : List ℕ) → ArePrintable a → ArePrintable b → a ++ 10 ∷ r ≡ b ++ 10 ∷ s → a ≡ b
one_line (y ∷ a) (z ∷ b) r s a_good b_good same =
    let rest : a ≡ b = one_line a b r s a_good.1 b_good.1 (cc) in
    cc
one_line [] [] r s a_good b_good same = refl
one_line a b r s a_good b_good same = cc

-- if a job line was read and its words name no job, the source doesn't begin with a job line that
-- names a job
pub no_job_on_line : (old new : Option (List ℕ)) (line : List ℕ) → ReadsLine old line new → NameNoJob (words_in line) → HasNoJob old
no_job_on_line None new line read none = tt
no_job_on_line (Some text) new line read none = λ other behind is. subst (λ (l : List ℕ). NameNoJob (words_in l)) (one_line _ _ _ _
    (recursion_from_All _ line read.1.line_text.printable) (recursion_from_All _ other is.line_text.printable) (sym read.1.whole ∙ is.whole)) none

-- a printable byte is ASCII
printable_small : (b : ℕ) → is_printable b ≡ true → b < 128
printable_small = search (rules, leb_tells)

-- the bytes of a job line are ASCII
pub line_ascii : (line : List ℕ) → AllPass is_printable line → IsAscii line
line_ascii line good = IsAscii-from_all line (λ k d within. printable_small (get_or line k d) (good k d within))

-- if a job line was read and its words name a job, the source begins with a job line that names a
-- job
pub job_on_line : (old new : Option (List ℕ)) (line : List ℕ) → ReadsLine old line new → ¬ NameNoJob (words_in line) → HasJob old
job_on_line = search rules

-- if a line of at most 256 bytes was read and nothing more, at most 256 bytes were read from the
-- source
pub reads_few : (old now new : Option (List ℕ)) (line : List ℕ) → Reads old line now → new ≡ now → length line ≤ 256 → ReadsAtMost 256 old new
reads_few = search rules

-- if a line of at most 255 bytes and then one more byte were read, at most 256 bytes were read
pub reads_one_more : (old now new : Option (List ℕ)) (line : List ℕ) (b : ℕ) → Reads old line now → Reads now (b ∷ []) new → length line ≤ 255
    → ReadsAtMost 256 old new
reads_one_more old now new line b first then_one few =
    record { lost = line ++ b ∷ []; few = omega (arith, length-append line (b ∷ [])); read = reads_on old now new line b first then_one }
