-- The widths of the printed parts of a docker. Each byte of a part is at least 32, so no part has a
-- line feed.
use Rattle.cif_laws.proofs.Common.{◌≡◌, ℕ, zero, suc, ◌+◌, ◌-◌, ◌/◌, ◌%◌, ◌<◌, ◌≤◌, List, [], ◌∷◌, ◌++◌, length, All, refl, Bool, true, common_steps, cond}
use Rattle.cif_laws.proofs.Common.{Some, arith, length-append, rules, Option, codes, nat_le, ◌==◌, leb-true, All-nil, All-from_recursion, Kind, columns, column}
use Rattle.cif_laws.proofs.Common.{IsRecord, IsTextOfLength, is_printable, origin_location, intermediate_location, terminating_location, spaces, day_text}
use Rattle.cif_laws.proofs.Common.{date_text, Occasion, arrival, departure, DockerLine, line_text}
use Rattle.std.proofs.lemmas.List.Elements.{All-weaker}
use Rattle.docker_model.specs.records.PrintedTime.{two_digit_text, time_text, shown_public}
use Rattle.docker_model.specs.docker.DockerLine.{platform_by_kind, track_by_kind, path_by_kind, public_by_kind}
use Rattle.docker_model.specs.docker.DockerText.{occasion_text, detail_text}
use Rattle.cif_laws.proofs.lists.BoolsAndOptions.{both}
use Rattle.cif_laws.proofs.records.Columns.{text_in, printable_column}

-- each byte of the text is at least 32
abbrev pub IsPlain : List ℕ → Type 0
IsPlain text = All (λ b. 32 ≤ b) text

-- the text has this length, and each of its bytes is at least 32
pub record IsWide (width : ℕ) (text : List ℕ) : Type 0 where
  pub long : length text ≡ width
  pub plain : IsPlain text

-- ---- small texts

-- two texts, one after the other
pub wide_append : {m n : ℕ} {a b : List ℕ} → IsWide m a → IsWide n b → IsWide (m + n) (a ++ b)
wide_append = grind (common_steps, arith, length-append)

-- a text of one byte
pub wide_byte : (b : ℕ) → 32 ≤ b → IsWide 1 (b ∷ [])
wide_byte b low = record { long = refl; plain = All-from_recursion (λ c. 32 ≤ c) (b ∷ []) (low, tt) }

-- spaces
pub wide_spaces : (n : ℕ) → IsWide n (spaces n)
wide_spaces zero = record { long = refl; plain = All-nil (λ c. 32 ≤ c) }
wide_spaces (suc n) = grind (arith, wide_byte, (wide_spaces n))

-- a printable byte is at least 32
printable_low : (b : ℕ) → is_printable b ≡ true → 32 ≤ b
printable_low b is = leb-true 32 b (both (nat_le 32 b) (nat_le b 126) is).0

-- a text of printable bytes
pub wide_text : (n : ℕ) (text : List ℕ) → IsTextOfLength n text → IsWide n text
wide_text n text is = record { long = is.0; plain = All-weaker (λ b. is_printable b ≡ true) (λ b. 32 ≤ b) printable_low text is.1 }

-- columns of a record
pub wide_columns : (line : List ℕ) (first last : ℕ) → IsRecord line → first - 1 ≤ last → last ≤ 80 → IsWide (last - (first - 1)) (columns first last line)
wide_columns line first last is from to = wide_text (last - (first - 1)) (columns first last line) (text_in line first last is from to)

-- a column of a record
pub low_column : (line : List ℕ) (n : ℕ) → IsRecord line → n - 1 < 80 → 32 ≤ column n line
low_column line n is within = printable_low (column n line) (printable_column line n is within)

-- ---- numbers, times and days

wide_two : (n : ℕ) → IsWide 2 (two_digit_text n)
wide_two n = wide_append (wide_byte (48 + n / 10) (omega arith)) (wide_byte (48 + n % 10) (omega arith))

wide_date : (year month day : ℕ) → IsWide 10 (date_text year month day)
wide_date year month day = wide_append (wide_append (wide_append (wide_append (wide_append (wide_two _) (wide_two _)) (wide_byte _ (omega arith)))
    (wide_two _)) (wide_byte _ (omega arith))) (wide_two _)

-- the date of a day
pub wide_day : (day : ℕ) → IsWide 10 (day_text day)
wide_day day = wide_date _ _ _

half_mark : (b : Bool) → IsWide 1 (cond b (codes "H") (codes " "))
half_mark = search (rules, wide_byte)

wide_time : (time : ℕ) → IsWide 5 (time_text time)
wide_time time = wide_append (wide_append (wide_two (time / 2 / 60)) (wide_two (time / 2 % 60))) (half_mark (time % 2 == 1))

wide_occasion : (occasion : Occasion) → IsWide 1 (occasion_text occasion)
wide_occasion = search (rules, wide_byte)

-- ---- the fields of a docker line

-- each field of a docker line has its width
pub record HasWideFields (line : DockerLine) : Type 0 where
  pub identity : IsWide 4 line.identity
  pub uid : IsWide 6 line.uid
  pub indicator : 32 ≤ line.indicator
  pub suffix : 32 ≤ line.suffix
  pub platform : IsWide 3 line.platform
  pub track : IsWide 3 line.track
  pub path : IsWide 3 line.path
  pub public_time : IsWide 4 line.public_time
  pub detail : IsWide 15 (detail_text line.detail)

-- the text of a docker line has 56 columns
pub wide_line : (line : DockerLine) → HasWideFields line → IsWide 56 (line_text line)
wide_line line has =
    let space = wide_spaces 1 in
    let indicator = wide_append (wide_byte line.indicator has.indicator) space in
    let suffix = wide_append (wide_byte line.suffix has.suffix) space in
    let front = wide_append (wide_append (wide_append (wide_time line.time) space) (wide_occasion line.occasion)) space in
    let named = wide_append (wide_append (wide_append (wide_append front has.identity) space) has.uid) space in
    let placed = wide_append (wide_append (wide_append (wide_append named indicator) suffix) has.platform) space in
    let tracked = wide_append (wide_append (wide_append (wide_append placed has.track) space) has.path) space in
    wide_append (wide_append (wide_append tracked has.public_time) space) has.detail

wide_shown : (field : List ℕ) → IsWide 4 field → IsWide 4 (shown_public field)
wide_shown = search (rules, wide_spaces)

-- the platform at a record
pub wide_platform : (kind : Option Kind) (line : List ℕ) → IsRecord line → IsWide 3 (platform_by_kind kind line)
wide_platform (Some intermediate_location) line is = wide_columns line 34 36 is (omega arith) (omega arith)
wide_platform kind line is = wide_columns line 20 22 is (omega arith) (omega arith)

-- the line at a record
pub wide_track : (kind : Option Kind) (line : List ℕ) → IsRecord line → IsWide 3 (track_by_kind kind line)
wide_track (Some origin_location) line is = wide_columns line 23 25 is (omega arith) (omega arith)
wide_track (Some intermediate_location) line is = wide_columns line 37 39 is (omega arith) (omega arith)
wide_track kind line is = wide_spaces 3

-- the path at a record
pub wide_path : (kind : Option Kind) (line : List ℕ) → IsRecord line → IsWide 3 (path_by_kind kind line)
wide_path (Some intermediate_location) line is = wide_columns line 40 42 is (omega arith) (omega arith)
wide_path (Some terminating_location) line is = wide_columns line 23 25 is (omega arith) (omega arith)
wide_path kind line is = wide_spaces 3

-- the public time of an event at a record
pub wide_public : (kind : Option Kind) (occasion : Occasion) (line : List ℕ) → IsRecord line → IsWide 4 (public_by_kind kind occasion line)
wide_public (Some origin_location) departure line is = wide_shown (columns 16 19 line) (wide_columns line 16 19 is (omega arith) (omega arith))
wide_public (Some intermediate_location) arrival line is = wide_shown (columns 26 29 line) (wide_columns line 26 29 is (omega arith) (omega arith))
wide_public (Some intermediate_location) departure line is = wide_shown (columns 30 33 line) (wide_columns line 30 33 is (omega arith) (omega arith))
wide_public (Some terminating_location) arrival line is = wide_shown (columns 16 19 line) (wide_columns line 16 19 is (omega arith) (omega arith))
wide_public kind occasion line is = wide_spaces 4
