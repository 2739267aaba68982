-- How a text divides into lines. Only a line of at most 255 printable bytes can be a request.
use Rattle.std.specs.Prelude.{◌≡◌, ◌≢◌, ℕ, ◌-◌, ◌^◌, ◌≤◌, Bool, true, false, List, [], ◌∷◌, ◌++◌, length, Option, Some, None, option_map, Result, Ok, Err, ⊤}
use Rattle.std.specs.List.{AllByRecursion}
use Rattle.cif_device.specs.Device.{Reads, IsEnd}
use Rattle.docker_cmd.specs.JobLine.{IsLineText, IsJobLine}
use Rattle.docker_host.specs.History.{Text}
use Rattle.docker_host.specs.Exchanges.{Exchange, read, unread, wrote, unwritten, bytes_read}
use Rattle.docker_host.specs.Streams.{StreamsView}
use Rattle.docker_desk.specs.declared.lines.Asked.{Asked}
use Rattle.docker_desk.specs.declared.lines.Asked.TheVariants as asked
use Rattle.docker_desk.specs.declared.lines.InputFault.{InputFault}
use Rattle.docker_desk.specs.declared.lines.InputFault.TheVariants.{Failed, Endless}

-- a line of a text: whole, bad or cut. A whole line has at most 255 printable bytes before its line
-- feed. A bad line is longer or has a byte that isn't printable. A cut line has no line feed,
-- because the text ends
pub data LineView : Type 0 where
  whole_line : (line : List ℕ) → LineView
  bad_line : LineView
  cut_line : LineView

-- no byte is a line feed
abbrev pub IsWithoutFeed : List ℕ → Type 0
IsWithoutFeed = AllByRecursion (λ byte. byte ≢ 10)

-- the text begins with a bad line and its line feed, and the bytes after the line feed are `rest`
pub record IsBadLine (text rest : List ℕ) : Type 0 where
  pub line : List ℕ
  pub whole : text ≡ line ++ 10 ∷ rest
  pub one : IsWithoutFeed line
  pub bad : ¬ IsLineText line

-- the text is a cut line: it isn't empty and has no line feed
pub record IsCutLine (text : List ℕ) : Type 0 where
  pub some : text ≢ []
  pub one : IsWithoutFeed text

-- the text begins with this line, and the bytes after the line are `rest`
abbrev pub IsNextLine : List ℕ → LineView → List ℕ → Type 0
IsNextLine text (whole_line line) rest = IsJobLine text line rest
IsNextLine text bad_line rest = IsBadLine text rest
IsNextLine text cut_line rest = IsCutLine text × (rest ≡ [])

-- these are the lines of the text, in order
abbrev pub AreLines : List ℕ → List LineView → Type 0
AreLines text [] = text ≡ []
AreLines text (line ∷ lines) = (rest : List ℕ) × (IsNextLine text line rest × AreLines rest lines)

-- if the line is whole, it has at most 255 bytes, and all are printable. Contracts state these
-- facts about each line that was read, even if they can't say which bytes the source held
abbrev pub IsSomeLine : LineView → Type 0
IsSomeLine (whole_line line) = IsLineText line
IsSomeLine bad_line = ⊤
IsSomeLine cut_line = ⊤

-- this line was read from a source. If contracts can say which bytes the source held, those bytes
-- began with the line, and the bytes after the line are left
abbrev pub ReadsNext : Option (List ℕ) → LineView → Option (List ℕ) → Type 0
ReadsNext None line new = IsSomeLine line
ReadsNext (Some text) line new = (rest : List ℕ) × (IsNextLine text line rest × (new ≡ Some rest))

-- the bytes that are still to be read: the bytes that were read ahead, followed by the bytes left
-- in the source. None if contracts can't say which bytes are left in the source
abbrev pub with_ahead : List ℕ → Option (List ℕ) → Option (List ℕ)
with_ahead ahead left = option_map (λ rest. ahead ++ rest) left

-- converts the code's `Asked` to the definitions' `LineView`; None at the end of the source
abbrev pub asked_meant : Asked → Option LineView
asked_meant (asked.Line line) = Some (whole_line line.items)
asked_meant asked.Bad = Some bad_line
asked_meant asked.Cut = Some cut_line
asked_meant asked.End = None

-- this line was read; None says that the source was at its end
abbrev pub ReadsAsked : Option (List ℕ) → Option LineView → Option (List ℕ) → Type 0
ReadsAsked old None new = IsEnd old × (new ≡ old)
ReadsAsked old (Some line) new = ReadsNext old line new

-- at least this many bytes were read
pub record ReadsMany (least : ℕ) (old new : Option (List ℕ)) : Type 0 where
  pub lost : List ℕ
  pub many : least ≤ length lost
  pub read : Reads old lost new

-- reading a line ended with this result: the line that was read; `Failed` if the source failed; or
-- `Endless` if at least 2 ^ 64 - 1 bytes were read
abbrev pub EndsLine : Option (List ℕ) → Result Asked InputFault → Option (List ℕ) → Type 0
EndsLine old (Ok asked) new = ReadsAsked old (asked_meant asked) new
EndsLine old (Err Failed) new = ReadsMany 0 old new
EndsLine old (Err Endless) new = ReadsMany (2 ^ 64 - 1) old new

-- if a source hadn't reported its end before, it wasn't read past its end, and it has reported its
-- end now if and only if `at_end` is true
pub record MeetsEnd (at_end ended now_ended passed now_passed : Bool) : Type 0 where
  pub told : ended ≡ false → now_ended ≡ at_end
  pub kept : ended ≡ false → now_passed ≡ passed

-- whether the source reported its end when the next byte was read. The source reports its end if
-- there is no next byte
abbrev pub is_end_of_bytes : {A E : Type 0} → Result (Option A) E → Bool
is_end_of_bytes (Ok (Some byte)) = false
is_end_of_bytes (Ok None) = true
is_end_of_bytes (Err fault) = false

-- whether the source reported its end when the next line was read. The source reports its end if
-- the line is cut or there is no line
abbrev pub is_end_of_lines : Result Asked InputFault → Bool
is_end_of_lines (Ok (asked.Line line)) = false
is_end_of_lines (Ok asked.Bad) = false
is_end_of_lines (Ok asked.Cut) = true
is_end_of_lines (Ok asked.End) = true
is_end_of_lines (Err fault) = false

-- the last line of a source that ends after these bytes: a cut line, or None if there are no bytes
abbrev pub cut_or_end : List ℕ → Option LineView
cut_or_end [] = None
cut_or_end (byte ∷ bytes) = Some cut_line

-- the text begins with the rest of a line and its line feed, and the bytes after the line feed are
-- `left`
pub record SkipsTo (text : List ℕ) (left : Option (List ℕ)) : Type 0 where
  pub skipped : List ℕ
  pub rest : List ℕ
  pub whole : text ≡ skipped ++ 10 ∷ rest
  pub one : IsWithoutFeed skipped
  pub behind : left ≡ Some rest

-- the rest of a line and its line feed were read. The definition is also true if contracts can't
-- say which bytes the source held
abbrev pub SkipsLine : Option (List ℕ) → Option (List ℕ) → Type 0
SkipsLine None new = ⊤
SkipsLine (Some text) new = SkipsTo text new

-- all bytes left in the source were read, and none of them is a line feed. The definition is also
-- true if contracts can't say which bytes the source held
abbrev pub SkipsAll : Option (List ℕ) → Option (List ℕ) → Type 0
SkipsAll None new = ⊤
SkipsAll (Some text) new = IsWithoutFeed text × (new ≡ Some [])

-- reading the rest of a bad line ended with this result
abbrev pub EndsSkipping : Option (List ℕ) → Result Asked InputFault → Option (List ℕ) → Type 0
EndsSkipping old (Ok (asked.Line line)) new = ⊥
EndsSkipping old (Ok asked.Bad) new = SkipsLine old new
EndsSkipping old (Ok asked.Cut) new = SkipsAll old new
EndsSkipping old (Ok asked.End) new = ⊥
EndsSkipping old (Err Failed) new = ReadsMany 0 old new
EndsSkipping old (Err Endless) new = ReadsMany (2 ^ 64 - 1) old new

-- ---- the reads of a line

-- these exchanges are reads, and each was made while the bytes read before it had no line feed:
-- `text`, and then the bytes that the reads before it returned
abbrev pub ReadsInLine : Text → List Exchange → Type 0
ReadsInLine text [] = ⊤
ReadsInLine text (read bytes ∷ exchanges) =
    IsWithoutFeed text × ReadsInLine (text ++ bytes) exchanges
ReadsInLine text (unread ∷ exchanges) = IsWithoutFeed text × ReadsInLine text exchanges
ReadsInLine text (wrote bytes ∷ exchanges) = ⊥
ReadsInLine text (unwritten ∷ exchanges) = ⊥

-- the input was read in these exchanges, and the output wasn't used. `ahead` had been read before.
-- No read was made once a line feed had been read
pub record OnlyReads (ahead : Text) (gained : List Exchange) (old new : StreamsView) : Type 0 where
  pub reads : ReadsInLine ahead gained
  pub only : new
      ≡ record old {
        input = new.input;
        ended = new.ended;
        passed = new.passed;
        input_failures = new.input_failures;
        exchanges = old.exchanges ++ gained;
      }

-- the bytes `used` were taken from the bytes that had been read ahead and from what was then read.
-- The bytes `ahead_now` are read ahead now
pub record Uses (used ahead ahead_now : Text) (old new : StreamsView) : Type 0 where
  pub gained : List Exchange
  pub reads : OnlyReads ahead gained old new
  pub whole : ahead ++ bytes_read gained ≡ used ++ ahead_now

-- the byte that was read, as a text; empty if no byte was read
abbrev pub byte_text : {E : Type 0} → Result (Option ℕ) E → Text
byte_text (Ok (Some byte)) = byte ∷ []
byte_text (Ok None) = []
byte_text (Err fault) = []

-- the exchanges in which a line was read, or the rest of a bad line. `Ends` says how that can end,
-- in terms of the bytes that were to be read. Here these are the bytes that had been read ahead,
-- and the bytes that the reads returned. So this holds for real devices too
pub record UsesLine (Ends : Option (List ℕ) → Result Asked InputFault → Option (List ℕ) → Type 0)
    (ahead ahead_now : Text) (old new : StreamsView) (result : Result Asked InputFault) : Type 0 where
  pub gained : List Exchange
  pub reads : OnlyReads ahead gained old new
  pub ends : Ends (Some (ahead ++ bytes_read gained)) result (Some ahead_now)
