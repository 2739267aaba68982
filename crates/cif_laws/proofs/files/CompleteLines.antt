-- A text whose bytes are still being read has complete lines, each ended by a line feed, and an
-- incomplete line after them.
use Rattle.cif_laws.proofs.Common.{ℕ, ◌<◌, List, length, Bool, arith, ◌≡◌, ◌+◌, ◌∷◌, ◌++◌, refl, ap, sym, rules, [], ◌∙◌, map, append-nil, ◌≤◌, length-append}
use Rattle.cif_laws.proofs.Common.{◌==◌, nat_le, slice_split, strip_carriage_return, map-append, length-map, length-slice_split, slice_split-cons_yes}
use Rattle.cif_laws.proofs.Common.{slice_split_none, Lines, without_empty_last, lines_of, complete_lines, sure_lines}
use Rattle.std.specs.Prelude.{if◌then◌else◌}
use Rattle.std.specs.List.{onto_first}
use Rattle.std.proofs.lemmas.List.Splits.{slice_split-cons_no, slice_split_at}
use Rattle.docker_model.specs.file.Text.{last_piece, but_last, pieces_of}
use Rattle.docker_model.specs.file.FaultSoFar.{last_of}
use Rattle.cif_laws.specs.CompleteLines.{open_line, line_left, feeds, HasNoFeed}

-- ---- how the pieces of a text change when bytes are appended

some_pieces : (p : ℕ → Bool) (text : List ℕ) → 0 < length (slice_split p text)
some_pieces p text = let size = length-slice_split p text in omega arith

without_last : (pieces : Lines) → without_empty_last pieces ≡ but_last pieces ++ last_piece (last_of pieces)
without_last [] = refl
without_last (piece ∷ []) = refl
without_last (piece ∷ next ∷ pieces) = ap (λ rest. piece ∷ rest) (without_last (next ∷ pieces))

length_but_last : (pieces : Lines) → 0 < length pieces → length (but_last pieces) + 1 ≡ length pieces
length_but_last [] some = absurd (omega arith)
length_but_last (piece ∷ []) some = refl
length_but_last (piece ∷ next ∷ pieces) some = let rest = length_but_last (next ∷ pieces) (omega arith) in omega arith

but_last_append : (front : Lines) (piece : List ℕ) (pieces : Lines) → but_last (front ++ piece ∷ pieces) ≡ front ++ but_last (piece ∷ pieces)
but_last_append [] piece pieces = refl
but_last_append (first ∷ []) piece pieces = refl
but_last_append (first ∷ second ∷ front) piece pieces = ap (λ rest. first ∷ rest) (but_last_append (second ∷ front) piece pieces)

last_of_append : (front : Lines) (piece : List ℕ) (pieces : Lines) → last_of (front ++ piece ∷ pieces) ≡ last_of (piece ∷ pieces)
last_of_append [] piece pieces = refl
last_of_append (first ∷ []) piece pieces = refl
last_of_append (first ∷ second ∷ front) piece pieces = last_of_append (second ∷ front) piece pieces

without_last_append : (front : Lines) (piece : List ℕ) (pieces : Lines) → without_empty_last (front ++ piece ∷ pieces) ≡ front ++ without_empty_last
    (piece ∷ pieces)
without_last_append [] piece pieces = refl
without_last_append (first ∷ []) piece pieces = refl
without_last_append (first ∷ second ∷ front) piece pieces = ap (λ rest. first ∷ rest) (without_last_append (second ∷ front) piece pieces)

-- the pieces of a split text, after these bytes are put in front of the first piece
abbrev pub going_on : List ℕ → Lines → Lines
going_on bytes [] = bytes ∷ []
going_on bytes (piece ∷ pieces) = (bytes ++ piece) ∷ pieces

at_feed : (pieces more : Lines) → 0 < length pieces → [] ∷ (but_last pieces ++ going_on (last_of pieces) more) ≡ but_last ([] ∷ pieces) ++ going_on
    (last_of ([] ∷ pieces)) more
at_feed = search rules

at_byte : (b : ℕ) (pieces more : Lines) → 0 < length pieces
    → onto_first b (but_last pieces ++ going_on (last_of pieces) more) ≡ but_last (onto_first b pieces) ++ going_on (last_of (onto_first b pieces)) more
at_byte = search rules

go_on_empty : (pieces : Lines) → 0 < length pieces → pieces ≡ going_on [] pieces
go_on_empty = search rules

-- suppose that a text and the bytes `more` are each split into pieces. When `more` is appended to
-- the text, the first piece of `more` extends the last piece of the text. The other pieces of
-- `more` follow
pub split_append : (p : ℕ → Bool) (text more : List ℕ) → slice_split p (text ++ more) ≡ but_last (slice_split p text) ++ going_on (last_of (slice_split p text))
    (slice_split p more)
split_append p [] more = go_on_empty (slice_split p more) (some_pieces p more)
split_append p (b ∷ text) more = grind (arith, slice_split-cons_yes, at_feed, some_pieces, slice_split-cons_no, at_byte, (split_append p text more))

-- ---- the lines of a text are its complete lines and its incomplete line

-- the lines of a text are its complete lines, followed by the incomplete line if it isn't empty
pub lines_of_told : (text : List ℕ) → lines_of text ≡ complete_lines text ++ line_left (open_line text)
lines_of_told = search (rules, without_last, map-append)

-- if the incomplete line is empty, the lines of a text are its complete lines
pub lines_of_ended : (text : List ℕ) → open_line text ≡ [] → lines_of text ≡ complete_lines text
lines_of_ended text none = lines_of_told text ∙ (λ i. complete_lines text ++ line_left (none i)) ∙ append-nil (complete_lines text)

line_left_some : (piece : List ℕ) → 0 < length piece → line_left piece ≡ strip_carriage_return piece ∷ []
line_left_some = search rules

-- an incomplete line that isn't empty is the last line of the text
pub lines_of_open : (text : List ℕ) → 0 < length (open_line text) → lines_of text ≡ complete_lines text ++ strip_carriage_return (open_line text) ∷ []
lines_of_open text some = lines_of_told text ∙ ap (λ lines. complete_lines text ++ lines) (line_left_some (open_line text) some)

-- the number of complete lines equals the number of line feeds
pub length_complete_lines : (text : List ℕ) → length (complete_lines text) ≡ feeds text
length_complete_lines = search (rules, length-slice_split, length_but_last, some_pieces, length-map)

-- `sure_lines` is the number of complete lines, plus one if the incomplete line has more than 81
-- bytes
pub sure_lines_is : (text : List ℕ) → sure_lines text ≡ length (complete_lines text) + (if nat_le 82 (length (open_line text)) then 1 else 0)
sure_lines_is text = ap (λ n. n + (if nat_le 82 (length (open_line text)) then 1 else 0)) (sym (length_complete_lines text))

-- ---- bytes extend the incomplete line, and a line feed completes it

-- appending bytes without a line feed leaves the complete lines unchanged
pub complete_lines_plain : (text piece : List ℕ) → HasNoFeed piece → complete_lines (text ++ piece) ≡ complete_lines text
complete_lines_plain = search (rules, split_append, slice_split_none, but_last_append, append-nil)

-- appending bytes without a line feed to a text appends these bytes to the text's incomplete line
pub open_line_plain : (text piece : List ℕ) → HasNoFeed piece → open_line (text ++ piece) ≡ open_line text ++ piece
open_line_plain = search (rules, split_append, slice_split_none, last_of_append)

pieces_cut : (text front rest : List ℕ) → HasNoFeed front → pieces_of (text ++ (front ++ 10 ∷ rest)) ≡ but_last (pieces_of text) ++
    (open_line text ++ front) ∷ pieces_of rest
pieces_cut = search (rules, split_append, slice_split_at)

but_first : (piece : List ℕ) (pieces : Lines) → 0 < length pieces → but_last (piece ∷ pieces) ≡ piece ∷ but_last pieces
but_first = search rules

last_rest : (piece : List ℕ) (pieces : Lines) → 0 < length pieces → last_of (piece ∷ pieces) ≡ last_of pieces
last_rest = search rules

-- if the appended bytes contain a line feed, the bytes before the first line feed complete the
-- incomplete line. Then come the complete lines of the bytes after this line feed
pub complete_lines_cut : (text front rest : List ℕ) → HasNoFeed front
    → complete_lines (text ++ (front ++ 10 ∷ rest)) ≡ complete_lines text ++ strip_carriage_return (open_line text ++ front) ∷ complete_lines rest
complete_lines_cut = search (rules, pieces_cut, but_last_append, but_first, some_pieces, map-append)

-- after bytes with a line feed are appended, the incomplete line of the text is the incomplete line
-- of the bytes after the first line feed
pub open_line_cut : (text front rest : List ℕ) → HasNoFeed front → open_line (text ++ (front ++ 10 ∷ rest)) ≡ open_line rest
open_line_cut = search (rules, pieces_cut, last_of_append, last_rest, some_pieces)

-- like `complete_lines_cut`, for bytes whose only line feed is the last byte
pub complete_lines_ended : (text front : List ℕ) → HasNoFeed front → complete_lines (text ++ (front ++ 10 ∷ [])) ≡ complete_lines text ++ strip_carriage_return
    (open_line text ++ front) ∷ []
complete_lines_ended text front plain = complete_lines_cut text front [] plain

-- if a text ends with a line feed, its incomplete line is empty
pub open_line_ended : (text front : List ℕ) → HasNoFeed front → open_line (text ++ (front ++ 10 ∷ [])) ≡ []
open_line_ended text front plain = open_line_cut text front [] plain

-- ---- appending bytes preserves the complete lines

-- when the bytes `more` are appended to a text, the bytes before the first line feed in `more`
-- extend the incomplete line. Each line feed in `more` completes a line
pub record GoesOn (text more : List ℕ) : Type 0 where
  pub first : List ℕ
  pub pieces : Lines
  pub lines : lines_of (text ++ more) ≡ complete_lines text ++ map strip_carriage_return (without_empty_last ((open_line text ++ first) ∷ pieces))
  pub told : complete_lines (text ++ more) ≡ complete_lines text ++ map strip_carriage_return (but_last ((open_line text ++ first) ∷ pieces))
  pub open_is : open_line (text ++ more) ≡ last_of ((open_line text ++ first) ∷ pieces)

-- `GoesOn` is true for any text and any appended bytes. The bytes before the first line feed extend
-- the incomplete line, and each line feed completes a line
pub goes_on : (text more : List ℕ) → GoesOn text more
goes_on text more = by (slice_split (λ b. b == 10) more) refl
  where
    by : (pieces : Lines) → pieces_of more ≡ pieces → GoesOn text more
    by [] h = let some = some_pieces (λ b. b == 10) more in let none = ap length h in absurd (omega arith)
    by (first ∷ pieces) h = record {
      first = first;
      pieces = pieces;
      lines = search (rules, whole, without_last_append, map-append);
      told = search (rules, whole, but_last_append, map-append);
      open_is = ap last_of whole ∙ last_of_append (but_last (pieces_of text)) (open_line text ++ first) pieces;
    }
      where
        whole : pieces_of (text ++ more) ≡ but_last (pieces_of text) ++ (open_line text ++ first) ∷ pieces
        whole = split_append (λ b. b == 10) text more ∙ (λ i. but_last (pieces_of text) ++ going_on (open_line text) (h i))

-- the complete lines of a text are a prefix of the complete lines of the same text with more bytes
-- appended
pub complete_lines_stay : (text more : List ℕ) → (others : Lines) × (complete_lines (text ++ more) ≡ complete_lines text ++ others)
complete_lines_stay text more = let on = goes_on text more in (map strip_carriage_return (but_last ((open_line text ++ on.first) ∷ on.pieces)), on.told)

-- appending bytes never lowers the number of lines that `sure_lines` counts
pub sure_lines_grow : (text more : List ℕ) → sure_lines text ≤ sure_lines (text ++ more)
sure_lines_grow text more = by on.pieces on.told on.open_is
  where
    on : GoesOn text more
    on = goes_on text more

    by : (pieces : Lines) → complete_lines (text ++ more) ≡ complete_lines text ++ map strip_carriage_return (but_last ((open_line text ++ on.first) ∷ pieces))
        → open_line (text ++ more) ≡ last_of ((open_line text ++ on.first) ∷ pieces) → sure_lines text ≤ sure_lines (text ++ more)
    by [] told last = search (rules, sure_lines_is, length-append)
    by (next ∷ pieces) told last = search (rules, sure_lines_is, length-append, on.first)
