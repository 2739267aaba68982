-- Records are the lines of a text if and only if the text consists of these records, each with its
-- line end.
use Rattle.cif_laws.proofs.Common.{◌≡◌, ℕ, ◌-◌, ◌<◌, ◌≤◌, ◌⊎◌, List, ◌∷◌, ◌++◌, length, map, take, refl, ap, sym, ◌∙◌, subst, rules, [], common_steps, inl, inr}
use Rattle.cif_laws.proofs.Common.{true, false, arith, All, eqb-true, append_assoc, append-nil, length-append, ◌↔◌, ◌==◌, slice_index, ◌≢◌, slice_split}
use Rattle.cif_laws.proofs.Common.{AllByRecursion, AllPass, strip_carriage_return, slice_split_none, length-slice_split, leb-true, eqb_tells}
use Rattle.cif_laws.proofs.Common.{recursion_from_All, take-append_seam, get_or-append_seam, is_printable, IsRecord, without_empty_last, lines_of}
use Rattle.std.specs.List.{join_with_byte}
use Rattle.std.proofs.lemmas.List.Splits.{join_with_byte-slice_split, slice_split_at}
use Rattle.cif_laws.specs.RecordText.{IsLineEnd, IsLastLineEnd, IsTextOf}

-- if the last byte of a list is 13, the list consists of the bytes before its last byte, followed
-- by 13
last_is : (bytes : List ℕ) → slice_index bytes (length bytes - 1) ≡ 13 → bytes ≡ take (length bytes - 1) bytes ++ 13 ∷ []
last_is [] h = absurd (omega arith)
last_is (x ∷ []) h = λ i. h i ∷ []
last_is (x ∷ y ∷ bytes) h = grind (common_steps, arith, (last_is (y ∷ bytes)))

-- a piece of a split text is a line by itself, or a line followed by a carriage return
piece_is : (piece : List ℕ) → (piece ≡ strip_carriage_return piece) ⊎ (piece ≡ strip_carriage_return piece ++ 13 ∷ [])
piece_is = search (rules, last_is, eqb-true)

-- suppose that a text consists of `lines`. If a piece and a line feed are put in front of the text,
-- the new text consists of the piece's line, followed by `lines`
one_more : (piece : List ℕ) (lines : List (List ℕ)) (rest : List ℕ) → IsTextOf lines rest → IsTextOf (strip_carriage_return piece ∷ lines) (piece ++ 10 ∷ rest)
one_more piece [] rest told = elim (piece_is _) [
  | inl e ↦ (10 ∷ [], inl (inl refl), λ i. e i ++ 10 ∷ told i)
  | inr e ↦ (13 ∷ 10 ∷ [], inl (inr refl), (λ i. e i ++ 10 ∷ told i) ∙ append_assoc (strip_carriage_return piece) (13 ∷ []) (10 ∷ []))
]
one_more piece (line ∷ lines) rest told = elim (piece_is _) [
  | inl e ↦ (10 ∷ [], rest, inl refl, (λ i. e i ++ 10 ∷ rest) ∙ sym (append_assoc (strip_carriage_return piece) (10 ∷ []) rest), told)
  | inr e ↦ (13 ∷ 10 ∷ [], rest, inr refl, search (rules, append_assoc), told)
]

-- a text that is made by joining pieces with line feeds consists of these pieces, without their
-- carriage returns
pieces_text : (pieces : List (List ℕ)) → IsTextOf (map strip_carriage_return (without_empty_last pieces)) (join_with_byte 10 pieces)
pieces_text [] = refl
pieces_text ([] ∷ []) = refl
pieces_text ((b ∷ bytes) ∷ []) = elim (piece_is (b ∷ bytes)) [
  | inl e ↦ ([], inr (inr refl), e ∙ sym (append-nil (strip_carriage_return (b ∷ bytes))))
  | inr e ↦ (13 ∷ [], inr (inl refl), e)
]
pieces_text (piece ∷ next ∷ pieces) = grind (arith, one_more, (pieces_text (next ∷ pieces)))

-- each text consists of its lines
pub text_of_lines : (text : List ℕ) → IsTextOf (lines_of text) text
text_of_lines text = subst (IsTextOf (lines_of text)) (join_with_byte-slice_split 10 text) (pieces_text (slice_split (λ b. b == 10) text))

-- a plain line isn't empty, has no line feed, and doesn't end with a carriage return. So the line
-- is unchanged when a text is split into lines
pub record IsPlain (line : List ℕ) : Type 0 where
  pub some : 0 < length line
  pub no_feed : All (λ b. (b == 10) ≡ false) line
  pub no_feed_behind : All (λ b. (b == 10) ≡ false) (line ++ 13 ∷ [])
  pub stays : strip_carriage_return line ≡ line
  pub strips : strip_carriage_return (line ++ 13 ∷ []) ≡ line

keeps_first : (piece : List ℕ) (pieces : List (List ℕ)) → 0 < length pieces → without_empty_last (piece ∷ pieces) ≡ piece ∷ without_empty_last pieces
keeps_first = search rules

-- if a text begins with a piece and a line feed, its first line is this piece, without a carriage
-- return at its end
lines_after : (piece rest : List ℕ) → All (λ b. (b == 10) ≡ false) piece → lines_of (piece ++ 10 ∷ rest) ≡ strip_carriage_return piece ∷ lines_of rest
lines_after = search (rules, slice_split_at, length-slice_split, keeps_first)

lines_last : (piece : List ℕ) → All (λ b. (b == 10) ≡ false) piece → 0 < length piece → lines_of piece ≡ strip_carriage_return piece ∷ []
lines_last = search (rules, slice_split_none)

-- if a text begins with a plain line and a line end, its first line is this plain line
lines_one : (line rest end : List ℕ) → IsPlain line → IsLineEnd end → lines_of ((line ++ end) ++ rest) ≡ line ∷ lines_of rest
lines_one line rest end plain (inl e) = search (rules, append_assoc, lines_after)
lines_one line rest end plain (inr e) =
    (λ i. lines_of ((line ++ e i) ++ rest)) ∙ ap lines_of (append_assoc line (13 ∷ 10 ∷ []) rest ∙ sym (append_assoc line (13 ∷ []) (10 ∷ rest)))
    ∙ lines_after (line ++ 13 ∷ []) rest plain.no_feed_behind ∙ (λ i. plain.strips i ∷ lines_of rest)

lines_end : (line end : List ℕ) → IsPlain line → IsLastLineEnd end → lines_of (line ++ end) ≡ line ∷ []
lines_end line end plain (inl e) = ap lines_of (sym (append-nil (line ++ end))) ∙ lines_one line [] end plain e
lines_end line end plain (inr (inl e)) = search (rules, length-append, lines_last)
lines_end line end plain (inr (inr e)) = search (rules, append-nil, lines_last)

-- the lines of a text that consists of plain lines are these plain lines
pub lines_of_text : (lines : List (List ℕ)) (text : List ℕ) → AllByRecursion IsPlain lines → IsTextOf lines text → lines_of text ≡ lines
lines_of_text [] text plain told = ap lines_of told
lines_of_text (line ∷ []) text plain told = ap lines_of told.2 ∙ lines_end line told.0 plain.0 told.1
lines_of_text (line ∷ next ∷ lines) text plain told = grind (arith, lines_one, (lines_of_text (next ∷ lines) told.1 plain.1 told.4))

-- the test `==` fails for different numbers
not_equal : (a b : ℕ) → a ≢ b → (a == b) ≡ false
not_equal = search (rules, eqb_tells)

printable_is : (b : ℕ) → is_printable b ≡ true → 32 ≤ b
printable_is = search (rules, leb-true)

no_feed_in : (line : List ℕ) → AllPass is_printable line → AllByRecursion (λ b. (b == 10) ≡ false) line
no_feed_in = search (rules, recursion_from_All, printable_is, not_equal)

with_return : (bytes : List ℕ) → AllByRecursion (λ b. (b == 10) ≡ false) bytes → AllByRecursion (λ b. (b == 10) ≡ false) (bytes ++ 13 ∷ [])
with_return = grind (common_steps, arith)

strip_return : (line : List ℕ) → strip_carriage_return (line ++ 13 ∷ []) ≡ line
strip_return = grind (common_steps, arith, length-append, get_or-append_seam, take-append_seam)

strip_stays : (line : List ℕ) → 0 < length line → AllPass is_printable line → strip_carriage_return line ≡ line
strip_stays = search (rules, printable_is, not_equal)

-- a record is a plain line
pub IsRecord-IsPlain : (line : List ℕ) → IsRecord line → IsPlain line
IsRecord-IsPlain = grind (common_steps, arith, no_feed_in, with_return, strip_stays, strip_return)

records_plain : (lines : List (List ℕ)) → AllByRecursion IsRecord lines → AllByRecursion IsPlain lines
records_plain [] all = tt
records_plain (line ∷ lines) all = (IsRecord-IsPlain line all.0, records_plain lines all.1)

-- records are the lines of a text if and only if the text consists of these records
pub text_iff_lines : (records : List (List ℕ)) (text : List ℕ) → All IsRecord records → IsTextOf records text ↔ (lines_of text ≡ records)
text_iff_lines = search (rules, lines_of_text, records_plain, recursion_from_All, text_of_lines)
