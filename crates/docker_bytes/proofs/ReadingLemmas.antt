-- Reading the text of a state part by part.
use Rattle.std.proofs.Common.{◌≡◌, ℕ, suc, ◌+◌, ◌-◌, ◌<◌, ◌≤◌, List, [], ◌∷◌, ◌++◌, length, take, get_or, ap, sym, ◌∙◌, ◌⊎◌, arith, true, false, nat_le}
use Rattle.std.proofs.Common.{append_assoc, append-nil, length-append, Some, None, rules, Option}
use Rattle.docker_model.specs.file.Change.{ScheduleKey}
use Rattle.docker_model.specs.state.Stamp.{Stamp, LedgerItem}
use Rattle.docker_model.specs.state.State.{State}
use Rattle.docker_model.specs.state.StateText.{Format}
use Rattle.docker_model.specs.state.StateFault.{StateCause, too_short, IsBadPart}
use Rattle.docker_model.specs.state.StatePart.{EntryPart, Before}
use Rattle.docker_model.specs.state.StatePart.{in_entry}
use Rattle.docker_model.specs.state.StatePart.{items_before, parts_before, text_before, width, AreGood}
use Rattle.state_laws.proofs.texts.StateBytes.{AreBytes}
use Rattle.state_laws.proofs.texts.StateFaultStays.{bad_part_stays, long_stays}
use Rattle.std.proofs.Math.Seq.{take-append_seam}
use Rattle.state_laws.specs.TextStage.{advance, after_mark, after_items, after_entries, after_lines}
use Rattle.state_laws.proofs.texts.PartJudged.{Good, judge}
use Rattle.docker_bytes.specs.declared.reading.StateReading.{StateReading}
use Rattle.state_text.specs.FaultMeaning.{IsBadHere}
use Rattle.state_text.specs.Stage.{begins_item, LeadsTo}
use Rattle.docker_bytes.specs.StateReading.{format_of, before_of, text_of, IsReading, ReadsOn, IsCauseSoFar, IsOpen}

-- the bytes of a piece before `rest`. `rest` contains the last bytes of the piece, which haven't
-- been read yet
abbrev pub before_rest : List ℕ → List ℕ → List ℕ
before_rest piece rest = take (length piece - length rest) piece

-- if the next part is the first part of an item, no part of this item has been read
pub no_parts : (before : Before) → begins_item before ≡ true → parts_before before ≡ []
no_parts = search rules

-- ---- a part within an item leaves the complete items unchanged

begins : (format : Format) (before after : Before) → begins_item after ≡ true → begins_item after ≡ false
    → items_before format after ≡ items_before format before
begins format before after first inner = let both : true ≡ false = sym first ∙ inner in cc

mark_begins : (format : Format) → begins_item (after_mark format) ≡ true
mark_begins = search rules

entries_begin : (count : ℕ) (state : State) → begins_item (after_entries count state) ≡ true
entries_begin = search (rules, nat_le)

items_begin : (horizon count : ℕ) (ledger : List LedgerItem) → begins_item (after_items horizon count ledger) ≡ true
items_begin = search (rules, nat_le)

lines_stay : (format : Format) (count : ℕ) (state : State) (key : ScheduleKey) (stamp : Stamp) (n : ℕ) (lines : List (List ℕ)) (part : EntryPart)
    → begins_item (after_lines count state key stamp n lines) ≡ false
    → items_before format (after_lines count state key stamp n lines) ≡ items_before format (in_entry count state part)
lines_stay = search (rules, nat_le, begins, entries_begin)

-- if the part that follows doesn't begin an item, the complete items are unchanged
pub items_stay : (format : Format) (before : Before) (bytes : List ℕ) → begins_item (advance format before bytes) ≡ false
    → items_before format (advance format before bytes) ≡ items_before format before
items_stay = search (rules, begins, mark_begins, items_begin, entries_begin, lines_stay)

-- ---- reading one part

bytes_are : (bytes : List ℕ) → ((i : ℕ) → get_or bytes i 0 < 256) → AreBytes bytes
bytes_are [] small = tt
bytes_are (b ∷ bytes) small = (small 0, bytes_are bytes (λ i. small (suc i)))

good_next : (format : Format) (before : Before) (bytes : List ℕ) → AreGood format before → 0 < length bytes → length bytes ≡ width before
    → ((i : ℕ) → get_or bytes i 0 < 256)
    → ((cause : StateCause) → ¬ IsBadPart format before bytes cause) → Good format before bytes
good_next = search (rules, judge, bytes_are)

-- if a part isn't bad, the text up to the part's end has been read
pub part_read : {K : Type 0} (old new : StateReading K) (bytes : List ℕ) → IsReading old → old.partial.items ≡ []
    → length bytes ≡ width (before_of old) → 0 < length bytes → ((i : ℕ) → get_or bytes i 0 < 256)
    → old.reached + length bytes ≤ old.limit → LeadsTo (format_of old) (before_of old) bytes new.stage new.parts new.lines → new.partial.items ≡ []
    → new.reached ≡ old.reached + length bytes → new.limit ≡ old.limit → format_of new ≡ format_of old
    → (begins_item (before_of new) ≡ true) × (new.item_at ≡ new.reached) ⊎ (begins_item (before_of new) ≡ false) × (new.item_at ≡ old.item_at)
    → ReadsOn old new bytes
part_read = search (rules, good_next, length-append, append-nil, no_parts, items_stay)

-- if a part that ends with these bytes is bad, or if there was no memory for it, a reader may
-- return a fault with this cause and offset
pub part_refused : {K : Type 0} (old : StateReading K) (front bytes : List ℕ) (at : ℕ) (cause : Option StateCause) → IsReading old
    → bytes ≡ old.partial.items ++ front → length bytes ≡ width (before_of old)
    → 0 < length front → old.reached + length bytes ≤ old.limit → at ≡ old.item_at → IsBadHere (format_of old) (before_of old) bytes cause
    → IsCauseSoFar (format_of old) old.limit (text_of old) front at cause
part_refused = search (rules, append_assoc, append-nil, length-append)

-- ---- reading a piece

-- if a fault may be returned for the first bytes of a piece, it may be returned for the whole piece
pub told_stays : (format : Format) (limit : ℕ) (text read front behind : List ℕ) (at : ℕ) (cause : Option StateCause)
    → IsCauseSoFar format limit (text ++ read) front at cause
    → IsCauseSoFar format limit text ((read ++ front) ++ behind) at cause
told_stays format limit text read front behind at None = λ wanting.
    let whole = append_assoc (text_before format wanting.before ++ wanting.bytes) wanting.rest behind in
    let all : text ++ ((read ++ front) ++ behind) ≡ ((text ++ read) ++ front) ++ behind = search (rules, append_assoc) in
    search (rules, length-append, (all ∙ ap (λ xs. xs ++ behind) wanting.whole ∙ whole))
told_stays format limit text read front behind at (Some told) =
    let all : text ++ ((read ++ front) ++ behind) ≡ ((text ++ read) ++ front) ++ behind = search (rules, append_assoc) in
    rw all (search (rules, bad_part_stays, long_stays))

-- if bytes are taken from the front of the rest, they are appended to the bytes before the rest
pub rest_more : (piece rest front behind : List ℕ) → before_rest piece rest ++ rest ≡ piece → rest ≡ front ++ behind
    → (before_rest piece behind ≡ before_rest piece rest ++ front) × (before_rest piece behind ++ behind ≡ piece)
rest_more piece rest front behind whole split = (now, ap (λ xs. xs ++ behind) now ∙ all)
  where
    all : (before_rest piece rest ++ front) ++ behind ≡ piece
    all = append_assoc (before_rest piece rest) front behind ∙ ap (λ xs. before_rest piece rest ++ xs) (sym split) ∙ whole

    now : before_rest piece behind ≡ before_rest piece rest ++ front
    now =
        let size = sym (ap length all) ∙ length-append (before_rest piece rest ++ front) behind in
        let count : length piece - length behind ≡ length (before_rest piece rest ++ front) = omega arith in
        ap (λ n. take n piece) count ∙ ap (take (length (before_rest piece rest ++ front))) (sym all)
        ∙ take-append_seam (before_rest piece rest ++ front) behind

-- if the rest is the whole piece, there are no bytes before the rest
pub rest_first : (piece : List ℕ) → (before_rest piece piece ≡ []) × (before_rest piece piece ++ piece ≡ piece)
rest_first = search rules

-- if the rest is the whole piece, no byte of the piece has been read
pub reads_none : {K : Type 0} (now : StateReading K) (piece : List ℕ) → IsReading now → ReadsOn now now (before_rest piece piece)
reads_none = search (rules, rest_first, append-nil)

module _ {K : Type 0} (initial now : StateReading K) (piece rest : List ℕ) (whole : before_rest piece rest ++ rest ≡ piece)
    (on : ReadsOn initial now (before_rest piece rest)) where
  -- the text that was read, followed by the rest, equals the text before the piece, followed by
  -- the piece
  pub all_text : text_of now ++ rest ≡ text_of initial ++ piece
  all_text = ap (λ xs. xs ++ rest) on.text ∙ append_assoc (text_of initial) (before_rest piece rest) rest ∙ ap (λ xs. text_of initial ++ xs) whole

  -- if a fault may be returned for the first bytes of the rest, it may be returned for the whole
  -- piece
  pub told_of_piece : (front behind : List ℕ) (at : ℕ) (cause : Option StateCause) → rest ≡ front ++ behind
      → IsCauseSoFar (format_of now) now.limit (text_of now) front at cause
      → IsCauseSoFar (format_of initial) initial.limit (text_of initial) piece at cause
  told_of_piece front behind at cause split told =
      let all = rest_more _ _ _ _ whole split in
      let parted : (before_rest piece rest ++ front) ++ behind ≡ piece = ap (λ xs. xs ++ behind) (sym all.0) ∙ all.1 in
      rw (← parted) (told_stays _ _ _ _ _ _ _ _ (rw (on.text, on.format, on.limit) at told))

  -- if the first bytes of the rest were read, the piece was read up to the end of these bytes
  pub reads_further : (next : StateReading K) (front behind : List ℕ) → rest ≡ front ++ behind → ReadsOn now next front
      → ReadsOn initial next (before_rest piece behind)
  reads_further = search (rules, append_assoc, rest_more)

  -- if the rest ends before the next part ends, the state needs more bytes after the piece
  pub open_text : (next : StateReading K) → length now.partial.items + length rest < width (before_of now) → ReadsOn now next rest
      → IsOpen (format_of initial) initial.limit (text_of initial ++ piece)
  open_text next short further = rw (← all_text, ← on.format, ← on.limit) (
    record { at = length (items_before (format_of now) (before_of now)); cause = too_short },
    search (rules, append_assoc, length-append),
  )
