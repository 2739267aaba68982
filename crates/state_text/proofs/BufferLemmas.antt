-- Lemmas on pieces of a text that are written, one after the other, to a sink through a buffer. `Gathers` says that a piece was written through the buffer: its
-- bytes are in the buffer or have gone from the buffer to the sink.
use Rattle.cif_laws.proofs.Common.{◌≡◌, ℕ, ◌+◌, ◌<◌, List, [], ◌∷◌, ◌++◌, length, take, drop, get_or, map, ap, sym, ◌∙◌, rules, subst, arith, append_assoc}
use Rattle.cif_laws.proofs.Common.{append-nil, length-append, Ok, Err, Result, Option, IsErr, IsErrAnd, OnOk, OnErr, flat_map, take-append-le, take-append-drop}
use Rattle.cif_laws.proofs.Common.{take_more, map-append, flat_map-append, common_steps, take-append-add}
use Rattle.cif_device.proofs.DeviceLemmas.{counts_error, Takes-append}
use Rattle.cif_device.specs.Device.{CountsFailure, Takes, TakesPart}
use Rattle.state_text.specs.Written.{Gathers, Gives, Flushes}

-- the bytes that a sink has taken, or `None` for a sink whose contract doesn't say which bytes it has taken
abbrev Told : Type 0
Told = Option (List ℕ)

-- ---- pieces that were written through the buffer

-- appending a piece to the buffer writes it through the buffer: its bytes are in the buffer or the sink
gathers_add : (start : Told) (held piece more : List ℕ) → more ≡ held ++ piece → Gathers start held piece start more
gathers_add = search (rules, append-nil)

-- writing two pieces through the buffer, one after the other, writes their concatenation through the buffer
pub gathers_then : (a : Told) (b p : List ℕ) (c : Told) (d q : List ℕ) (e : Told) (f : List ℕ)
    → Gathers a b p c d → Gathers c d q e f → Gathers a b (p ++ q) e f
gathers_then a b p c d q e f first second = (
  first.0 ++ second.0,
  append_assoc first.0 second.0 f ∙ ap (λ xs. first.0 ++ xs) second.1 ∙ sym (append_assoc first.0 d q)
      ∙ ap (λ xs. xs ++ q) first.1 ∙ append_assoc b p q,
  Takes-append a _ _ first.0 _ first.2 second.2,
)

-- if a sink took a proper prefix of x, it took a proper prefix of x ++ y
part_longer : (a : Told) (x y : List ℕ) (e : Told) → TakesPart a x e → TakesPart a (x ++ y) e
part_longer = search (rules, length-append, take-append-le)

-- suppose that the buffer holds b at first, and that p is written through the buffer. If the sink
-- then takes a proper prefix of the buffer's bytes and q, it has taken a proper prefix of b ++ p ++
-- q in all
gathers_part : (a : Told) (b p : List ℕ) (c : Told) (d q : List ℕ) (e : Told)
    → Gathers a b p c d → TakesPart c (d ++ q) e → TakesPart a (b ++ (p ++ q)) e
gathers_part a b p c d q e first part =
    let whole : first.0 ++ (d ++ q) ≡ b ++ (p ++ q) = sym (append_assoc first.0 d q) ∙ ap (λ xs. xs ++ q) first.1 ∙ append_assoc b p q in
    let size = sym (length-append first.0 (d ++ q)) ∙ ap length whole in
    let below = part.1 in
    let same = sym (take-append-add _ _ _) ∙ ap (take (length first.0 + part.0)) whole in (
      length first.0 + part.0,
      omega arith,
      subst (λ xs. Takes a xs e) same (Takes-append a _ _ first.0 _ first.2 part.2),
    )

-- ---- what a result says about the sink

module _ {S A E : Type 0} (taken : S → Told) (failures : S → ℕ) where
  -- flushing the buffer has the effect of writing an empty piece through the buffer
  pub flush_gives : (old new : S) (held holds : List ℕ) (result : Result A E) → Flushes taken failures old held result new
      → OnOk result (holds ≡ []) → Gives taken failures old held [] result new holds
  flush_gives = search (rules, append-nil)

  -- suppose that a piece was written through the buffer, and that the next piece is to be written.
  -- If this succeeds, both pieces are written through the buffer. If it fails, writing their
  -- concatenation fails
  pub then_gives : (old mid new : S) (b p d q h : List ℕ) (result : Result A E) → Gathers (taken old) b p (taken mid) d
      → failures mid ≡ failures old → Gives taken failures mid d q result new h → Gives taken failures old b (p ++ q) result new h
  then_gives old mid new b p d q h (Ok done) first same second = search (rules, gathers_then)
  then_gives old mid new b p d q h (Err failed) first same second = search (rules, gathers_part)

  -- a failure while writing the first of two pieces counts as a failure while writing their concatenation
  pub fails_first : (old new : S) (b p q holds : List ℕ) (result : Result A E) (Q : E → Type 0) → IsErrAnd result Q
      → TakesPart (taken old) (b ++ p) (taken new) × (failures new ≡ failures old + 1)
      → Gives taken failures old b (p ++ q) result new holds
  fails_first = grind (common_steps, arith, append_assoc, part_longer)

  -- if a write succeeds, the sink takes all bytes and counts no failure. If it fails, the sink
  -- takes a proper prefix of the bytes and counts one failure
  pub flushed : (old new : S) (bytes : List ℕ) (result : Result A E) → Flushes taken failures old bytes result new
      → OnOk result (Takes (taken old) bytes (taken new)) × OnErr result (TakesPart (taken old) bytes (taken new))
      × CountsFailure (IsErr result) (failures old) (failures new)
  flushed = search (rules, counts_error)

  -- if a text was written to the buffer, and the buffer is then flushed, the sink takes the text in full or in part
  pub flush_written : (old mid new : S) (b p d whole : List ℕ) (result : Result A E) → Gathers (taken old) b p (taken mid) d
      → failures mid ≡ failures old → b ++ p ≡ whole → Flushes taken failures mid d result new → Flushes taken failures old whole result new
  flush_written old mid new b p d whole (Ok done) first same is second = search (rules, Takes-append)
  flush_written old mid new b p d whole (Err failed) first same is second =
      let part = simp append-nil at (gathers_part (taken old) b p (taken mid) d [] (taken new) first) in
      (subst (λ xs. TakesPart (taken old) xs (taken new)) is (part second.0), second.1 ∙ ap (λ n. n + 1) same)

  -- if a write fails while a text is written through the buffer, the sink takes only a part of the text
  pub part_written : (old new : S) (b p whole : List ℕ) (result : Result A E) (Q : E → Type 0) → IsErrAnd result Q → b ++ p ≡ whole
      → TakesPart (taken old) (b ++ p) (taken new) × (failures new ≡ failures old + 1) → Flushes taken failures old whole result new
  part_written = search rules

module _ {S X E : Type 0} (taken : S → Told) (failures : S → ℕ) (old first second : S) (b d p q r whole : List ℕ) (result : Result X E)
    (is : p ++ q ++ r ≡ whole) (one : Gathers (taken old) b p (taken first) d) (same : failures first ≡ failures old) where
  -- if the first of three pieces was written through the buffer, a failure while writing the second
  -- counts as a failure while writing all three
  pub second_fails : (holds : List ℕ) (Q : E → Type 0) → IsErrAnd result Q
      → TakesPart (taken first) (d ++ q) (taken second) × (failures second ≡ failures first + 1) → Gives taken failures old b whole result second holds
  second_fails holds Q fails part = subst (λ xs. Gives taken failures old b xs result second holds) is
      (fails_first taken failures old second b (p ++ q) r holds result Q fails (gathers_part _ _ _ _ _ _ _ one part.0, part.1 ∙ ap (λ n. n + 1) same))

  -- if two of three pieces were written through the buffer, writing the third has the same result
  -- as writing all three
  pub third_gives : (third : S) (f h : List ℕ) → Gathers (taken first) d q (taken second) f × (failures second ≡ failures first)
      → Gives taken failures second f r result third h → Gives taken failures old b whole result third h
  third_gives third f h two rest = subst (λ xs. Gives taken failures old b xs result third h) is
      (then_gives taken failures old second third b (p ++ q) f r h result (gathers_then _ _ _ _ _ _ _ _ one two.0) (two.1 ∙ same) rest)

-- ---- the bytes of a list, element by element

module _ {X : Type 0} (bytes : List X → List ℕ) (joined : (xs ys : List X) → bytes (xs ++ ys) ≡ bytes xs ++ bytes ys) where
  -- the bytes of the first i + 1 elements are the bytes of the first i elements, followed by the
  -- bytes of the next element
  pub one_more : (xs : List X) (i : ℕ) (x : X) (piece : List ℕ) → i < length xs → x ≡ get_or xs i x → bytes (x ∷ []) ≡ piece
      → bytes (take (i + 1) xs) ≡ bytes (take i xs) ++ piece
  one_more = search (rules, take_more)

  module _ (xs : List X) (i : ℕ) (x : X) (piece : List ℕ) (below : i < length xs) (at : x ≡ get_or xs i x) (is : bytes (x ∷ []) ≡ piece) where
    -- if the first i elements and then the next element are written through the buffer, the first i + 1 elements are written through the buffer
    pub each_given : (a : Told) (b : List ℕ) (c : Told) (d : List ℕ) (e : Told) (f : List ℕ)
        → Gathers a b (bytes (take i xs)) c d → Gathers c d piece e f → Gathers a b (bytes (take (i + 1) xs)) e f
    each_given a b c d e f first second = subst (λ p. Gathers a b p e f) (sym (one_more _ _ _ _ below at is)) (gathers_then _ _ _ _ _ _ _ _ first second)

    -- suppose that the first i elements were written through the buffer. If the sink then takes a
    -- proper prefix of the next element's bytes, it has taken a proper prefix of the list's bytes
    each_part : (a : Told) (b : List ℕ) (c : Told) (d : List ℕ) (e : Told)
        → Gathers a b (bytes (take i xs)) c d → TakesPart c (d ++ piece) e → TakesPart a (b ++ bytes xs) e
    each_part a b c d e first part =
        let now = bytes (take (i + 1) xs) in
        let rest = bytes (drop (i + 1) xs) in
        let all : now ++ rest ≡ bytes xs = sym (joined (take (i + 1) xs) (drop (i + 1) xs)) ∙ ap bytes (take-append-drop (i + 1) xs) in
        let whole : (b ++ now) ++ rest ≡ b ++ bytes xs = append_assoc b now rest ∙ ap (λ ys. b ++ ys) all in
        let so_far = gathers_part _ _ _ _ _ _ _ first part in
        subst (λ ys. TakesPart a ys e) whole (part_longer _ _ _ _ (subst (λ p. TakesPart a (b ++ p) e) (sym (one_more _ _ _ _ below at is)) so_far))

    -- a failure to write the next element counts as a failure to write the whole list
    pub each_fails : {S A E : Type 0} (taken : S → Told) (failures : S → ℕ) (old now new : S) (b d holds : List ℕ) (result : Result A E) (Q : E → Type 0)
        → Gathers (taken old) b (bytes (take i xs)) (taken now) d → failures now ≡ failures old → IsErrAnd result Q
        → TakesPart (taken now) (d ++ piece) (taken new) × (failures new ≡ failures now + 1) → Gives taken failures old b (bytes xs) result new holds
    each_fails taken failures old now new b d holds (Ok done) Q first same is part = absurd is
    each_fails taken failures old now new b d holds (Err failed) Q first same is part = search (rules, each_part)

-- a failure to make room for a piece counts as a failure to write the piece
pub room_fails : {F : Type 0} (c : Told) (d piece : List ℕ) (e : Told) → TakesPart c (d ++ []) e × F → TakesPart c (d ++ piece) e × F
room_fails = search (rules, append-nil, part_longer)

-- the bytes of the concatenation of two lists are the concatenation of their bytes
pub mapped_join : {A B : Type 0} (f : B → List ℕ) (m : A → B) (xs ys : List A)
    → flat_map f (map m (xs ++ ys)) ≡ flat_map f (map m xs) ++ flat_map f (map m ys)
mapped_join = search (rules, map-append, flat_map-append)

-- making room in the buffer for a piece and then appending the piece writes it through the buffer
pub room_then_add : (a : Told) (b : List ℕ) (c : Told) (d piece f : List ℕ) → Gathers a b [] c d → f ≡ d ++ piece → Gathers a b piece c f
room_then_add a b c d piece f room is = gathers_then a b [] c d piece c f room (gathers_add c d piece f is)
