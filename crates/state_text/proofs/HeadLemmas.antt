-- Lemmas on the first parts of an entry: the bytes of its key, stamp and op, and the part that comes after them.
use Rattle.cif_laws.proofs.Common.{◌≡◌, ℕ, ◌+◌, ◌<◌, List, [], ◌∷◌, ◌++◌, length, take, get_or, refl, ap, sym, rules, ◌∙◌, subst, inl, arith, append_assoc}
use Rattle.cif_laws.proofs.Common.{append-nil, length-append, slice_index, w32, to_be_bytes, from_be_bytes, take-append_seam, recursion_from_All, schedule_key}
use Rattle.cif_laws.proofs.Common.{State, key_in, stamp_in, stamp_bytes, before_body, before_line, key_text, key_width, IsTag, IsLineCount}
use Rattle.std.proofs.lemmas.List.Elements.{All-from_get_or}
use Rattle.cif_laws.proofs.lists.AllOf.{all_front, all_behind}
use Rattle.state_laws.proofs.texts.StateBytes.{AreBytes, four_bytes, stamp_written, key_written, tag_of_key, single}
use Rattle.cif_change.specs.declared.key.Key.{Key}
use Rattle.cif_change.specs.declared.key.ScheduleKey.{ScheduleKey}
use Rattle.cif_change.specs.Meaning.{key_meant, schedule_key_meant}
use Rattle.docker_join.specs.Meaning.{stamp_meant}
use Rattle.docker_join.specs.declared.stamp.Stamp.{Stamp}
use Rattle.state_text.specs.Stage.{tag_meant}
use Rattle.state_text.specs.declared.stage.Tag.{Tag}
use Rattle.state_text.specs.declared.stage.Stage.TheVariants as stage
use Rattle.state_text.specs.Head.{AreParts, IsBeforeBody, IsPutHead, BeginsWithParts}

bytes_are : (bytes : List ℕ) → ((i : ℕ) → get_or bytes i 0 < 256) → AreBytes bytes
bytes_are bytes small = recursion_from_All (λ b. b < 256) bytes (All-from_get_or (λ b. b < 256) bytes 0 (λ i below. small i))

front_are : (front behind : List ℕ) → AreBytes (front ++ behind) → AreBytes front
front_are = all_front (λ b. b < 256)

behind_are : (front behind : List ℕ) → AreBytes (front ++ behind) → AreBytes behind
behind_are = all_behind (λ b. b < 256)

taken : (n : ℕ) (all front behind : List ℕ) → all ≡ front ++ behind → n ≡ length front → take n all ≡ front
taken = search (rules, take-append_seam)

-- the number of a tag is 1, 2 or 3
pub is_tag : (kind : Tag) → IsTag (tag_meant kind)
is_tag = search rules

-- the bytes that are written for a put's key, stamp and op are the bytes from which they were read
pub put_text : (number : ℕ) (bytes key rest stamp op : List ℕ) → IsTag number → bytes ≡ key ++ rest → rest ≡ stamp ++ op → length key ≡ key_width number
    → length stamp ≡ 15 → length op ≡ 1 → slice_index op 0 ≡ 1 → ((i : ℕ) → get_or bytes i 0 < 256)
    → key_text (key_in number key) ++ stamp_bytes (stamp_in stamp) ++ 1 ∷ [] ≡ number ∷ bytes
put_text = search (rules, tag_of_key, key_written, stamp_written, append_assoc, bytes_are, front_are, behind_are, single)

-- after a put's key, stamp and op, the next part is the body
pub body_after : (count : ℕ) (state : State) (key : Key) (stamp : Stamp) (number n : ℕ) (bytes put body : List ℕ) → bytes ≡ put ++ body → length put ≡ n
    → AreParts state (number ∷ put) (before_body (key_meant key) (stamp_meant stamp))
    → BeginsWithParts IsBeforeBody count state (number ∷ bytes) (stage.Body count key stamp, 1 + n)
body_after count state key stamp number n bytes put body split size parts = record {
  part = before_body (key_meant key) (stamp_meant stamp);
  ends = tt;
  within = search (rules, length-append);
  parts = record { here = parts.here; text = search (rules, taken, parts.text) };
  is = refl;
  fresh = tt;
}

-- after a schedule's key, stamp, op and number of lines, the next part is the first line
pub lines_after : (count : ℕ) (state : State) (key : ScheduleKey) (stamp : Stamp) (n : ℕ) (bytes put rest number lines : List ℕ) → bytes ≡ put ++ rest
    → rest ≡ number ++ lines → length put ≡ 25 → length number ≡ 4 → ((i : ℕ) → get_or bytes i 0 < 256)
    → AreParts state (3 ∷ put) (before_body (schedule_key (schedule_key_meant key)) (stamp_meant stamp))
    → n ≡ from_be_bytes w32 number → IsLineCount (from_be_bytes w32 number)
    → BeginsWithParts IsPutHead count state (3 ∷ bytes) (stage.Line count key stamp n, 30)
lines_after count state key stamp n bytes put rest number lines split parted put_size number_size small parts is good =
    let sizes = ap length split ∙ length-append put rest in
    let both = ap length parted ∙ length-append number lines in
    let joined = length-append (3 ∷ put) number in
    let front = key_text (schedule_key (schedule_key_meant key)) ++ stamp_bytes (stamp_meant stamp) in
    let few : IsLineCount n = subst IsLineCount (sym is) good in
    let whole : 3 ∷ bytes ≡ ((3 ∷ put) ++ number) ++ lines =
    ap (λ xs. 3 ∷ xs) (split ∙ ap (λ xs. put ++ xs) parted ∙ sym (append_assoc put number lines)) in
    let number_small : AreBytes number = search (rules, front_are, behind_are, bytes_are) in
    record {
      part = before_line (schedule_key_meant key) (stamp_meant stamp) n [];
      ends = refl;
      within = omega arith;
      parts = record {
        here = (parts.here, few, few.0, inl refl);
        text = append-nil (front ++ 1 ∷ to_be_bytes w32 n) ∙ sym (append_assoc front (1 ∷ []) (to_be_bytes w32 n))
            ∙ (λ i. parts.text i ++ (ap (to_be_bytes w32) is ∙ four_bytes number number_size number_small) i) ∙ sym
            (taken 30 (3 ∷ bytes) ((3 ∷ put) ++ number) lines whole (omega arith));
      };
      is = refl;
      fresh = tt;
    }
