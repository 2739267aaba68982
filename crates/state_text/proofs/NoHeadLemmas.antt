-- If a part of a put's head is missing or bad, the bytes don't begin with the head of a put.
use Rattle.cif_laws.proofs.Common.{◌≡◌, ℕ, ◌+◌, ◌<◌, ◌≤◌, List, [], ◌∷◌, ◌++◌, length, take, drop, get_or, ap, sym, ◌∙◌, subst, rules, arith, append_assoc}
use Rattle.cif_laws.proofs.Common.{append-nil, length-append, take-append-drop, slice_index, Option, Some, None, MatchOption, w32, to_be_bytes, from_be_bytes}
use Rattle.cif_laws.proofs.Common.{Key, ScheduleKey, tiploc_key, association_key, schedule_key, Stamp, key_tag, State, IsLedger, IsStampIn, key_bytes}
use Rattle.cif_laws.proofs.Common.{stamp_bytes, key_in, stamp_in, EntryPart, before_body, before_line, key_text, key_width, IsLineCount, IsStampHere}
use Rattle.cif_laws.proofs.Common.{StateCause}
use Rattle.cif_laws.proofs.lists.Fronts.{same_front}
use Rattle.docker_model.specs.state.StatePart.{part_text}
use Rattle.state_laws.proofs.texts.StateReadBack.{key_read, key_width_is, stamp_read, stamp_width}
use Rattle.state_laws.proofs.texts.TextsBefore.{read_32}
use Rattle.state_laws.proofs.texts.GoodPartLeads.{no_bad_key}
use Rattle.state_text.specs.Judged.{IsKeyCause}
use Rattle.state_text.specs.declared.stage.Stage.{Stage}
use Rattle.state_text.specs.Head.{AreParts, IsBeforeBody, IsPutHead, BeginsWithParts, BeginsWithNoParts}

whole_of : (len : ℕ) (text bytes : List ℕ) → text ≡ take len bytes → text ++ drop len bytes ≡ bytes
whole_of len text bytes is = ap (λ xs. xs ++ drop len bytes) is ∙ take-append-drop len bytes

fits : (len : ℕ) (text bytes : List ℕ) → text ≡ take len bytes → length text ≤ length bytes
fits len text bytes is = let sizes = ap length (whole_of len text bytes is) in let both = length-append text (drop len bytes) in omega arith

first_of : (len first number : ℕ) (text bytes : List ℕ) → first ∷ text ≡ take len (number ∷ bytes) → first ≡ number
first_of len first number text bytes is = ap (λ xs. get_or xs 0 0) (whole_of len (first ∷ text) (number ∷ bytes) is)

put_size : (state : State) (key : Key) (stamp : Stamp) → IsLedger state.ledger → IsStampHere state key stamp
    → length (key_text key ++ stamp_bytes stamp ++ 1 ∷ []) ≡ 17 + key_width (key_tag key)
put_size state key stamp ledger here =
    let key_size = key_width_is key here.0.0 in
    let stamp_size = stamp_width state.ledger stamp ledger here.1 in
    let front = length-append (key_text key) (stamp_bytes stamp) in
    let all = length-append (key_text key ++ stamp_bytes stamp) (1 ∷ []) in
    omega arith

tag_at : (len number : ℕ) (bytes : List ℕ) (state : State) (key : Key) (stamp : Stamp) → AreParts state (take len (number ∷ bytes)) (before_body key stamp)
    → key_tag key ≡ number
tag_at len number bytes state key stamp parts = first_of len (key_tag key) number (key_bytes key ++ stamp_bytes stamp ++ 1 ∷ []) bytes parts.text

-- if the bytes are a good put's tag, key, stamp and op, the key, the stamp and the op are read back
-- from the bytes
module _ (state : State) (number : ℕ) (bytes key rest stamp op : List ℕ) (ledger : IsLedger state.ledger) (front : bytes ≡ key ++ rest)
    (back : rest ≡ stamp ++ op) (key_size : length key ≡ key_width number) (stamp_size : length stamp ≡ 15) where
  put_read : (k : Key) (s : Stamp) → AreParts state (number ∷ bytes) (before_body k s)
      → (key_in number key ≡ k) × (stamp_in stamp ≡ s) × (slice_index op 0 ≡ 1)
  put_read k s parts =
      let tag : key_tag k ≡ number = ap (λ xs. get_or xs 0 0) parts.text in
      let text : key_bytes k ++ (stamp_bytes s ++ 1 ∷ []) ≡ key ++ (stamp ++ op) =
      sym (append_assoc (key_bytes k) (stamp_bytes s) (1 ∷ [])) ∙ ap (drop 1) parts.text ∙ front ∙ ap (λ xs. key ++ xs) back in
      let at_key = same_front (key_bytes k) key _ _ (key_width_is _ parts.here.0.0 ∙ ap key_width tag ∙ sym key_size) text in
      let at_stamp = same_front (stamp_bytes s) stamp _ _ (stamp_width state.ledger _ ledger parts.here.1 ∙ sym stamp_size) at_key.1 in (
        ap (λ t. key_in t key) (sym tag) ∙ ap (key_in (key_tag k)) (sym at_key.0) ∙ key_read k parts.here.0.0,
        ap stamp_in (sym at_stamp.0) ∙ stamp_read _ s ledger parts.here.1,
        sym (ap (λ xs. slice_index xs 0) at_stamp.1),
      )

  -- if the op's byte isn't 1, which stands for a put, the bytes aren't a put's tag, key, stamp and
  -- op
  pub other_op : ¬ (slice_index op 0 ≡ 1) → (k : Key) (s : Stamp) → ¬ AreParts state (number ∷ bytes) (before_body k s)
  other_op other k s parts = other (put_read k s parts).2

  -- if the key is bad, the bytes aren't a put's tag, key, stamp and op
  pub bad_key : (cause : Option StateCause) → IsKeyCause state (key_in number key) cause → (k : Key) (s : Stamp)
      → ¬ AreParts state (number ∷ bytes) (before_body k s)
  bad_key = search (rules, no_bad_key, put_read)

  -- if the stamp is bad, the bytes aren't a put's tag, key, stamp and op
  pub bad_stamp : ¬ IsStampIn state.ledger (stamp_in stamp) → (k : Key) (s : Stamp) → ¬ AreParts state (number ∷ bytes) (before_body k s)
  bad_stamp = search (rules, put_read)

-- bytes that are too short don't begin with a put's tag, key, stamp and op
pub too_short : (state : State) (number n : ℕ) (bytes : List ℕ) → IsLedger state.ledger → n ≡ key_width number + 16 → length bytes < n
    → BeginsWithNoParts IsBeforeBody state (number ∷ bytes)
too_short state number n bytes ledger size short (before_body key stamp) len ends parts =
    let all = put_size state key stamp ledger parts.here in
    let width = ap key_width (tag_at len number bytes state key stamp parts) in
    let fit = fits len (part_text (before_body key stamp)) (number ∷ bytes) parts.text in
    omega arith
too_short state number n bytes ledger size short _ len ends parts = ends

-- if the bytes up to the body aren't a put's tag, key, stamp and op, no other prefix of the bytes
-- is a put's tag, key, stamp and op
pub no_put : (state : State) (number n : ℕ) (bytes put body : List ℕ) → IsLedger state.ledger → bytes ≡ put ++ body → length put ≡ n
    → n ≡ key_width number + 16 → ((key : Key) (stamp : Stamp) → ¬ AreParts state (number ∷ put) (before_body key stamp))
    → BeginsWithNoParts IsBeforeBody state (number ∷ bytes)
no_put state number n bytes put body ledger split size wide none (before_body key stamp) len ends parts =
    let all = put_size state key stamp ledger parts.here in
    let width = ap key_width (tag_at len number bytes state key stamp parts) in
    none key stamp (record {
      here = parts.here;
      text = (same_front (part_text (before_body key stamp)) (number ∷ put) _ body (omega arith)
          (whole_of len _ (number ∷ bytes) parts.text ∙ ap (λ xs. number ∷ xs) split)).0;
    })
no_put state number n bytes put body ledger split size wide none _ len ends parts = ends

-- the head of a TIPLOC's or an association's put is its tag, key, stamp and op
pub head_of_body : (count : ℕ) (state : State) (number : ℕ) (bytes : List ℕ) (result : Option (Stage × ℕ)) → ¬ (number ≡ 3)
    → MatchOption result (BeginsWithNoParts IsBeforeBody state (number ∷ bytes)) (BeginsWithParts IsBeforeBody count state (number ∷ bytes))
    → MatchOption result (BeginsWithNoParts IsPutHead state (number ∷ bytes)) (BeginsWithParts IsPutHead count state (number ∷ bytes))
head_of_body count state number bytes None other none = never
  where
    never : BeginsWithNoParts IsPutHead state (number ∷ bytes)
    never (before_body key stamp) len ends parts = none (before_body key stamp) len tt parts
    never (before_line key stamp n lines) len ends parts = other (sym (first_of _ _ _ _ _ parts.text))
    never _ len ends parts = ends
head_of_body count state number bytes (Some head) other begins = record {
  part = begins.part;
  ends = whole begins.part begins.ends begins.parts;
  within = begins.within;
  parts = begins.parts;
  is = begins.is;
  fresh = begins.fresh;
}
  where
    whole : (part : EntryPart) → IsBeforeBody part → AreParts state (take head.1 (number ∷ bytes)) part → IsPutHead part
    whole (before_body (tiploc_key code) stamp) ends parts = tt
    whole (before_body (association_key key) stamp) ends parts = tt
    whole (before_body (schedule_key key) stamp) ends parts = other (sym (tag_at _ _ _ _ _ _ parts))
    whole (before_line key stamp n lines) ends parts = absurd ends
    whole _ ends parts = ends

-- bytes that don't begin with a tag don't begin with the head of a put
pub other_tag : (state : State) (number : ℕ) (bytes : List ℕ) → ¬ (number ≡ 1) → ¬ (number ≡ 2) → ¬ (number ≡ 3)
    → BeginsWithNoParts IsPutHead state (number ∷ bytes)
other_tag = search (rules, tag_at, first_of)

-- if bytes with the tag of a schedule begin with the head of a put, it is the head of a schedule's
-- put
of_schedules : (state : State) (bytes : List ℕ)
    → ((key : ScheduleKey) (stamp : Stamp) (n len : ℕ) → ¬ AreParts state (take len (3 ∷ bytes)) (before_line key stamp n []))
    → BeginsWithNoParts IsPutHead state (3 ∷ bytes)
of_schedules state bytes none (before_body (tiploc_key code) stamp) len ends parts = search (rules, tag_at)
of_schedules state bytes none (before_body (association_key key) stamp) len ends parts = search (rules, tag_at)
of_schedules state bytes none (before_line key stamp n lines) len ends parts = search rules
of_schedules state bytes none _ len ends parts = ends

head_split : (key : ScheduleKey) (stamp : Stamp) (n : ℕ)
    → part_text (before_line key stamp n []) ≡ part_text (before_body (schedule_key key) stamp) ++ to_be_bytes w32 n
head_split = search (rules, append-nil, append_assoc)

-- bytes that are too short don't begin with the head of a schedule's put
pub no_lines : (state : State) (bytes : List ℕ) → IsLedger state.ledger → length bytes < 29 → BeginsWithNoParts IsPutHead state (3 ∷ bytes)
no_lines state bytes ledger short = of_schedules state bytes (λ key stamp n len parts.
    let all = put_size state (schedule_key key) stamp ledger parts.here.0 in
    let size = ap length (head_split key stamp n) in
    let both = length-append (part_text (before_body (schedule_key key) stamp)) (to_be_bytes w32 n) in
    let fit = fits len (part_text (before_line key stamp n [])) (3 ∷ bytes) parts.text in
    omega arith)

-- if the bytes begin with the head of a schedule's put, the parts of this head are read back from
-- the bytes
module _ (state : State) (bytes put rest number lines : List ℕ) (ledger : IsLedger state.ledger) (split : bytes ≡ put ++ rest)
    (parted : rest ≡ number ++ lines) (put_size_is : length put ≡ 25) (number_size : length number ≡ 4) where
  lines_read : (key : ScheduleKey) (stamp : Stamp) (n len : ℕ) → AreParts state (take len (3 ∷ bytes)) (before_line key stamp n [])
      → AreParts state (3 ∷ put) (before_body (schedule_key key) stamp) × (from_be_bytes w32 number ≡ n)
  lines_read key stamp n len parts =
      let front = part_text (before_body (schedule_key key) stamp) in
      let all = put_size state (schedule_key key) stamp ledger parts.here.0 in
      let whole = sym (append_assoc front (to_be_bytes w32 n) (drop len (3 ∷ bytes)))
      ∙ whole_of len (front ++ to_be_bytes w32 n) (3 ∷ bytes) (sym (head_split key stamp n) ∙ parts.text)
      ∙ ap (λ xs. 3 ∷ xs) (split ∙ ap (λ xs. put ++ xs) parted) in
      let at_put = same_front front (3 ∷ put) _ _ (omega arith) whole in
      let at_number = same_front (to_be_bytes w32 n) number _ lines (sym number_size) at_put.1 in
      let few = parts.here.1.1 in
      (record { here = parts.here.0; text = at_put.0 }, ap (from_be_bytes w32) (sym at_number.0) ∙ read_32 n (omega arith))

  -- if no schedule can have this number of lines, the bytes don't begin with the head of a put
  pub bad_count : ¬ IsLineCount (from_be_bytes w32 number) → BeginsWithNoParts IsPutHead state (3 ∷ bytes)
  bad_count bad = of_schedules state bytes (λ key stamp n len parts.
      bad (subst IsLineCount (sym (lines_read key stamp n len parts).1) parts.here.1))

  -- if the bytes up to the number of lines aren't a put's tag, key, stamp and op, the bytes don't
  -- begin with the head of a put
  pub no_schedule : ((key : Key) (stamp : Stamp) → ¬ AreParts state (3 ∷ put) (before_body key stamp)) → BeginsWithNoParts IsPutHead state (3 ∷ bytes)
  no_schedule bad = of_schedules state bytes (λ key stamp n len parts. bad (schedule_key key) stamp (lines_read key stamp n len parts).0)
