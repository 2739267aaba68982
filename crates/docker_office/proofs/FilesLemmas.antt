-- Writing the lines of ledger items, one after the other.
use Rattle.std.proofs.Common.{◌≡◌, ℕ, suc, ◌+◌, ◌<◌, ◌≤◌, List, [], ◌∷◌, ◌++◌, length, take, drop, map, get_or, All, rules, ap, sym, ◌∙◌, arith, append_assoc}
use Rattle.std.proofs.Common.{append-nil, length-append, Option, Result, OnErr}
use Rattle.std.proofs.Math.ListN.{get_or-map, drop_of_length-le}
use Rattle.std.proofs.Math.Seq.{take-suc, take-append-add}
use Rattle.std.proofs.lemmas.List.{map-append, length-map, take-append-le, take-append-drop}
use Rattle.std.proofs.lemmas.Grind.{flat_map-append, common_steps}
use Rattle.cif_device.specs.Device.{Takes, TakesPart}
use Rattle.docker_model.specs.docker.DockerText.{ended, file_text, files_text}
use Rattle.docker_model.specs.state.State.{IsGoodItem}
use Rattle.docker_state.specs.declared.item.LedgerItem.{LedgerItem}
use Rattle.docker_state.specs.Meaning.{item_meant}

-- the text that lists the files of these ledger items, with one line for each file
abbrev pub text_of : List LedgerItem → List ℕ
text_of items = files_text (map item_meant items)

-- the text of two concatenated lists is the text of the first list, followed by the text of the
-- second list
text_joined : (xs ys : List LedgerItem) → text_of (xs ++ ys) ≡ text_of xs ++ text_of ys
text_joined = search (rules, map-append, flat_map-append)

-- the text of one item is its line
text_of_one : (item : LedgerItem) → text_of (item ∷ []) ≡ ended (file_text (item_meant item))
text_of_one item = append-nil (ended (file_text (item_meant item)))

-- writing no bytes leaves the sink unchanged
pub none_taken : (sink : Option (List ℕ)) → Takes sink [] sink
none_taken = search (rules, append-nil)

-- if a sink gains two pieces, one after the other, it gains their concatenation
taken_then : (first now next : Option (List ℕ)) (front back : List ℕ) → Takes first front now → Takes now back next → Takes first (front ++ back) next
taken_then = search (rules, append_assoc)

-- the minute of each item in a good ledger is below 1440
pub minute_at : (items : List LedgerItem) (i : ℕ) (item : LedgerItem) → All IsGoodItem (map item_meant items) → i < length items
    → item ≡ get_or items i item → item.minute < 1440
minute_at items i item all below at =
    let size = length-map items item_meant in
    let same : get_or (map item_meant items) i (item_meant item) ≡ item_meant item = get_or-map item_meant items i item ∙ ap item_meant (sym at) in
    (rw same at (all i (item_meant item) (omega arith))).minute

-- the lemmas of this module assume that the lines of the items before item `i` have been written
module _ (items : List LedgerItem) (i : ℕ) (item : LedgerItem) (line : List ℕ) (first now next : Option (List ℕ)) (below : i < length items)
    (at : item ≡ get_or items i item) (line_is : line ≡ ended (file_text (item_meant item))) (so_far : Takes first (text_of (take i items)) now) where
  following : suc i ≡ i + 1
  following = omega arith

  front_and_line : text_of (take (i + 1) items) ≡ text_of (take i items) ++ line
  front_and_line = ap (λ n. text_of (take n items)) (sym following) ∙ ap text_of (take-suc items i item below)
      ∙ text_joined _ _ ∙ ap (λ one. text_of (take i items) ++ text_of (one ∷ [])) (sym at)
      ∙ ap (λ bytes. text_of (take i items) ++ bytes) (text_of_one _ ∙ sym line_is)

  -- after the line of item `i` has been written, the lines up to and including this line have been
  -- written
  pub line_taken : Takes now line next → Takes first (text_of (take (i + 1) items)) next
  line_taken taken = rw front_and_line (taken_then first now next (text_of (take i items)) line so_far taken)

  whole : text_of items ≡ text_of (take i items) ++ (line ++ text_of (drop (i + 1) items))
  whole = ap text_of (sym (take-append-drop (i + 1) items)) ∙ text_joined _ _
      ∙ ap (λ bytes. bytes ++ text_of (drop (i + 1) items)) front_and_line
      ∙ append_assoc (text_of (take i items)) line (text_of (drop (i + 1) items))

  -- if only a proper prefix of the item's line is written, only a proper prefix of the whole text
  -- is written
  pub line_begun : TakesPart now line next → TakesPart first (text_of items) next
  line_begun (n, short, taken) =
      let front = text_of (take i items) in
      let rest = text_of (drop (i + 1) items) in
      let one = length-append front (line ++ rest) in
      let two = length-append line rest in
      let size : length (text_of items) ≡ length (front ++ (line ++ rest)) = ap length whole in
      let within : take n (line ++ rest) ≡ take n line = take-append-le n line rest (omega arith) in
      let cut : take (length front + n) (text_of items) ≡ front ++ take n line = rw (whole, take-append-add, within) in
      (length front + n, omega arith, rw cut (taken_then _ _ _ _ _ so_far taken))

-- after the last item, the whole text has been written
pub all_taken : (items : List LedgerItem) (i : ℕ) (first now : Option (List ℕ)) → length items ≤ i → Takes first (text_of (take i items)) now
    → Takes first (text_of items) now
all_taken = grind (common_steps, arith, append-nil, drop_of_length-le, take-append-drop)

-- what is true in any case is also true if the result is an error
pub on_err : {A E : Type 0} (answer : Result A E) (P : Type 0) → P → OnErr answer P
on_err = search rules
