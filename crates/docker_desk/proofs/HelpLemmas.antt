-- Writing what `--help` prints, word by word and line by line.
use Rattle.cif_laws.proofs.Common.{◌≡◌, ℕ, ◌<◌, ◌≤◌, ◌+◌, List, [], ◌∷◌, ◌++◌, length, take, drop, get_or, refl, ap, sym, subst, arith, rules, append_assoc}
use Rattle.cif_laws.proofs.Common.{append-nil, ◌∙◌, Bool, codes, map, flat_map, Bor, drop_of_length-le, take-append-drop, flat_map-append, common_steps}
use Rattle.std.proofs.Common.{add-one}
use Rattle.std.proofs.Math.Seq.{take-suc}
use Rattle.docker_cmd.specs.Words.{Text, usage_with}
use Rattle.docker_host.specs.Streams.{StreamsView, WritesPart, WritesWhole}
use Rattle.docker_host.proofs.StreamsLemmas.{part_of_first, part_of_second, whole_both}
use Rattle.docker_desk.specs.Help.{leave_text}

module _ {A : Type 0} (bytes : A → List ℕ) (lines : List A) (i : ℕ) (none : A) (text : List ℕ) (old mid new : StreamsView) where
  -- the first `i` lines and the line at index `i` are the first `i + 1` lines
  line_more : i < length lines → text ≡ bytes (get_or lines i none) → flat_map bytes (take (i + 1) lines) ≡ flat_map bytes (take i lines) ++ text
  line_more = grind (common_steps, arith, add-one, take-suc, flat_map-append, append-nil)

  -- if the first lines of a text were written and then the next line, one line more was written
  pub whole_at : i < length lines → text ≡ bytes (get_or lines i none) → WritesWhole (flat_map bytes (take i lines)) old mid → WritesWhole text mid new
      → WritesWhole (flat_map bytes (take (i + 1) lines)) old new
  whole_at = search (rules, line_more, whole_both)

  -- if only a proper prefix of the next line was written, a proper prefix of the text was written
  pub part_at : i < length lines → text ≡ bytes (get_or lines i none) → WritesWhole (flat_map bytes (take i lines)) old mid → WritesPart text mid new
      → WritesPart (flat_map bytes lines) old new
  part_at below is first next = subst (λ (all : List ℕ). WritesPart all old new) whole (part_of_first _ _ _ _ (part_of_second _ _ _ _ _ first next))
    where
      whole : (flat_map bytes (take i lines) ++ text) ++ flat_map bytes (drop (i + 1) lines) ≡ flat_map bytes lines
      whole = ap (λ (front : List ℕ). front ++ flat_map bytes (drop (i + 1) lines)) (sym (line_more below is))
          ∙ sym (flat_map-append bytes (take (i + 1) lines) (drop (i + 1) lines)) ∙ ap (flat_map bytes) (take-append-drop (i + 1) lines)

-- after the last line, the whole text was written
pub whole_end : {A : Type 0} (bytes : A → List ℕ) (lines : List A) (i : ℕ) (old new : StreamsView) → length lines ≤ i
    → WritesWhole (flat_map bytes (take i lines)) old new → WritesWhole (flat_map bytes lines) old new
whole_end = grind (common_steps, arith, append-nil, drop_of_length-le, take-append-drop)

-- the words after a verb, as bytes
words_of : (words : List (Bor Text)) → flat_map (λ (word : Bor Text). 32 ∷ word.now) words
    ≡ flat_map (λ (id : Text). 32 ∷ id) (map (λ (id : Bor Text). id.now) words)
words_of [] = refl
words_of (word ∷ words) = ap (λ (rest : List ℕ). (32 ∷ word.now) ++ rest) (words_of words)

-- a verb with the words around it, in two groupings
pub line_is : (writes : Bool) (name : Text) (ids : List (Bor Text))
    → (leave_text writes ++ name) ++ (flat_map (λ (word : Bor Text). 32 ∷ word.now) ids ++ codes "\n")
    ≡ leave_text writes ++ usage_with name (map (λ (id : Bor Text). id.now) ids) ++ codes "\n"
line_is = search (rules, append_assoc, words_of)
