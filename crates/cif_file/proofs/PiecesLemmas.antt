-- Pieces of a text that are fed one after another.
use Rattle.cif_laws.proofs.Common.{◌≡◌, ℕ, ◌+◌, ◌<◌, ◌≤◌, List, ◌++◌, length, map, take, drop, get_or, subst, ap, sym, ◌∙◌, append-nil, arith, common_steps}
use Rattle.cif_laws.proofs.Common.{concat, map-append, take-append-drop, take_all}
use Rattle.std.proofs.lemmas.List.{map_more}
use Rattle.std.proofs.lemmas.List.Folds.{concat-append}
use Rattle.cif_file.specs.declared.fault.FileFault.{FileFault}
use Rattle.cif_file.specs.ParserRead.{ParserState, HasRead, IsFaultReported, IsRefused}
use Rattle.cif_file.proofs.ParserLemmas.{reported_stays, reported_refused}

module _ {X : Type 0} (f : X → List ℕ) where
  -- the text of the first `i + 1` pieces is the text of the first `i` pieces, followed by the next piece
  pub joined_more : (pieces : List X) (i : ℕ) (d : X) → i < length pieces
      → concat (map f (take (i + 1) pieces)) ≡ concat (map f (take i pieces)) ++ f (get_or pieces i d)
  joined_more = grind (common_steps, arith, map_more, concat-append, append-nil)

  -- a parser that has read the first `i` pieces and then the next piece has read the first `i + 1`
  -- pieces
  pub read_more : (parser : ParserState) (limit : ℕ) (pieces : List X) (i : ℕ) (d : X) → i < length pieces
      → HasRead parser limit (concat (map f (take i pieces)) ++ f (get_or pieces i d)) → HasRead parser limit (concat (map f (take (i + 1) pieces)))
  read_more parser limit pieces i d below read = subst (HasRead parser limit) (sym (joined_more pieces i d below)) read

  -- after the last piece the parser has read the text of all pieces
  pub read_all : (parser : ParserState) (limit : ℕ) (pieces : List X) (i : ℕ) → length pieces ≤ i → HasRead parser limit (concat (map f (take i pieces)))
      → HasRead parser limit (concat (map f pieces))
  read_all parser limit pieces i past read = subst (λ all. HasRead parser limit (concat (map f all))) (take_all i pieces past) read

  -- a fault of the text up to and including one of the pieces is a fault of the text of all pieces
  pub refused_front : (limit : ℕ) (pieces : List X) (i : ℕ) (d : X) (fault : FileFault) → i < length pieces
      → IsFaultReported limit (concat (map f (take i pieces)) ++ f (get_or pieces i d)) fault
      → IsRefused limit (concat (map f pieces)) fault
  refused_front limit pieces i d fault below told =
      let whole : concat (map f (take (i + 1) pieces)) ++ concat (map f (drop (i + 1) pieces)) ≡ concat (map f pieces) =
      sym (concat-append (map f (take (i + 1) pieces)) (map f (drop (i + 1) pieces)))
      ∙ ap concat (sym (map-append f (take (i + 1) pieces) (drop (i + 1) pieces)))
      ∙ ap (λ all. concat (map f all)) (take-append-drop (i + 1) pieces) in
      reported_refused limit (concat (map f pieces)) fault
      (subst (λ text. IsFaultReported limit text fault) whole
      (reported_stays limit (concat (map f (take (i + 1) pieces))) (concat (map f (drop (i + 1) pieces))) fault
      (subst (λ text. IsFaultReported limit text fault) (sym (joined_more pieces i d below)) told)))
