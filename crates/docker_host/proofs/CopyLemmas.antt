-- Searching a shelf for the file with a given name.
use Rattle.std.proofs.Common.{◌≡◌, ℕ, ◌+◌, ◌<◌, ◌≤◌, List, [], ◌∷◌, length, drop, ap, sym, ◌∙◌, add-one}
use Rattle.std.proofs.Math.Seq.{drop-cons}
use Rattle.std.proofs.Math.ListN.{drop_of_length-le, get_or}
use Rattle.docker_host.specs.declared.shelf.Place.{Place}

module _ {X : Type 0} (found : List Place → X) (i : ℕ) (places : List Place) (so_far : found places ≡ found (drop i places)) where
  -- the search has come to the file at index `i`: the files from `i` on are this file, followed by
  -- the files from `i + 1` on
  pub at_place : (place : Place) → i < length places → place ≡ get_or places i place → found places ≡ found (place ∷ drop (i + 1) places)
  at_place place below at = so_far ∙ ap found (drop-cons places i place below ∙ (λ j. sym at j ∷ drop (sym (add-one i) j) places))

  -- the search has come to the end
  pub at_end : length places ≤ i → found places ≡ found []
  at_end past = so_far ∙ ap found (drop_of_length-le places past)
