-- Reading the head of an entry in one step. If an entry has a body, its head is all parts before the body.
use Rattle.std.proofs.Common.{◌≡◌, ℕ, ◌+◌, ◌≤◌, List, [], length, ap, subst, arith, append-nil, length-append, rules}
use Rattle.std.proofs.lemmas.List.{nil_from_length}
use Rattle.docker_model.specs.state.State.{IsValid}
use Rattle.docker_model.specs.state.StatePart.{EntryPart, before_tag, in_entry, width, AreGood}
use Rattle.state_text.specs.declared.stage.Stage.{Stage}
use Rattle.state_text.specs.declared.stage.Stage.TheVariants as stage
use Rattle.state_text.specs.Stage.{stage_meant, IsFresh}
use Rattle.state_text.specs.Head.{AreParts}
use Rattle.docker_bytes.specs.declared.reading.StateReading.{StateReading}
use Rattle.docker_bytes.specs.StateReading.{format_of, before_of, IsReading, ReadsOn}

module _ {K : Type 0} (old : StateReading K) (count : ℕ) (is : IsReading old) (at : old.stage ≡ stage.Tag count) where
  before : before_of old ≡ in_entry count old.parts before_tag
  before = ap (λ (s : Stage). stage_meant s old.parts old.lines) at

  good : AreGood (format_of old) (in_entry count old.parts before_tag)
  good = subst (AreGood (format_of old)) before is.ready.good

  none : old.partial.items ≡ []
  none = let short = is.short in let wide = ap width before in nil_from_length old.partial.items (omega arith)

  -- if the next part is a tag, the complete parts form a valid state
  pub valid_so_far : IsValid old.parts
  valid_so_far = good.0.valid

  -- a reading that takes a head in one step has read the text up to the head's end, if the parts of the head are good
  pub head_read : (new : StateReading K) (bytes : List ℕ) (part : EntryPart) → AreParts old.parts bytes part
      → stage_meant new.stage old.parts [] ≡ in_entry count old.parts part → IsFresh new.stage old.parts → old.reached + length bytes ≤ old.limit
      → new.parts ≡ old.parts → new.lines ≡ [] → new.partial.items ≡ old.partial.items → new.reached ≡ old.reached + length bytes
      → new.item_at ≡ old.item_at → new.limit ≡ old.limit → format_of new ≡ format_of old → ReadsOn old new bytes
  head_read = search (rules, good, append-nil, none, before, length-append)
