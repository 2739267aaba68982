-- The texts on a shelf.
use Rattle.std.specs.Prelude.{◌≡◌, ℕ, ◌-◌, ◌^◌, ◌<◌, ◌≤◌, if◌then◌else◌, List, [], ◌∷◌, length, string_bytes}
use Rattle.std.specs.Str.{bytes_eq}
use Rattle.docker_host.specs.History.{Text, Event}
use Rattle.docker_host.specs.Standing.{IsStandingOf}
use Rattle.docker_host.specs.Counts.{IsCountOf}
use Rattle.docker_host.specs.Shelf.{Texts, no_texts, with_text, after_events, AreMet, last_put, shelf_standing, text_under}
use Rattle.docker_host.specs.declared.shelf.Place.{Place}

-- the text of each name on a shelf with these files. If several files have the same name, the text
-- of the first of them counts
abbrev pub texts_of : List Place → Texts
texts_of [] = no_texts
texts_of (place ∷ places) = with_text (string_bytes place.name) place.text.items (texts_of places)

-- how many events the shelf had counted once the text of this name was placed; 0 if there is no such
-- file
abbrev pub since_when : List Place → Text → ℕ
since_when [] name = 0
since_when (place ∷ places) name =
    if bytes_eq (string_bytes place.name) name then place.since else since_when places name

-- since this number of events, the file with this name has held the same text
abbrev pub HoldsSince : List Event → Text → ℕ → Type 0
HoldsSince events name since = (position : ℕ) → since ≤ position → position ≤ length events
    → shelf_standing events position name ≡ text_under events name

-- the shelf agrees with its history. Whenever a file was opened, it held the text that had last
-- been placed under its name. Whenever a draft was made, its file had held the same text since the
-- look. Each file now holds the text that was last placed under its name. It has held this text
-- since the event that the shelf counted, unless the shelf has counted as far as it can. The shelf
-- has counted this event
pub record IsKept (places : List Place) (events : List Event) : Type 0 where
  pub met : AreMet no_texts events
  pub standing : IsStandingOf (shelf_standing events) events
  pub same : (name : Text) → texts_of places name ≡ after_events no_texts events name
  pub since : (name : Text) → since_when places name < 2 ^ 64 - 1
      → HoldsSince events name (since_when places name)
  pub counted : (name : Text) → IsCountOf (since_when places name) (last_put events name)
