-- Which events can happen at which position of a folder's history.
use Rattle.std.proofs.Common.{◌≡◌, ℕ, ◌+◌, ◌≤◌, List, [], ◌∷◌, ◌++◌, length, arith, sym, ◌∙◌, rules}
use Rattle.docker_host.specs.History.{Text, Event, opened, drafted, placed}
use Rattle.docker_host.specs.Standing.{Standing, HappensAt, HappenFrom}

-- if two functions agree up to a position, events that can happen by one of them up to this position can
-- happen by the other
pub happen_as : (one two : Standing) (limit : ℕ) → ((position : ℕ) (name : Text) → position ≤ limit → one position name ≡ two position name)
    → (now : ℕ) (events : List Event) → now + length events ≤ limit → HappenFrom one now events → HappenFrom two now events
happen_as one two limit same now [] low happen = tt
happen_as one two limit same now (event ∷ events) low happen =
    (by event happen.0, happen_as one two limit same (now + 1) events (omega arith) happen.1)
  where
    by : (event : Event) → HappensAt one now event → HappensAt two now event
    by (opened name bytes) is = is ∙ same now name (omega arith)
    by (drafted name look) is = λ position from to.
        sym (same position name (omega (arith, to, low))) ∙ is position from to ∙ same look name (omega (arith, from, to, low))
    by (placed name bytes) is = sym (same (now + 1) name (omega arith)) ∙ is
    by _ is = tt

-- if these events can happen, and then one more event, they can all happen
pub happen_append : (standing : Standing) (now : ℕ) (events : List Event) (event : Event) → HappenFrom standing now events
    → HappensAt standing (now + length events) event → HappenFrom standing now (events ++ event ∷ [])
happen_append standing now [] event happen last = search rules
happen_append standing now (first ∷ events) event happen last =
    grind (arith, (happen_append standing (now + 1) events event happen.1))

-- if these events can happen, the event `event` can happen at its position
pub happens_at : (standing : Standing) (now : ℕ) (front : List Event) (event : Event) (more : List Event)
    → HappenFrom standing now (front ++ event ∷ more) → HappensAt standing (now + length front) event
happens_at standing now [] event more happen = search rules
happens_at standing now (first ∷ front) event more happen = grind (arith, (happens_at standing (now + 1) front event more happen.1))
