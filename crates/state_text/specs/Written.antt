-- Defines what a sink has taken when bytes are written through a buffer.
use Rattle.std.specs.Prelude.{◌≡◌, ℕ, ◌+◌, List, ◌++◌, length, Option, Result, Ok, Err}
use Rattle.std.specs.List.{flat_map}
use Rattle.std.specs.Int.{w64, to_be_bytes}
use Rattle.docker_model.specs.state.State.{State}
use Rattle.docker_model.specs.state.StateText.{item_bytes, entry_bytes}
use Rattle.cif_device.specs.Device.{Takes, TakesPart}

-- the text of a state after the count of ledger items: the items, the count of entries, and the
-- entries
abbrev pub body_text : State → List ℕ
body_text state = flat_map item_bytes state.ledger ++ to_be_bytes w64 (length state.entries) ++ flat_map entry_bytes state.entries

-- says that a piece was appended to the bytes that the buffer held. The sink has taken a prefix of
-- the result, and the buffer holds the rest
abbrev pub Gathers : Option (List ℕ) → List ℕ → List ℕ → Option (List ℕ) → List ℕ → Type 0
Gathers old held piece new holds = (front : List ℕ) × (front ++ holds ≡ held ++ piece) × Takes old front new

-- says what the result of writing a piece through a buffer means. On success, the piece was
-- appended as `Gathers` says. On failure, the sink has failed once, and has taken a proper prefix
-- of the buffer's bytes and the piece
abbrev pub Gives : {S A E : Type 0} → (S → Option (List ℕ)) → (S → ℕ) → S → List ℕ → List ℕ → Result A E → S → List ℕ → Type 0
Gives taken failures old held piece (Ok done) new holds = Gathers (taken old) held piece (taken new) holds × (failures new ≡ failures old)
Gives taken failures old held piece (Err failed) new holds = TakesPart (taken old) (held ++ piece) (taken new) × (failures new ≡ failures old + 1)

-- says what the result of writing bytes to a sink means. On success, the sink has taken all of the
-- bytes. On failure, the sink has failed once and has taken a proper prefix of the bytes
abbrev pub Flushes : {S A E : Type 0} → (S → Option (List ℕ)) → (S → ℕ) → S → List ℕ → Result A E → S → Type 0
Flushes taken failures old bytes (Ok done) new = Takes (taken old) bytes (taken new) × (failures new ≡ failures old)
Flushes taken failures old bytes (Err failed) new = TakesPart (taken old) bytes (taken new) × (failures new ≡ failures old + 1)
