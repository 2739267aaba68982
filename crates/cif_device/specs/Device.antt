-- How a read changes the bytes that are left in a source, and how a write changes the bytes that a
-- sink has taken. Bytes are `None` if contracts can't refer to them.
use Rattle.std.specs.Prelude.{◌≡◌, ℕ, ◌+◌, ◌-◌, ◌<◌, ◌↔◌, min, Bool, true, false, List, [], ◌++◌, length, take, replicate, ⊤, Option, None, Some, option_map}
use Rattle.std.specs.List.{concat}

-- a read returned these bytes: the bytes that were left before the read are these bytes, followed
-- by the bytes that are left after it. If contracts can't refer to the bytes of the source, `old`
-- and `new` are `None`
abbrev pub Reads : Option (List ℕ) → List ℕ → Option (List ℕ) → Type 0
Reads old bytes new = old ≡ option_map (λ rest. bytes ++ rest) new

-- the device held this text, or contracts can't refer to its bytes
abbrev pub Held : Option (List ℕ) → List ℕ → Type 0
Held None text = ⊤
Held (Some bytes) text = bytes ≡ text

-- no bytes are left in the source, or contracts can't refer to its bytes
abbrev pub IsEnd : Option (List ℕ) → Type 0
IsEnd None = ⊤
IsEnd (Some left) = left ≡ []

-- a successful read of `n` bytes into a buffer of `room` bytes changed `ended` and `passed` correctly. `ended` says whether the source has reported its end. A
-- read of no bytes into a buffer with room sets `ended`, and a read of at least one byte leaves it unchanged. `passed` says whether the source was read after
-- it had reported its end. A read after the end was reported sets `passed`, and any other read leaves it unchanged
abbrev pub Ends : ℕ → ℕ → Bool → Bool → Bool → Bool → Type 0
Ends n room ended now_ended passed now_passed = (n ≡ 0 → 0 < room → now_ended ≡ true)
    × (0 < n → now_ended ≡ ended)
    × (ended ≡ true → now_passed ≡ true)
    × (ended ≡ false → now_passed ≡ passed)

-- if the source hadn't reported its end before, it wasn't read after it reported its end
abbrev pub IsNotPassed : (ended passed now_passed : Bool) → Type 0
IsNotPassed ended passed now_passed = ended ≡ false → now_passed ≡ passed

-- the sink took these bytes: the bytes that it has now taken are the bytes that it had taken
-- before, followed by these bytes
abbrev pub Takes : Option (List ℕ) → List ℕ → Option (List ℕ) → Type 0
Takes old bytes new = new ≡ option_map (λ taken. taken ++ bytes) old

-- the sink took a proper prefix of the piece
abbrev pub TakesPart : Option (List ℕ) → List ℕ → Option (List ℕ) → Type 0
TakesPart old piece new = (n : ℕ) × (n < length piece) × Takes old (take n piece) new

-- if `failed` holds, the failure count rises by one, from `before` to `after`. Otherwise it is
-- unchanged
abbrev pub CountsFailure : Type 0 → ℕ → ℕ → Type 0
CountsFailure failed before after = (failed ↔ (after ≡ before + 1)) × (¬ failed → after ≡ before)

-- a source over a slice. `left` has the bytes that are left, and `step` is the greatest number of
-- bytes that one read returns. `ended` says whether the source has reported its end, and `passed`
-- whether the source was read after it had reported its end
pub record Feed : Type 0 where
  pub left : List ℕ
  pub step : ℕ
  pub ended : Bool
  pub passed : Bool

-- the number of bytes that a read returns if the buffer has the length `room`
abbrev pub read_count : Feed → ℕ → ℕ
read_count feed room = min (min feed.step room) (length feed.left)

-- a sink in memory: the bytes that it has taken, the size of its whole room in bytes, and its
-- failure count
pub record Store : Type 0 where
  pub taken : List ℕ
  pub room : ℕ
  pub failures : ℕ

-- the number of bytes for which the sink still has room
abbrev pub room_left : Store → ℕ
room_left store = store.room - length store.taken

-- a device that fails at one call: its inner device, the number of calls up to and including the
-- failing call, and its failure count. After the failing call the number of calls is 0
pub record Fused (D : Type 0) : Type 0 where
  pub device : D
  pub calls : ℕ
  pub failures : ℕ

-- a source that never ends. `left` has the bytes that are left of its current text, and `again` is
-- the text that it then repeats without end. `step` is the greatest number of bytes that one read
-- returns
pub record Round : Type 0 where
  pub left : List ℕ
  pub again : List ℕ
  pub step : ℕ

-- an endless source returned these bytes. If the bytes that are left now are appended to them, the
-- result is the text that was left before, followed by repetitions of the repeated text. For
-- example, if `a` was left and `bc` is repeated, a read of `abcb` leaves `c`
abbrev pub Goes : Round → List ℕ → Round → Type 0
Goes old bytes new = (new.again ≡ old.again) × (new.step ≡ old.step)
    × (times : ℕ) × (old.left ++ concat (replicate times old.again) ≡ bytes ++ new.left)
