-- An input and an output, and what one call to them changes.
use Rattle.std.specs.Prelude.{◌≡◌, ℕ, ◌+◌, ◌<◌, Bool, List, [], ◌∷◌, ◌++◌, length, take, Result, Ok, Err, ⊤}
use Rattle.cif_device.specs.Device.{Reads, IsEnd, Ends, Takes}
use Rattle.cif_device.specs.declared.device.Failed.{Failed}
use Rattle.docker_host.specs.History.{Bytes, Text}
use Rattle.docker_host.specs.Exchanges.{Exchange, read, unread, unwritten, AreWrites, bytes_written}

-- an input and an output at one moment. Bytes are `None` if contracts can't say which bytes they
-- are
pub record StreamsView : Type 0 where
  -- the bytes left in the input, whether its end was reported, and whether the input was read after
  -- that
  pub input : Bytes
  pub ended : Bool
  pub passed : Bool
  -- the bytes that the output has taken
  pub output : Bytes
  -- the failure count of each device
  pub input_failures : ℕ
  pub output_failures : ℕ
  -- the calls to the two devices, oldest first
  pub exchanges : List Exchange

-- one read returned these `n` bytes; the buffer had the length `room`. Nothing else changed
pub record ReadsOnce (n room : ℕ) (bytes : Text) (old new : StreamsView) : Type 0 where
  pub moved : Reads old.input bytes new.input
  pub end : n ≡ 0 → 0 < room → IsEnd old.input
  pub ending : Ends n room old.ended new.ended old.passed new.passed
  pub only : new
      ≡ record old {
        input = new.input;
        ended = new.ended;
        passed = new.passed;
        exchanges = old.exchanges ++ read bytes ∷ [];
      }

-- the streams after a read that failed
abbrev pub after_unread : StreamsView → StreamsView
after_unread old =
    record old {
      input_failures = old.input_failures + 1;
      exchanges = old.exchanges ++ unread ∷ [];
    }

-- the output took these bytes, in these exchanges. Nothing else changed
pub record Writes (bytes : Text) (gained : List Exchange) (old new : StreamsView) : Type 0 where
  pub takes : Takes old.output bytes new.output
  pub writes : AreWrites gained
  pub are : bytes_written gained ≡ bytes
  pub only : new
      ≡ record old {
        output = new.output;
        output_failures = new.output_failures;
        exchanges = old.exchanges ++ gained;
      }

-- the streams after a write that failed
abbrev pub after_unwritten : StreamsView → StreamsView
after_unwritten old =
    record old {
      output_failures = old.output_failures + 1;
      exchanges = old.exchanges ++ unwritten ∷ [];
    }

-- the output took the whole text
pub record WritesWhole (text : Text) (old new : StreamsView) : Type 0 where
  pub gained : List Exchange
  pub writes : Writes text gained old new
  pub failures : new.output_failures ≡ old.output_failures

-- the output took the first `n` bytes of the text, a proper prefix of the text, and then failed
pub record WritesPart (text : Text) (old new : StreamsView) : Type 0 where
  pub n : ℕ
  pub short : n < length text
  pub gained : List Exchange
  pub writes : Writes (take n text) gained old new
  pub failures : new.output_failures ≡ old.output_failures + 1

-- writing a text to the output ended with this result: the output took the whole text, or it failed
-- and took only a proper prefix of the text. No call but writes was made
abbrev pub EndsWriting : Result ⊤ Failed → Text → StreamsView → StreamsView → Type 0
EndsWriting (Ok done) text old new = WritesWhole text old new
EndsWriting (Err failed) text old new = WritesPart text old new
