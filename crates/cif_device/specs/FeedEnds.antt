-- How the feeding of a taker from a source ends.
use Rattle.std.specs.Prelude.{◌≡◌, ℕ, List, Option, Result, Ok, Err}
use Rattle.cif_device.specs.Device.{IsEnd}
use Rattle.cif_device.specs.Taken.{AfterEach, HasFed, HasRefused, Refusing, Taking}
use Rattle.cif_device.specs.declared.feed.FeedFault.{FeedFault}
use Rattle.cif_device.specs.declared.feed.FeedFault.TheVariants as feed

-- the greatest number of bytes that are read from a source at once
abbrev pub most_at_once : ℕ
most_at_once = 65536

-- feeding ended with this result. `Ok`: the taker has taken this number of bytes, and the source is
-- at its end. `Source`: the source failed, and the taker has taken all bytes that were read before.
-- `Refused`: the taker has taken all bytes before a piece, and refused the piece. `Memory`: nothing
-- was read
abbrev pub EndsFeeding : {T S Fault : Type 0} → Taking T S → Refusing T S Fault → T → T → Option (List ℕ) → Option (List ℕ)
    → Result ℕ (FeedFault Fault) → Type 0
EndsFeeding takes refuses taker after left left_now (Ok count) =
    AfterEach takes taker (λ settings text. HasFed takes count settings text left left_now after) × IsEnd left_now
EndsFeeding takes refuses taker after left left_now (Err feed.Source) =
    AfterEach takes taker (λ settings text. (count : ℕ) × HasFed takes count settings text left left_now after)
EndsFeeding takes refuses taker after left left_now (Err feed.Memory) = (left_now ≡ left) × (after ≡ taker)
EndsFeeding takes refuses taker after left left_now (Err (feed.Refused fault)) =
    AfterEach takes taker (λ settings text. HasRefused takes refuses most_at_once settings text left left_now after fault)
