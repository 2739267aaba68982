-- What the properties of a file say about it.
use Rattle.std.specs.Prelude.{◌≡◌, ◌≢◌, ℕ, bit_and, false}
use Rattle.std.specs.Fs.{IsFile, file_type, metadata_mode}
use Rattle.std.specs.declared.fs.attrs.Metadata.{Metadata}
use Rattle.docker_host.specs.declared.version.Version.{Version}

-- the draft bit: the sticky bit
abbrev pub draft_bit : ℕ
draft_bit = 0o1000

-- a regular file with the draft bit
pub record HasDraftBit (file : Metadata) : Type 0 where
  pub regular : IsFile (file_type file)
  pub marked : bit_and (metadata_mode file) draft_bit ≢ 0

-- both versions are of the same pipe or device: neither is of a regular file, and device, number and
-- the time of making are the same
pub record AreOfOnePipe (one other : Version) : Type 0 where
  pub first : one.regular ≡ false
  pub second : other.regular ≡ false
  pub device : one.device ≡ other.device
  pub node : one.node ≡ other.node
  pub made : one.made ≡ other.made
