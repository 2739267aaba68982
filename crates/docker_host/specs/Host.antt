-- All devices that a program uses.
use Rattle.std.specs.Prelude.{ℕ, ◌^◌, ◌-◌, ◌<◌, Bool, List}
use Rattle.docker_host.specs.History.{Bytes, Event}

-- all devices of a program at one moment. Bytes are `None` if contracts can't say which bytes they
-- are
pub record HostView : Type 0 where
  -- the bytes left in the input, whether its end was reported, and whether the input was read after
  -- that
  pub input : Bytes
  pub ended : Bool
  pub passed : Bool
  -- the events of the folder, oldest first
  pub history : List Event
  -- the bytes that the output has taken
  pub output : Bytes
  -- the bytes that the sink of faults has taken
  pub faults : Bytes
  -- the failure count of each device
  pub input_failures : ℕ
  pub folder_failures : ℕ
  pub output_failures : ℕ
  pub faults_failures : ℕ

-- each device has failed fewer than 2^64 - 1 times, so one more failure can be counted
pub record AreFew (host : HostView) : Type 0 where
  pub input : host.input_failures < 2 ^ 64 - 1
  pub folder : host.folder_failures < 2 ^ 64 - 1
  pub output : host.output_failures < 2 ^ 64 - 1
  pub faults : host.faults_failures < 2 ^ 64 - 1
