-- All devices that a session uses.
use Rattle.std.specs.Prelude.{ℕ, ◌^◌, ◌-◌, ◌<◌, List}
use Rattle.docker_host.specs.History.{Event}
use Rattle.docker_host.specs.FaultSink.{FaultsView}
use Rattle.docker_host.specs.Streams.{StreamsView}

-- all devices of a session at one moment
pub record SessionHostView : Type 0 where
  -- the input, the output, and the calls to them
  pub streams : StreamsView
  -- the events of the folder, oldest first, and its failure count
  pub history : List Event
  pub folder_failures : ℕ
  -- the sink of faults
  pub faults : FaultsView

-- each device has failed fewer than 2^64 - 1 times, so one more failure can be counted
pub record FailedFew (host : SessionHostView) : Type 0 where
  pub input : host.streams.input_failures < 2 ^ 64 - 1
  pub folder : host.folder_failures < 2 ^ 64 - 1
  pub output : host.streams.output_failures < 2 ^ 64 - 1
  pub faults : host.faults.failures < 2 ^ 64 - 1
