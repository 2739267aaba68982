-- The exchange that a call describes. A program passes a call to the history of exchanges; only
-- proofs see the exchange.
use Rattle.docker_host.specs.Exchanges.{Exchange, read, unread, wrote, unwritten}
use Rattle.docker_host.specs.declared.exchanges.StreamCall.{StreamCall}
use Rattle.docker_host.specs.declared.exchanges.StreamCall.TheVariants as call

-- the exchange that a call describes
abbrev pub exchange_of : StreamCall → Exchange
exchange_of (call.Read bytes) = read bytes.now
exchange_of call.Unread = unread
exchange_of (call.Wrote bytes) = wrote bytes.now
exchange_of call.Unwritten = unwritten
