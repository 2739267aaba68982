-- So far each try was interrupted, and left known bytes as they were.
use Rattle.std.specs.Io.KnownBytes.{Keeps}
use Rattle.docker_host.proofs.transfers.read_some.Given as goal

abbrev pub invariant-tries : goal.invariant-tries
invariant-tries g l = Keeps (g.R.Read.remaining l.fn.from) (g.R.Read.remaining l.from)
