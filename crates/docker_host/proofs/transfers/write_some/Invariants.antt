-- So far each try was interrupted, and left known bytes as they were.
use Rattle.std.specs.Io.KnownBytes.{Keeps}
use Rattle.docker_host.proofs.transfers.write_some.Given as goal

abbrev pub invariant-tries : goal.invariant-tries
invariant-tries g l = Keeps (g.W.Write.contents l.fn.to) (g.W.Write.contents l.to)
