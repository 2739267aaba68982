-- A source that fails at one call has the same bytes left as its inner device.
use Rattle.std.proofs.Common.{rules}
use Rattle.std.proofs.lemmas.Result.{on_err_weaker}
use Rattle.cif_device.proofs.fuse.FuseBytesSource.TheImpl.Goals as goal

pub read-tells : goal.read-tells
read-tells g c = search (rules, on_err_weaker)
