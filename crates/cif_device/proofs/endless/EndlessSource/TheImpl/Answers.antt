-- A read never fails, and contracts can't refer to the bytes that are left in the source.
use Rattle.std.proofs.Common.{rules}
use Rattle.cif_device.proofs.endless.EndlessSource.TheImpl.Goals as goal

pub read-tells : goal.read-tells
read-tells g c = search rules
