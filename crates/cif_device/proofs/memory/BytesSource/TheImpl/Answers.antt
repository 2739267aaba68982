-- A read never fails. So the clauses on failures, which every source must satisfy, hold.
use Rattle.std.proofs.Common.{rules}
use Rattle.cif_device.proofs.memory.BytesSource.TheImpl.Goals as goal

pub read-tells : goal.read-tells
read-tells g c = search rules
