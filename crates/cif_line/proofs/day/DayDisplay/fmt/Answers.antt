use Rattle.std.proofs.lemmas.Str.{IsUtf8-from_ascii}
use Rattle.cif_line.proofs.day.DayDisplay.fmt.Goals as goal

pub unreachable-requires : goal.unreachable-requires
unreachable-requires g c = absurd (c.in-Err.ensures.cases.0 (IsUtf8-from_ascii c.iso.result c.iso.ensures.ascii))
