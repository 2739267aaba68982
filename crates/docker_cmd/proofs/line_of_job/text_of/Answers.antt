use Rattle.std.proofs.lemmas.Str.{IsUtf8-from_ascii}
use Rattle.docker_cmd.proofs.LineOfJobLemmas.{line_ascii}
use Rattle.docker_cmd.proofs.line_of_job.text_of.Goals as goal

pub unreachable-requires : goal.unreachable-requires
unreachable-requires c = absurd (c.in-Err.ensures.cases.0 (IsUtf8-from_ascii c.args.line.now (line_ascii c.args.line.now c.requires.printable)))
