use Rattle.std.proofs.Common.{◌≡◌, arith}
use Rattle.docker_model.specs.state.StatePart.{width}
use Rattle.docker_bytes.specs.StateReading.{before_of}
use Rattle.docker_bytes.proofs.TextEnd.{whole_text, wanting_at_end}
use Rattle.docker_bytes.proofs.reading.StateReading.finish.Goals as goal

pub returns-in-Ok-clause-ok : goal.returns-in-Ok-clause-ok
returns-in-Ok-clause-ok g c =
    let told = c.width.ensures.value c.args.self.parts c.args.self.lines in
    let low = c.if-width-gt0.false in
    let none : width (before_of c.args.self) ≡ 0 = omega arith in
    record { state = c.args.self.parts; is = whole_text c.args.self c.requires none; made_of = c.in-Ok.ensures }

pub returns-clause-err : goal.returns-clause-err
returns-clause-err g c =
    let told = c.width.ensures.value c.args.self.parts c.args.self.lines in
    let low = c.if-width-gt0.false in
    wanting_at_end c.args.self c.requires (omega arith)
