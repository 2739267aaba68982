use Rattle.std.proofs.Common.{◌≡◌, sym, ap, subst, arith, is_ok}
use Rattle.docker_model.specs.state.StatePart.{width}
use Rattle.state_text.specs.declared.cause.StateCause.{StateCause}
use Rattle.state_text.specs.FaultMeaning.{cause_meant}
use Rattle.docker_bytes.specs.StateReading.{format_of, before_of, text_of, IsCauseAtEnd}
use Rattle.docker_bytes.proofs.TextEnd.{whole_text, wanting_at_end, short_at_end}
use Rattle.docker_bytes.proofs.reading.StateReading+Received+R.join.Goals as goal

pub returns-then-width-gt0-clause-err : goal.returns-then-width-gt0-clause-err
returns-then-width-gt0-clause-err g c =
    let told = c.width.ensures.value c.args.self.parts c.args.self.lines in
    let some = c.if-width-gt0.true in
    short_at_end c.args.self c.requires (omega arith)

pub returns-in-Ok-clause-ok : goal.returns-in-Ok-clause-ok
returns-in-Ok-clause-ok g c = λ ok.
    let told = c.width.ensures.value c.args.self.parts c.args.self.lines in
    let low = c.if-width-gt0.false in
    let none : width (before_of c.args.self) ≡ 0 = omega arith in record {
      received = c.args.self.parts;
      is = whole_text c.args.self c.requires none;
      join = c.join-state.ensures.ok (ap is_ok c.in-Ok.is);
    }

pub returns-clause-err : goal.returns-clause-err
returns-clause-err g c =
    let told = c.width.ensures.value c.args.self.parts c.args.self.lines in
    let low = c.if-width-gt0.false in
    subst (λ (k : StateCause). IsCauseAtEnd (format_of c.args.self) c.args.self.limit (text_of c.args.self) c.args.self.item_at (cause_meant k))
    (sym c.from-cause.ensures) (wanting_at_end c.args.self c.requires (omega arith))
