-- If the schedule can't continue with the line, no file continues with it either, and the cause is
-- the same.
use Rattle.cif_laws.proofs.Common.{ap, ◌∙◌, refl, is_ok, follows_basic}
use Rattle.cif_file.proofs.AnswerLemmas.{at_ok}
use Rattle.cif_file.proofs.FrontLemmas.{followed, bad_line, stands_before, line_goes_on}
use Rattle.cif_file.proofs.records.front.Front.follow.Goals as goal

pub returns-in-Err-clause-err : goal.returns-in-Err-clause-err
returns-in-Err-clause-err g c = λ opened place records has. bad_line _ _ _ _ has c.requires.«record» _ _ _ place
    (ap follows_basic c.requires.kind ∙ c.requires.follows) (c.in-Err.ensures.err opened place)

pub returns-in-Err-add_line-clause-err : goal.returns-in-Err-add_line-clause-err
returns-in-Err-add_line-clause-err g c = λ opened place records has.
    let ok = ap is_ok c.in_default.is in
    let after = followed opened c.args.line.now c.advance.new.self (at_ok c.advance.result (c.advance.ensures.read opened place) ok) in (
      c.in-Err-add_line.ensures.wants,
      line_goes_on g.K.ChangeKeeper.keeps _ after.0 c.args.line.now records
          (stands_before g.K.ChangeKeeper.keeps c.args.self.now _ opened records c.args.line.now has place refl refl c.requires.«record»
          (ap follows_basic c.requires.kind ∙ c.requires.follows) after
          (λ lines read. (c.advance.ensures.ok opened place lines read).0 ok)),
    )

pub returns-in-Ok-clause-read : goal.returns-in-Ok-clause-read
returns-in-Ok-clause-read g c = λ opened place records has.
    let ok = ap is_ok c.in_default.is in
    let after = followed opened c.args.line.now c.advance.new.self (at_ok c.advance.result (c.advance.ensures.read opened place) ok) in
    c.in-Ok.ensures.read after.0 after.1 records
    (stands_before g.K.ChangeKeeper.keeps c.args.self.now _ opened records c.args.line.now has place refl refl c.requires.«record»
    (ap follows_basic c.requires.kind ∙ c.requires.follows) after
    (λ lines read. (c.advance.ensures.ok opened place lines read).0 ok))
