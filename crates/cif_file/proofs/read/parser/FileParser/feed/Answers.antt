-- If the parser has returned a fault, it returns it again. Otherwise it reads the piece.
use Rattle.cif_laws.proofs.Common.{◌++◌, refl}
use Rattle.cif_file.proofs.ParserLemmas.{reported_stays, reading_tells_none, failed_with, reading_of, none_at_reading, names_later}
use Rattle.cif_file.proofs.read.parser.FileParser.feed.Goals as goal

pub returns-in-Some-clause-read : goal.returns-in-Some-clause-read
returns-in-Some-clause-read c = λ limit text has.
    let had = failed_with _ _ _ c.self.view_is c.in-Some.is in
    had.read limit (text ++ c.args.piece.now) (reported_stays limit text c.args.piece.now c.in-Some.fault (had.told limit text has))

pub returns-in-Some-clause-err : goal.returns-in-Some-clause-err
returns-in-Some-clause-err c = λ limit text has.
    reported_stays limit text c.args.piece.now c.in-Some.fault ((failed_with _ _ _ c.self.view_is c.in-Some.is).told limit text has)

pub returns-in-Ok-clause-read : goal.returns-in-Ok-clause-read
returns-in-Ok-clause-read c = λ limit text has. none_at_reading _ _ _ c.in_default.is
    (c.in-Ok.ensures.read limit text (reading_of _ _ c.self.view_is c.in_default.is limit text has))

pub returns-in-Ok-clause-ok : goal.returns-in-Ok-clause-ok
returns-in-Ok-clause-ok c = λ limit text has. reading_tells_none _ _ _ _
    (c.in-Ok.ensures.read limit text (reading_of _ _ c.self.view_is c.in_default.is limit text has))

pub returns-in-Err-clause-read : goal.returns-in-Err-clause-read
returns-in-Err-clause-read c = λ limit text has. c.in-Err.ensures.err limit text (reading_of _ _ c.self.view_is c.in_default.is limit text has)

pub returns-in-Err-clause-err : goal.returns-in-Err-clause-err
returns-in-Err-clause-err c = λ limit text has. c.in-Err.ensures.err limit text (reading_of _ _ c.self.view_is c.in_default.is limit text has)

pub invariant_of-self : goal.invariant_of-self
invariant_of-self c =
    let fed = c.self.invariant in
    record {
      limit = fed.limit;
      text = fed.text ++ c.args.piece.now;
      read =
          none_at_reading (record { reading = c.feed.new.self; fault = c.self.inside.fault }) fed.limit (fed.text ++ c.args.piece.now) c.in_default.is
          (c.in-Ok.ensures.read fed.limit fed.text (reading_of _ _ refl c.in_default.is fed.limit fed.text fed.read));
    }

pub invariant_of-self-in-Err : goal.invariant_of-self-in-Err
invariant_of-self-in-Err c =
    let fed = c.self.invariant in
    record {
      limit = fed.limit;
      text = fed.text ++ c.args.piece.now;
      read = c.in-Err.ensures.err fed.limit fed.text (reading_of _ _ refl c.in_default.is fed.limit fed.text fed.read);
    }

pub returns-in-Some-clause-later : goal.returns-in-Some-clause-later
returns-in-Some-clause-later c = λ none. absurd ((failed_with _ _ _ c.self.view_is c.in-Some.is).none none)

pub returns-in-Err-clause-later : goal.returns-in-Err-clause-later
returns-in-Err-clause-later c = names_later _ _ _ c.self.view_is c.in_default.is c.in-Err.ensures.later
