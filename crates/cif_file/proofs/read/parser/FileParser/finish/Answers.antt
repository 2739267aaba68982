-- A fault that `feed` has returned is a fault of the whole text.
use Rattle.cif_laws.proofs.Common.{sym, subst}
use Rattle.cif_file.specs.ParserRead.{IsOfFileText}
use Rattle.cif_file.proofs.EndedLemmas.{of_file, are_parts_some}
use Rattle.cif_file.proofs.ParserLemmas.{reported_refused, failed_with, reading_of, names_later, names_last}
use Rattle.cif_file.proofs.read.parser.FileParser.finish.Goals as goal

pub returns-in-Some-clause-err : goal.returns-in-Some-clause-err
returns-in-Some-clause-err c = λ limit text has.
    reported_refused limit text c.in-Some.fault ((failed_with _ _ _ c.self.view_is c.in-Some.is).told limit text has)

pub returns-in-Some-clause-later : goal.returns-in-Some-clause-later
returns-in-Some-clause-later c = λ none. absurd ((failed_with _ _ _ c.self.view_is c.in-Some.is).none none)

pub returns-in-Some-clause-last : goal.returns-in-Some-clause-last
returns-in-Some-clause-last c = λ none. absurd ((failed_with _ _ _ c.self.view_is c.in-Some.is).none none)

pub into_file-requires : goal.into_file-requires
into_file-requires c = are_parts_some (record { reading = c.self.inside.reading; fault = c.self.inside.fault }) c.in-Ok.ended
    c.self.invariant c.in-None.is c.in-Ok.ensures.ok

pub returns-in-Ok-clause-ok : goal.returns-in-Ok-clause-ok
returns-in-Ok-clause-ok c = λ limit text has. subst (λ file. IsOfFileText file limit text) (sym c.into_file.ensures) (of_file _ _ _
    (c.in-Ok.ensures.ok limit text (reading_of _ _ c.self.view_is c.in-None.is limit text has)))

pub returns-in-Err-clause-err : goal.returns-in-Err-clause-err
returns-in-Err-clause-err c = λ limit text has. c.in-Err.ensures.err limit text (reading_of _ _ c.self.view_is c.in-None.is limit text has)

pub returns-in-Err-clause-later : goal.returns-in-Err-clause-later
returns-in-Err-clause-later c = names_later _ _ _ c.self.view_is c.in-None.is c.in-Err.ensures.later

pub returns-in-Err-clause-last : goal.returns-in-Err-clause-last
returns-in-Err-clause-last c = names_last _ _ _ c.self.view_is c.in-None.is c.in-Err.ensures.last
