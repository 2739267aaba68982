use Rattle.std.proofs.Common.{rules, ◌≡◌, sym, ap, true, false}
use Rattle.docker_bytes.specs.ParserRead.{ParserState}
use Rattle.docker_bytes.proofs.TextEnd.{not_whole_yet}
use Rattle.docker_bytes.proofs.parser.Parser.feed.Goals as goal

pub returns-in-Ok-clause-done : goal.returns-in-Ok-clause-done
returns-in-Ok-clause-done g c = λ format limit text has whole.
    absurd (not_whole_yet c.args.self.now c.self.inside.reading format limit text (ap (λ (p : ParserState _). p.reading) (sym c.self.view_is)) has
    (λ none. let is : c.is_done.result ≡ true = c.is_done.ensures.1 none in let other : c.is_done.result ≡ false = c.if-is_done.false in cc) whole)

pub returns-in-Err-clause-done : goal.returns-in-Err-clause-done
returns-in-Err-clause-done g c = λ format limit text has whole.
    absurd (not_whole_yet c.args.self.now c.self.inside.reading format limit text (ap (λ (p : ParserState _). p.reading) (sym c.self.view_is)) has
    (λ none. let is : c.is_done.result ≡ true = c.is_done.ensures.1 none in let other : c.is_done.result ≡ false = c.if-is_done.false in cc) whole)

-- The tactic `auto` proves these goals too. Their answers are written out so that a wrong body is
-- refused without a long search.
pub invariant_of-self-in-Err : goal.invariant_of-self-in-Err
invariant_of-self-in-Err g c = search rules

pub returns-in-Err-clause-failed : goal.returns-in-Err-clause-failed
returns-in-Err-clause-failed g c = search rules

pub returns-then-is_done-clause-read : goal.returns-then-is_done-clause-read
returns-then-is_done-clause-read g c = search rules

pub returns-then-is_done-clause-done : goal.returns-then-is_done-clause-done
returns-then-is_done-clause-done g c = search rules
