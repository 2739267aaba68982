-- A record after the trailer is refused with the cause `After`. For any other record, the cause
-- follows from the record's kind and fields.
use Rattle.cif_laws.proofs.Common.{◌∙◌, sym, false≢true}
use Rattle.cif_file.proofs.AnswerLemmas.{if_err_by}
use Rattle.cif_file.proofs.ParserLemmas.{after_cause, front_cause}
use Rattle.cif_file.proofs.read.next_record.take_within.Goals as goal

pub returns-then-is_ended-clause-err : goal.returns-then-is_ended-clause-err
returns-then-is_ended-clause-err g c = λ limit records has under. after_cause _ _ _ _ _ has ((c.is_ended.ensures records has).0 c.if-is_ended.true) under

pub returns-clause-err : goal.returns-clause-err
returns-clause-err g c =
    if_err_by c.take.result
    (λ cause told. λ limit records has under.
    front_cause g.K.ChangeKeeper.wants limit records c.args.line.now cause under
    (told records has (λ is. false≢true (sym c.if-is_ended.false ∙ (c.is_ended.ensures records has).1 is))))
    c.take.ensures.err
