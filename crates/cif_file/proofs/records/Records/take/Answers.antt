-- A line that is a record is taken. Any other line is refused for its length or for a byte.
use Rattle.cif_laws.proofs.Common.{refl, subst}
use Rattle.cif_file.specs.ParserRead.{CountsNext, FaultsNext}
use Rattle.cif_file.proofs.AnswerLemmas.{if_err_by}
use Rattle.cif_file.proofs.FrontLemmas.{on_ok_one}
use Rattle.cif_file.proofs.ParserLemmas.{refused_line}
use Rattle.cif_file.proofs.records.Records.take.Goals as goal

pub returns-in-Ok-clause-read : goal.returns-in-Ok-clause-read
returns-in-Ok-clause-read g c = on_ok_one _ c.take_line.ensures.read
    (subst (λ line. CountsNext g.K.ChangeKeeper.keeps c.args.self.now line c.take_line.new.self) c.in-Ok.ensures.ok.0)

pub returns-in-Ok-clause-err : goal.returns-in-Ok-clause-err
returns-in-Ok-clause-err g c = if_err_by _
    (λ fault. subst (λ line. FaultsNext g.K.ChangeKeeper.keeps g.K.ChangeKeeper.wants c.args.self.now line fault) c.in-Ok.ensures.ok.0)
    c.take_line.ensures.err

pub returns-in-Err-clause-err : goal.returns-in-Err-clause-err
returns-in-Err-clause-err g c = λ limit records counted. refused_line _ _ _ _ _ _ (c.refused.ensures limit records counted) (c.in-Err.ensures.bad refl)
    c.in-Err.ensures.err
