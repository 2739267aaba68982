use Rattle.cif_laws.proofs.Common.{rules, subst}
use Rattle.docker_cmd.specs.Words.{OfTwo}
use Rattle.docker_desk.specs.Queries.{AreTrainAndDay}
use Rattle.docker_desk.proofs.requests.train_and_day.Goals as goal

pub returns-in_err-uid-clause-none : goal.returns-in_err-uid-clause-none
returns-in_err-uid-clause-none c = λ none uid day of.
    let both = subst (OfTwo (AreTrainAndDay uid day)) c.in_ok-word.ensures of in
    c.in_err-uid.ensures.none (search rules) uid both.named

pub returns-in_err-day-clause-none : goal.returns-in_err-day-clause-none
returns-in_err-day-clause-none c = λ none uid day of.
    let both = subst (OfTwo (AreTrainAndDay uid day)) c.in_ok-word.ensures of in
    let found = c.in_err-day.ensures.read day both.dated.within both.dated.written in
    search rules
