use Rattle.cif_laws.proofs.Common.{rules, subst}
use Rattle.docker_cmd.specs.Words.{OfTwo}
use Rattle.docker_desk.specs.Queries.{AreIdentityAndDay}
use Rattle.docker_desk.proofs.requests.identity_and_day.Goals as goal

pub returns-in_err-identity-clause-none : goal.returns-in_err-identity-clause-none
returns-in_err-identity-clause-none c = λ none identity day of.
    let both = subst (OfTwo (AreIdentityAndDay identity day)) c.in_ok-word.ensures of in
    c.in_err-identity.ensures.none (search rules) identity both.named
