use Rattle.cif_laws.proofs.Common.{subst}
use Rattle.docker_cmd.specs.Words.{OfTwo}
use Rattle.docker_desk.specs.Queries.{ArePlaceAndDay}
use Rattle.docker_desk.proofs.requests.place_and_day.Goals as goal

pub returns-clause-none : goal.returns-clause-none
returns-clause-none c = λ none place day of.
    let both = subst (OfTwo (ArePlaceAndDay place day)) c.in_ok-tiploc.ensures of in
    c.place_and_day.ensures.none none place day both.named both.dated
