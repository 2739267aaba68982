use Rattle.cif_laws.proofs.Common.{List, subst, IfOk-weaker, Key, Entry}
use Rattle.docker_laws.specs.Thinning.{shortened}
use Rattle.docker_excerpt.specs.ExcerptWalk.{HasWalked}
use Rattle.docker_excerpt.proofs.day_walk.DayWalk.finish.Goals as goal

pub returns : goal.returns
returns c =
    let it = c.args.self in
    IfOk-weaker c.finish.result _ _
    (λ rows told state passed. told (shortened it.walk.place it.day state)
    (subst (λ (near : List (Key × Entry)). HasWalked it.walk near) passed.near_is passed.walked)) c.finish.ensures
