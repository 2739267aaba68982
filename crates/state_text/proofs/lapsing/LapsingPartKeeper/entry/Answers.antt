use Rattle.cif_laws.proofs.Common.{ap, sym, subst, Entry, IsStampHere}
use Rattle.cif_change.specs.Meaning.{key_meant}
use Rattle.docker_join.specs.Meaning.{stamp_meant}
use Rattle.state_text.proofs.LapsingLemmas.{kept_here}
use Rattle.state_text.proofs.lapsing.LapsingPartKeeper.entry.Goals as goal

pub entry-requires-clause-here : goal.entry-requires-clause-here
entry-requires-clause-here g c =
    let it = c.self.inside in
    let key = key_meant c.args.key in
    let stamp = stamp_meant c.args.entry.stamp in
    subst (IsStampHere it.parts key) (sym (ap (λ (entry : Entry). entry.stamp) c.lapse.ensures.lapsed)) (kept_here _ _ _ _ c.self.invariant _ _
    (subst (λ state. IsStampHere state key stamp) (sym c.self.view_is) c.requires.here))
