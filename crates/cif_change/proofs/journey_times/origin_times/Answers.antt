-- An origin has one time, its departure.
use Rattle.cif_laws.proofs.Common.{[], ◌∷◌, sym, ap, ◌∙◌, refl, columns, half_minutes}
use Rattle.cif_change.proofs.JourneyLemmas.{origin_time}
use Rattle.cif_change.proofs.journey_times.origin_times.Goals as goal

pub returns-clause-value : goal.returns-clause-value
returns-clause-value c =
    origin_time c.args.line.now c.requires.kind (c.in_ok-view.ensures.ok.0 refl)
    ∙ (λ i. sym (c.departure.ensures ∙ ap (λ view. half_minutes (columns 11 15 view)) c.in_ok-view.ensures.value) i ∷ [])
    ∙ sym c.one.ensures
