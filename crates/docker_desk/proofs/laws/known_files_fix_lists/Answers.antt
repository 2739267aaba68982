use Rattle.cif_laws.proofs.Common.{subst, State, live_table, IsKnownText, IsPlacesText}
use Rattle.docker_desk.proofs.FixedLemmas.{one_state}
use Rattle.docker_desk.proofs.laws.known_files_fix_lists.Goals as goal

pub returns-clause-places : goal.returns-clause-places
returns-clause-places c = λ first second one two left right same text other is is_too. c.one_places_text.ensures (live_table two) text other
    (subst (λ (state : State). IsPlacesText (live_table state) text) (one_state _ _ _ _ left right same) is) is_too

pub returns-clause-known : goal.returns-clause-known
returns-clause-known c = λ first second one two left right same text other is is_too. c.one_known_text.ensures two text other
    (subst (λ (state : State). IsKnownText state text) (one_state _ _ _ _ left right same) is) is_too
