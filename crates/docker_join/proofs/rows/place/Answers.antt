use Rattle.cif_laws.proofs.Common.{◌∷◌, refl, ap, ◌∙◌}
use Rattle.docker_join.proofs.PlacedRows.{one_placed, level_is_placed}
use Rattle.docker_join.proofs.rows.place.Goals as goal

pub returns-in-Some-clause-placed : goal.returns-in-Some-clause-placed
returns-in-Some-clause-placed g c = level_is_placed _ _ _ _ _ _ c.args.rows.now.ok.0 c.requires.left
    _ c.run_above-run.ensures _ c.rotate_right.ensures.items refl _ _ _ c.in-Some.ensures.taken.0 c.in-Some.ensures.taken.1.0 c.in-Some.ensures.taken.1.1
    (c.push_front_reserved.ensures.items ∙ ap (λ value. (c.in-Some.own.0, value) ∷ c.take_level.new.rows.items) c.pick.ensures)

pub returns-in-None-clause-placed : goal.returns-in-None-clause-placed
returns-in-None-clause-placed g c = one_placed _ _ _ _ _ _ c.args.rows.now.ok.0 c.requires.left _ c.run_above-run.ensures _ c.rotate_right.ensures.items refl
    _ (rw (← c.rotate_right.ensures.len) c.in-None.ensures.taken.1)
    (c.push_front_reserved-in-None.ensures.items ∙ ap (λ rows. c.args.row ∷ rows) c.in-None.ensures.taken.0)
