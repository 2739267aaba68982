use Rattle.cif_laws.proofs.Common.{◌≡◌, List, ap, sym, ◌∙◌, subst, rules, get, is_eq, Group, group_of, AssociationKey, association_key_cmp, Row, AreRowsOf}
use Rattle.docker_laws.specs.Gathering.{counts_as}
use Rattle.docker_laws.specs.LiveRows.{link_in}
use Rattle.docker_state.specs.Timetables.{live_in}
use Rattle.cif_change.specs.Meaning.{association_key_meant}
use Rattle.train_choice.specs.Known.{PlaceDay, group_cmp}
use Rattle.train_choice.proofs.Known.{counts_told}
use Rattle.train_choice.proofs.day_links.DayLinks.counts.Goals as goal

pub returns-in-Some : goal.returns-in-Some
returns-in-Some c =
    let key : AssociationKey = association_key_meant c.args.key.now in
    let same : c.is_eq.result ≡ is_eq (association_key_cmp (association_key_meant c.key.result.now) key) = search rules in
    subst (λ (there : PlaceDay). (rows : List Row) → AreRowsOf (live_in there.timetable) rows
    → c.is_eq.result ≡ counts_as (link_in rows (group_of key) there.day) key) c.self.view_is
    (counts_told (live_in c.self.inside.timetable) c.self.inside.place c.self.inside.day c.self.inside.best key c.in-Some.link.now c.is_eq.result
    c.self.invariant (c.requires ∙ ap (λ (there : PlaceDay). there.place) (sym c.self.view_is))
    (c.in-Some.ensures.value ∙ ap (λ (group : Group). get group_cmp c.self.inside.best group) c.of.ensures)
    (same ∙ ap (λ (other : AssociationKey). is_eq (association_key_cmp other key)) c.key.ensures))
