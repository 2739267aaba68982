use Rattle.cif_laws.proofs.Common.{◌≡◌, List, [], ◌∷◌, map, refl, rules, sym, subst}
use Rattle.state_index.specs.NamedPlaces.{call_places, link_places}
use Rattle.cif_change.specs.declared.key.Key.{Key}
use Rattle.docker_join.specs.declared.entry.Entry.{Entry}
use Rattle.docker_join.specs.Meaning.{row_meant}
use Rattle.state_index.specs.Rooms.{Includes, HasGrownBy, items_of, places_in}
use Rattle.state_index.proofs.Positions.{none_left}
use Rattle.state_index.proofs.Surveyed.{known_rest, grown_known, grown_none, grown_then}
use Rattle.state_index.proofs.survey.Survey.count_rows.Goals as goal

pub loop-row-preserved : goal.loop-row-preserved
loop-row-preserved c =
    let whole : c.loop-row.rest.now ≡ c.in-Some.row.now ∷ c.in-Some.behind.now = search rules in
    let calls : Includes (places_in call_places (items_of (map row_meant (c.in-Some.row.now ∷ c.in-Some.behind.now)))) c.loop-row.self.names.items =
    subst (λ (rest : List (Key × Entry)). Includes (places_in call_places (items_of (map row_meant rest))) c.loop-row.self.names.items) whole
    c.loop-row.invariant.calls in
    let links : Includes (places_in link_places (items_of (map row_meant (c.in-Some.row.now ∷ c.in-Some.behind.now)))) c.loop-row.self.names.items =
    subst (λ (rest : List (Key × Entry)). Includes (places_in link_places (items_of (map row_meant rest))) c.loop-row.self.names.items) whole
    c.loop-row.invariant.links in
    record {
      calls = known_rest call_places ((row_meant c.in-Some.row.now).0, (row_meant c.in-Some.row.now).1.op) (items_of (map row_meant c.in-Some.behind.now))
          c.loop-row.self.names.items c.count.new.self.names.items c.count.ensures.names calls;
      links = known_rest link_places ((row_meant c.in-Some.row.now).0, (row_meant c.in-Some.row.now).1.op) (items_of (map row_meant c.in-Some.behind.now))
          c.loop-row.self.names.items c.count.new.self.names.items c.count.ensures.names links;
      grown = λ new behind. c.loop-row.invariant.grown new
          (subst (λ (rest : List (Key × Entry)). HasGrownBy (items_of (map row_meant rest)) c.loop-row.self new) (sym whole)
          (grown_then (((row_meant c.in-Some.row.now).0, (row_meant c.in-Some.row.now).1.op) ∷ []) (items_of (map row_meant c.in-Some.behind.now))
          c.loop-row.self c.count.new.self new
          (grown_known ((row_meant c.in-Some.row.now).0, (row_meant c.in-Some.row.now).1.op) (items_of (map row_meant c.in-Some.behind.now))
          c.loop-row.self c.count.new.self calls links c.count.ensures.names c.most_calls.result (c.most_calls.ensures (row_meant c.in-Some.row.now).0)
          (c.in_ok-count.ensures.calls refl) (c.in_ok-count.ensures.rows refl)) behind));
    }

pub returns : goal.returns
returns c = λ ok. c.loop-row.invariant.grown c.loop-row.self
    (subst (λ (rest : List (Key × Entry)). HasGrownBy (items_of (map row_meant rest)) c.loop-row.self c.loop-row.self)
    (sym (none_left _ c.in_default.ensures.cases)) (grown_none _))
