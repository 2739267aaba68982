use Rattle.cif_laws.proofs.Common.{◌≡◌, ℕ, List, [], ◌∷◌, ap, length, refl, rules, subst, arith, schedule_body}
use Rattle.cif_change.specs.Meaning.{body_meant, key_meant}
use Rattle.state_index.specs.Rooms.{Includes}
use Rattle.state_index.proofs.Surveyed.{grown_association, grown_schedule, still_listed}
use Rattle.state_index.proofs.survey.Survey.survey_body.Goals as goal

pub returns-in_ok-list_locations-in-Schedule-Schedule : goal.returns-in_ok-list_locations-in-Schedule-Schedule
returns-in_ok-list_locations-in-Schedule-Schedule c = λ ok.
    let body : body_meant c.args.body.now ≡ schedule_body c.as_slice.result.now = search rules in
    let len = ap length c.as_slice.ensures in
    let lines = c.len.ensures in
    let counted = c.count.ensures.calls ok in
    let row = c.count.ensures.rows ok in
    let calls = c.list_locations.ensures.calls in
    let rows = c.list_locations.ensures.rows in
    grown_schedule _ _ _ _ (ap key_meant c.in-Schedule-Schedule.is-0) body _ _ (still_listed _ _ _ c.count.ensures.names c.list_locations.ensures.kept)
    (still_listed _ _ _ c.count.ensures.names (c.in_ok-list_locations-in-Schedule-Schedule.ensures.listed refl)) (omega arith) (omega arith)

pub returns-in_ok-list-in-Assoc-Assoc : goal.returns-in_ok-list-in-Assoc-Assoc
returns-in_ok-list-in-Assoc-Assoc c = λ ok.
    let counted = c.count-in-Assoc-Assoc.ensures.calls ok in
    let row = c.count-in-Assoc-Assoc.ensures.rows ok in
    let calls = c.list.ensures.calls in
    let rows = c.list.ensures.rows in
    grown_association (key_meant c.args.key.now) (body_meant c.args.body.now) _ _ (ap key_meant c.in-Assoc-Assoc.is-0) (ap body_meant c.in-Assoc-Assoc.is-1)
    c.args.self.now c.count-in-Assoc-Assoc.new.self
    (still_listed c.args.self.now.names.items c.list.new.self.names.items c.count-in-Assoc-Assoc.new.self.names.items c.count-in-Assoc-Assoc.ensures.names
    c.list.ensures.kept)
    (still_listed (c.in-Assoc-Assoc.key.location ∷ []) c.list.new.self.names.items c.count-in-Assoc-Assoc.new.self.names.items
    c.count-in-Assoc-Assoc.ensures.names
    (subst (λ (place : List ℕ). Includes (place ∷ []) c.list.new.self.names.items) c.bytes.ensures.bytes
    (c.in_ok-list-in-Assoc-Assoc.ensures.listed refl)))
    (omega arith) (omega arith)
