use Rattle.cif_laws.proofs.Common.{◌≡◌, ◌∙◌, ℕ, List, map, refl, ap, sym, subst, Contains, true, false, ◌↔◌}
use Rattle.docker_laws.specs.ExcerptWalk.{goes_on}
use Rattle.cif_change.specs.declared.key.Key.{Key}
use Rattle.cif_change.specs.declared.key.Key.TheVariants as key
use Rattle.docker_join.specs.Meaning.{entry_meant, row_meant}
use Rattle.docker_join.specs.declared.entry.Entry.{Entry}
use Rattle.docker_excerpt.specs.Walked.{state_of_entries}
use Rattle.docker_excerpt.proofs.WalkTurns.{walk_begins}
use Rattle.docker_excerpt.proofs.WalkSteps.{rows_more, run_ended, walk_by}
use Rattle.docker_excerpt.proofs.walk.ExcerptWalk.begin.Goals as goal

pub returns-clause-ok : goal.returns-clause-ok
returns-clause-ok c = λ ok.
    let same_run = ap (λ rows. rows.items) c.sort_names.ensures.run ∙ c.in_ok-reserve.ensures.items in
    let stops = subst (λ (rows : List (Key × Entry)). goes_on (map row_meant rows) c.args.key.uid ≡ false) (sym same_run) c.requires.other in
    let tells = subst (λ (names : List (List ℕ)). (c.has_name-named.result ≡ true) ↔ Contains names c.args.key.uid) c.as_slice.ensures.value
    c.has_name-named.ensures in
    walk_by c.end_run.ensures.place (run_ended _ _ _ _ _ refl (c.in_ok-end_run.ensures.kept refl))
    (rows_more _ _ _ (key.Schedule c.args.key) c.args.entry (c.in_ok-end_run.ensures.run refl).0 c.push_reserved.ensures.items)
    c.is_needed_with-needed.ensures (ap (λ names. names.items) c.end_run.ensures.names)
    (walk_begins _ (state_of_entries c.args.given.now.entries) _ _ _ _ c.sort_names.ensures.walked _ (entry_meant c.args.entry) _ stops
    c.sort_names.ensures.sorted tells)
