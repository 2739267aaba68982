-- The schedule calls at the place, but no event of it is on the day.
use Rattle.cif_laws.proofs.Common.{ap, sym, ◌∙◌, ◌∷◌, subst, slice_get, IfOk-weaker, calls_at}
use Rattle.docker_laws.specs.NearDay.{may_reach}
use Rattle.docker_excerpt.specs.Midnights.{IsPutSchedule}
use Rattle.docker_excerpt.proofs.MidnightLemmas.{shortened_lines}
use Rattle.docker_excerpt.proofs.ThinLemmas.{first_line}
use Rattle.docker_excerpt.proofs.excerpt_entry.excerpt_lines.Goals as goal

pub returns : goal.returns
returns c =
    let lines = c.args.lines in
    let place = c.args.place.now in
    let day = c.args.day in
    let calls = sym (c.calls_at.ensures ∙ ap (calls_at place) c.as_slice.ensures) ∙ c.if-not-calls_at.false in
    let put = subst IsPutSchedule (sym c.as_slice-2.ensures) c.requires in
    let never = sym (c.may_reach.ensures put ∙ ap (may_reach day) c.as_slice-2.ensures) ∙ c.if-may_reach.false in
    let first = first_line lines c.in-Some.basic.now (c.in-Some.ensures.value ∙ ap (λ ls. slice_get ls 0) c.as_slice-3.ensures) in
    IfOk-weaker c.with_ends.result _ _
    (λ body told. told ∙ (λ i. first i ∷ c.ends_elsewhere.ensures i) ∙ shortened_lines place day lines calls never) c.with_ends.ensures
