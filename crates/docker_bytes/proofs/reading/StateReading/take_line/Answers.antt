use Rattle.std.proofs.Common.{◌≡◌, ◌+◌, ◌<◌, ℕ, List, [], ◌∷◌, refl, ap, sym, subst, ◌∙◌, inr, length, length-append, arith}
use Rattle.docker_model.specs.state.StatePart.{width}
use Rattle.docker_bytes.specs.StateReading.{before_of, IsPartRefused}
use Rattle.docker_bytes.proofs.ReadingLemmas.{part_read}
use Rattle.docker_bytes.proofs.LineLemmas.{line_leads, line_bad, line_width}
use Rattle.docker_bytes.proofs.reading.StateReading.take_line.Goals as goal

pub returns-in-Ok-clause-ok : goal.returns-in-Ok-clause-ok
returns-in-Ok-clause-ok g c = λ ok.
    let at = c.requires.inner.stage in
    let stays = line_leads _ _ _ _ _ _ at.is _ _ _ _ c.requires.reading.ready.good (c.in-Ok.ensures.taken refl) c.requires.inner.more
    (c.in-Ok.ensures.up_to refl) in
    let size = c.requires.wide in
    let wide : length c.args.bytes.now ≡ width (before_of c.args.self.now) = c.requires.wide ∙ sym (line_width _ _ _ at _ _) in
    let some : 0 < length c.args.bytes.now = omega arith in
    part_read _ _ _ c.requires.reading c.requires.inner.fresh wide some
    (λ i. let fits = c.type_inv.bytes i in omega arith) c.requires.fits stays.0 c.requires.inner.fresh refl refl refl (inr (stays.1, refl))

pub returns-in-Ok-clause-next : goal.returns-in-Ok-clause-next
returns-in-Ok-clause-next g c = λ ok. record {
  stage = refl;
  partial = refl;
  reached = ap (λ n. c.args.self.now.reached + n) c.requires.wide;
  lines = ap (λ (rows : List (List ℕ)). length rows) (c.in-Ok.ensures.taken refl) ∙ length-append c.args.self.now.lines (c.args.bytes.now ∷ []);
}

pub returns-in-Err-clause-err : goal.returns-in-Err-clause-err
returns-in-Err-clause-err g c =
    let at = c.requires.inner.stage in
    subst (IsPartRefused c.args.self.now c.args.bytes.now) (sym c.bad.ensures) (
      refl,
      line_bad _ _ _ _ _ _ at.is _ _ _ _ c.in-Err.ensures.err c.requires.reading.ready.good,
    )
