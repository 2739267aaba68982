-- A record of the line's kind may come next. Whether the line is taken depends on its fields and
-- its times. In a deletion it depends on neither.
use Rattle.cif_laws.proofs.Common.{ap, ◌∙◌, refl, false≢true}
use Rattle.cif_line.specs.CallRead.{number_meant}
use Rattle.cif_change.specs.JourneyRead.{progress_meant, stage_then}
use Rattle.cif_change.proofs.JourneyLemmas.{deletion_read, sound_by_few, unsound_by_many, sound_read}
use Rattle.cif_change.proofs.progress.Progress.advance_to.Goals as goal

pub returns-then-self-clause-read : goal.returns-then-self-clause-read
returns-then-self-clause-read c = λ lines has. deletion_read _ _ _ _ has c.requires.«record»
    (ap (stage_then (progress_meant c.args.self.now).stage) c.requires.kind ∙ c.requires.stage) c.if-self.true

pub returns-then-clock-gt-MOST_MIDNIGHTS-clause-ok : goal.returns-then-clock-gt-MOST_MIDNIGHTS-clause-ok
returns-then-clock-gt-MOST_MIDNIGHTS-clause-ok c = λ lines has. (
  λ bad. absurd (false≢true bad),
  λ sound.
      absurd
      (unsound_by_many (progress_meant c.args.self.now) lines c.args.line.now
      (number_meant c.in_ok-times.times.first) (number_meant c.in_ok-times.times.second) (number_meant c.in_ok-times.times.third)
      c.past-clock.result.falls c.past-clock.result.last has c.if-self.false
      (c.in_ok-times.ensures.ok.0 refl) (record { times = c.in_ok-times.ensures.value; falls = c.past-clock.ensures.falls; last = c.past-clock.ensures.last })
      c.if-clock-gt-MOST_MIDNIGHTS.true sound),
)

pub returns-clause-ok : goal.returns-clause-ok
returns-clause-ok c = λ lines has. (
  λ _.
      sound_by_few (progress_meant c.args.self.now) lines c.args.line.now
      (number_meant c.in_ok-times.times.first) (number_meant c.in_ok-times.times.second) (number_meant c.in_ok-times.times.third)
      c.past-clock.result.falls
      c.past-clock.result.last has c.if-self.false
      (c.in_ok-times.ensures.ok.0 refl) (record { times = c.in_ok-times.ensures.value; falls = c.past-clock.ensures.falls; last = c.past-clock.ensures.last })
      c.if-clock-gt-MOST_MIDNIGHTS.false,
  λ _. refl,
)

pub returns-clause-read : goal.returns-clause-read
returns-clause-read c = λ lines has. sound_read _ _ _ _ _ _ _ _ has c.if-self.false (c.in_ok-times.ensures.ok.0 refl)
    (record { times = c.in_ok-times.ensures.value; falls = c.past-clock.ensures.falls; last = c.past-clock.ensures.last })
    _ c.requires.«record» (ap (stage_then (progress_meant c.args.self.now).stage) c.requires.kind ∙ c.requires.stage) c.if-clock-gt-MOST_MIDNIGHTS.false
