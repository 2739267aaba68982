-- Reading a line that isn't its schedule's last line leaves the stage unchanged.
use Rattle.std.proofs.Common.{◌≡◌, ℕ, ◌+◌, ◌*◌, ◌/◌, ◌<◌, ◌≤◌, List, [], ◌∷◌, ◌++◌, length, ap, sym, subst, arith, length-append, refl, false, rules, Option}
use Rattle.std.proofs.Common.{min}
use Rattle.docker_model.specs.file.Change.{ScheduleKey}
use Rattle.docker_model.specs.state.Stamp.{Stamp}
use Rattle.docker_model.specs.state.State.{State}
use Rattle.docker_model.specs.state.StateText.{Format}
use Rattle.docker_model.specs.state.StatePart.{in_entry, before_line, width, AreGood}
use Rattle.docker_model.specs.state.StateFault as model
use Rattle.state_laws.specs.TextStage.{advance}
use Rattle.state_laws.proofs.texts.TextsBefore.{more_lines}
use Rattle.cif_change.specs.declared.key.ScheduleKey as code
use Rattle.docker_join.specs.Meaning.{stamp_meant}
use Rattle.docker_join.specs.declared.stamp.Stamp as stamps
use Rattle.state_text.specs.declared.stage.Stage.{Stage}
use Rattle.state_text.specs.declared.stage.Stage.TheVariants as stage
use Rattle.state_text.specs.FaultMeaning.{IsBadHere}
use Rattle.state_text.specs.Lines.{AreLinesUpToIn, IsUpToRefusal}
use Rattle.cif_change.specs.Meaning.{schedule_key_meant}
use Rattle.state_text.specs.Stage.{stage_meant, begins_item, LeadsTo}
use Rattle.docker_bytes.specs.StateReading.{IsLineOf}

-- after a line that isn't its schedule's last line, the next part is a line of the same schedule
more_to_come : (format : Format) (count : ℕ) (state : State) (key : ScheduleKey) (stamp : Stamp) (n : ℕ) (lines : List (List ℕ)) (line : List ℕ)
    (taken : List (List ℕ)) → taken ≡ lines ++ line ∷ [] → length taken < n
    → in_entry count state (before_line key stamp n taken) ≡ advance format (in_entry count state (before_line key stamp n lines)) line
more_to_come = search (rules, more_lines)

-- a line has 80 bytes
pub line_width : (key : code.ScheduleKey) (n : ℕ) (at : Stage) → IsLineOf key n at → (state : State) (lines : List (List ℕ))
    → width (stage_meant at state lines) ≡ 80
line_width key n at of state lines = subst (λ (p : Stage). width (stage_meant p state lines) ≡ 80) (sym of.is) refl

-- a line that isn't its schedule's last line leaves the stage unchanged, and the next part is in the same item of the text
pub line_leads : (format : Format) (at : Stage) (entries : ℕ) (key : code.ScheduleKey) (stamp : stamps.Stamp) (n : ℕ) → at ≡ stage.Line entries key stamp n
    → (state : State) (lines taken : List (List ℕ)) (line : List ℕ) → AreGood format (stage_meant at state lines) → taken ≡ lines ++ line ∷ []
    → length lines + 1 < n
    → AreLinesUpToIn state (schedule_key_meant key) n (lines ++ line ∷ [])
    → LeadsTo format (stage_meant at state lines) line at state taken × (begins_item (stage_meant at state taken) ≡ false)
line_leads format at entries key stamp n is state lines taken line good taken_is below up_to =
    let size = length-append lines (line ∷ []) in
    let same : length taken ≡ length (lines ++ line ∷ []) = ap (λ (ls : List (List ℕ)). length ls) taken_is in
    rw is (
      record {
        is = more_to_come format entries state (schedule_key_meant key) (stamp_meant stamp) n lines line taken taken_is (omega arith);
        not_bad = λ cause bad. bad.1 up_to;
        fresh = tt;
      },
      refl,
    )

-- a line is a bad part if it can't follow the lines of its schedule that were read before it. A line that can follow them is refused only if there is no memory
-- for it
pub line_bad : (format : Format) (at : Stage) (entries : ℕ) (key : code.ScheduleKey) (stamp : stamps.Stamp) (n : ℕ) → at ≡ stage.Line entries key stamp n
    → (state : State) (lines : List (List ℕ)) (line : List ℕ) (cause : Option model.StateCause)
    → IsUpToRefusal state (schedule_key_meant key) n lines line cause
    → AreGood format (stage_meant at state lines) → IsBadHere format (stage_meant at state lines) line cause
line_bad = search rules

-- the minimum of three bounds is at most each of them
pub lines_within : (more size allowed ahead : ℕ) → more ≡ min (min (size / 80) (allowed / 80)) ahead
    → (more * 80 ≤ size) × (more * 80 ≤ allowed) × (more ≤ ahead)
lines_within = omega arith
