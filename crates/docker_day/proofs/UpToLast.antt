-- The records of a schedule after its last record at a place can be dropped, because none of these
-- records has an event at the place.
use Rattle.cif_laws.proofs.Common.{rules, ◌≡◌, ℕ, Bool, false, cond, List, [], ◌∷◌, ◌++◌, refl, ap, ◌∙◌, append_assoc, arith, ◌&&◌, ScheduleKey, first_record}
use Rattle.cif_laws.proofs.Common.{Occasion, times_of, DockerLine, Detail}
use Rattle.train_choice.specs.Occurrences.{Occurrence, Progress, before_all, turned, past_time, past_times}
use Rattle.train_choice.specs.Occurrences.{occurrences, occurrences_at, occurrences_from}
use Rattle.train_choice.specs.UpTo.{names_place, before_named, up_to_last, occurrences_to}
use Rattle.train_choice.proofs.Occurrences.{all_met}
use Rattle.docker_day.specs.Lines.{line_at_event, is_here, is_today, lines_there}

module _ (place : List ℕ) (day start : ℕ) (key : ScheduleKey) (detail : Detail) where
  abbrev there : List Occurrence → List DockerLine
  there events = lines_there place day start key detail events

  abbrev line_of : Occurrence → List DockerLine
  line_of event = cond (is_here place event && is_today day start event) (line_at_event key start detail event ∷ []) []

  -- the docker lines of two concatenated lists of events are the concatenation of both lists'
  -- docker lines
  there_parts : (events behind : List Occurrence) → there (events ++ behind) ≡ there events ++ there behind
  there_parts [] behind = refl
  there_parts (event ∷ events) behind = grind (arith, append_assoc, (there_parts events behind))

  -- if a record isn't at the place, its events have no docker lines
  none_elsewhere : (p : Progress) (line : List ℕ) (times : List (Occasion × ℕ)) → names_place place line ≡ false
      → there (occurrences_at p line times) ≡ []
  none_elsewhere p line [] elsewhere = refl
  none_elsewhere p line (time ∷ times) elsewhere = search (rules, (none_elsewhere (past_time p time) line times elsewhere))

  -- the docker lines of a record, followed by the docker lines of the records found after it. A last
  -- record that isn't at the place has none
  with_line : (p : Progress) (line : List ℕ) (named : Bool) → names_place place line ≡ named → (found : List (List ℕ))
      → there (occurrences_from p (before_named named line found))
      ≡ there (occurrences_at (turned p line) line (times_of line)) ++ there (occurrences_from (past_times (turned p line) (times_of line)) found)
  with_line = search (rules, there_parts, none_elsewhere)

  -- if a walk continues from the progress `p`, the records up to the last record at the place have
  -- the same docker lines as all records
  lines_up_to : (p : Progress) (lines : List (List ℕ)) → there (occurrences_from p (up_to_last place lines)) ≡ there (occurrences_from p lines)
  lines_up_to p [] = refl
  lines_up_to p (line ∷ lines) = search (rules, with_line, there_parts, (lines_up_to (past_times (turned p line) (times_of line)) lines))

  -- the events of a schedule up to its last record at the place have the same docker lines as all
  -- its events
  pub lines_to_last : (lines : List (List ℕ)) → there (occurrences_to place lines) ≡ there (occurrences lines)
  lines_to_last lines = lines_up_to (before_all (first_record lines)) lines ∙ ap there (all_met lines)
