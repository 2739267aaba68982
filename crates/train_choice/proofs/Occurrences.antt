-- A walk over a schedule's lines yields exactly the schedule's events, in order.
use Rattle.cif_laws.proofs.Common.{◌≡◌, ℕ, ◌+◌, Bool, true, false, cond, List, [], ◌∷◌, ◌++◌, map, length, rules, refl, ap, sym, ◌∙◌, subst, arith, Some, None}
use Rattle.cif_laws.proofs.Common.{append_assoc, append-nil, length-append, Option, codes, map-append, length-map, bytes_eq-Decides, Kind, change_en_route}
use Rattle.cif_laws.proofs.Common.{kind_of, columns, Occasion, times_by_kind, times_of, times_along, fall_count, Event, event_line, event_identity}
use Rattle.cif_laws.proofs.Common.{changed_identity, has_identity, first_record}
use Rattle.docker_laws.specs.EventWalk.{events_here, events_from, fall_at, last_time, last_change}
use Rattle.docker_laws.proofs.dockers.EventWalk.{events_walked, times_split, falls_here, falls_more, line_here, identity_here, change_more}
use Rattle.train_choice.specs.Occurrences.{Occurrence, occurrence_of, occurrences, Progress}
use Rattle.train_choice.specs.Occurrences.{before_all, occurrence_at, past_time, occurrences_at, past_times, turned, occurrences_from}

abbrev Times : Type 0
Times = List (Occasion × ℕ)

abbrev clock_times : Times → List ℕ
clock_times times = map (λ (time : Occasion × ℕ). time.1) times

-- says that the walk has passed exactly these times
pub record HasMet (times : List ℕ) (p : Progress) : Type 0 where
  pub number_is : p.number ≡ length times + 1
  pub falls_are : p.falls ≡ fall_count times
  pub last_is : p.last ≡ last_time times

last_behind : (times : List ℕ) (time : ℕ) → last_time (times ++ time ∷ []) ≡ Some time
last_behind times time = by None times
  where
    by : (o : Option ℕ) (xs : List ℕ) → Rattle.std.specs.List.last_or o (xs ++ time ∷ []) ≡ Some time
    by o [] = refl
    by o (x ∷ xs) = by (Some x) xs

met_one_more : (times : List ℕ) (p : Progress) (time : Occasion × ℕ) → HasMet times p → HasMet (times ++ time.1 ∷ []) (past_time p time)
met_one_more = search (rules, length-append, falls_more, last_behind)

-- for one line, the events of the walk equal the schedule's events at this line. `place` is the
-- index of the line in the schedule
module _ (whole : List (List ℕ)) (place : ℕ) (line : List ℕ) (identity : List ℕ)
    (line_is : (event : Event) → event.place ≡ place → event_line whole event ≡ line)
    (identity_is : (event : Event) → event.place ≡ place → event_identity whole event ≡ identity) where
  times_met : (before : List ℕ) (times : Times) (later : List ℕ) (p : Progress) → HasMet before p → p.identity ≡ identity
      → times_along whole ≡ before ++ (clock_times times ++ later)
      → occurrences_at p line times ≡ map (occurrence_of whole) (events_here p.number place times)
  times_met before [] later p has same all = refl
  times_met before (time ∷ times) later p has same all =
      let regrouped : times_along whole ≡ (before ++ time.1 ∷ []) ++ (clock_times times ++ later) =
      all ∙ sym (append_assoc before (time.1 ∷ []) (clock_times times ++ later)) in
      (λ i. head regrouped i ∷ times_met (before ++ time.1 ∷ []) times later (past_time p time) (met_one_more before p time has) same regrouped i)
    where
      event : Event
      event = record { number = p.number; place = place; occasion = time.0; time = time.1 }

      head : times_along whole ≡ (before ++ time.1 ∷ []) ++ (clock_times times ++ later) → occurrence_at p line time ≡ occurrence_of whole event
      head regrouped = λ i. record {
        number = p.number;
        occasion = time.0;
        time = time.1;
        falls = ((λ j. has.falls_are j + fall_at (has.last_is j) time.1) ∙ sym
            (falls_here whole before (clock_times times ++ later) time.1 p.number regrouped has.number_is)) i;
        line = sym (line_is event refl) i;
        identity = (same ∙ sym (identity_is event refl)) i;
      }

-- if a walk that has passed the times `before` then passes the times of a line, it has passed the
-- concatenation of both lists
times_passed : (before : List ℕ) (times : Times) (p : Progress) → HasMet before p → HasMet (before ++ clock_times times) (past_times p times)
times_passed before [] p has = subst (λ (ts : List ℕ). HasMet ts p) (sym (append-nil before)) has
times_passed before (time ∷ times) p has =
    grind (arith, append_assoc, met_one_more, (times_passed (before ++ time.1 ∷ []) times (past_time p time) (met_one_more before p time has)))

identity_stays : (p : Progress) (times : Times) → (past_times p times).identity ≡ p.identity
identity_stays p [] = refl
identity_stays p (time ∷ times) = identity_stays (past_time p time) times

-- a line with the record identity CR is a change en route
change_by_identity : (line : List ℕ) → has_identity (codes "CR") line ≡ true → kind_of line ≡ Some change_en_route
change_by_identity = search (rules, bytes_eq-Decides)

change_has_no_times : (line : List ℕ) → has_identity (codes "CR") line ≡ true → times_of line ≡ []
change_has_no_times line is = ap (λ (kind : Option Kind). times_by_kind kind line) (change_by_identity line is)

-- suppose that the train identity of the walk is correct before a line. Then it is also correct
-- after this line: it is the identity in the last change en route so far or, if there is none, in
-- the basic schedule
identity_more : (basic front : List (List ℕ)) (line : List ℕ) (p : Progress) → p.identity ≡ changed_identity (last_change front) (first_record basic)
    → (turned p line).identity ≡ changed_identity (last_change (front ++ line ∷ [])) (first_record basic)
identity_more = search (rules, change_more)

-- if a walk has yielded the events of a prefix of a schedule's lines, it then yields the events of
-- the remaining lines
lines_met : (whole front rest : List (List ℕ)) (p : Progress) → whole ≡ front ++ rest → HasMet (times_along front) p
    → p.identity ≡ changed_identity (last_change front) (first_record whole)
    → occurrences_from p rest ≡ map (occurrence_of whole) (events_from p.number (length front) rest)
lines_met whole front [] p is has same = refl
lines_met whole front (line ∷ lines) p is has same =
    (λ i. here_by (has_identity (codes "CR") line) refl i ++ (lines_met whole (front ++ line ∷ []) lines (past_times q (times_of line))
    (is ∙ sym (append_assoc front (line ∷ []) lines)) further (identity_stays q (times_of line) ∙ identity_more whole front line p same)
    ∙ (λ j. map (occurrence_of whole) (events_from (counted j) (length-append front (line ∷ []) j) lines))) i)
    ∙ sym (map-append (occurrence_of whole) (events_here p.number (length front) (times_of line))
    (events_from (p.number + length (times_of line)) (length front + 1) lines))
  where
    q : Progress
    q = turned p line

    met : HasMet (times_along front) q
    met = record { number_is = has.number_is; falls_are = has.falls_are; last_is = has.last_is }

    all : times_along whole ≡ times_along front ++ (clock_times (times_of line) ++ times_along lines)
    all = ap times_along is ∙ times_split front line lines

    here_by : (b : Bool) → has_identity (codes "CR") line ≡ b
        → occurrences_at q line (times_of line) ≡ map (occurrence_of whole) (events_here p.number (length front) (times_of line))
    here_by true h =
        let none = change_has_no_times line h in
        (λ i. occurrences_at q line (none i)) ∙ (λ i. map (occurrence_of whole) (events_here p.number (length front) (sym none i)))
    here_by false h =
        times_met whole (length front) line (changed_identity (last_change front) (first_record whole))
        (λ event at. ap (λ (ls : List (List ℕ)). event_line ls event) is ∙ line_here front line lines event at)
        (λ event at. ap (λ (ls : List (List ℕ)). event_identity ls event) is ∙ identity_here front (line ∷ lines) event at ∙
        (λ i. changed_identity (last_change front) (first_record (sym is i))))
        (times_along front) (times_of line) (times_along lines) q met
        ((λ i. cond (h i) (columns 13 16 line) p.identity) ∙ same) all

    further : HasMet (times_along (front ++ line ∷ [])) (past_times q (times_of line))
    further =
        let passed = times_passed (times_along front) (times_of line) q met in
        let long : times_along (front ++ line ∷ []) ≡ times_along front ++ clock_times (times_of line) =
        times_split front line [] ∙ ap (λ (more : List ℕ). times_along front ++ more) (append-nil (clock_times (times_of line))) in
        subst (λ (ts : List ℕ). HasMet ts (past_times q (times_of line))) (sym long) passed

    counted : (past_times q (times_of line)).number ≡ p.number + length (times_of line)
    counted =
        let number = (times_passed (times_along front) (times_of line) q met).number_is in
        let before = has.number_is in
        let long = length-append (times_along front) (clock_times (times_of line)) in
        let short = length-map (times_of line) (λ (time : Occasion × ℕ). time.1) in
        omega arith

-- a walk over all lines of a schedule yields the schedule's events
pub all_met : (lines : List (List ℕ)) → occurrences_from (before_all (first_record lines)) lines ≡ occurrences lines
all_met lines =
    lines_met lines [] lines (before_all (first_record lines)) refl (record { number_is = refl; falls_are = refl; last_is = refl }) refl
    ∙ ap (map (occurrence_of lines)) (sym (events_walked lines))

-- if `walked` are the lines of the schedule, and the walk begins with the train identity in the
-- first line, the walk yields the schedule's events
pub events_met : (lines walked : List (List ℕ)) (identity : List ℕ) (events : List Occurrence) → walked ≡ lines → identity ≡ columns 33 36 (first_record lines)
    → events ≡ occurrences_from (record { number = 1; falls = 0; last = None; identity = identity }) walked → events ≡ occurrences lines
events_met = search (rules, all_met)
