-- Lemmas on the calls that base trains make at a place, each with its first event. The calls of the
-- base train that was looked up last are stored.
use Rattle.cif_laws.proofs.Common.{◌≡◌, ℕ, true, false, List, subst, Some, eqb-true, rules, Option, IfOk, Result, Ok, Err, get, Updates, is_some, nat_cmp}
use Rattle.cif_laws.proofs.Common.{Train, DockerLine, ScheduleKey, Occasion, column, Row, AreRowsOf, Table}
use Rattle.std.specs.BTreeMap.{BTreeMap}
use Rattle.docker_laws.specs.LiveRows.{Link, train_in, IsTrainOn}
use Rattle.docker_laws.proofs.dockers.TrainOfRows.{trains_tell}
use Rattle.docker_state.specs.Timetables.{live_in}
use Rattle.train_choice.specs.Occurrences as events
use Rattle.docker_day.specs.Visits.{Visit}
use Rattle.docker_day.specs.Bases.{first_call, HasCall, HasEvent}
use Rattle.docker_day.specs.Lines.{is_here, listed, link_line_at, link_line_with}

-- if a suffix already has an event in the map, another event with the suffix leaves the map
-- unchanged
pub there_before : (own : ℕ) (event : events.Occurrence) (calls : BTreeMap ℕ events.Occurrence) → is_some (get nat_cmp calls own) ≡ true
    → HasCall own calls event calls
there_before = search (rules, eqb-true)

-- if a suffix has no event in the map yet, an event with this suffix is stored in the map
pub first_of_suffix : (own : ℕ) (event : events.Occurrence) (before after : BTreeMap ℕ events.Occurrence) → is_some (get nat_cmp before own) ≡ false
    → Updates nat_cmp before after own (Some event) → HasCall own before event after
first_of_suffix = search (rules, eqb-true)

module _ (place : List ℕ) (event : events.Occurrence) where
  -- an event that isn't at the place leaves the map of first events unchanged
  pub elsewhere : (calls : BTreeMap ℕ events.Occurrence) → is_here place event ≡ false → HasEvent place calls event calls
  elsewhere = search rules

  -- an event at the place is stored in the map, unless the map already has an event with its suffix
  pub taken_here : (before after : BTreeMap ℕ events.Occurrence) → is_here place event ≡ true → HasCall (column 10 event.line) before event after
      → HasEvent place before event after
  taken_here = search rules

-- ---- the docker line at a call

-- the train chosen for a UID has this UID
pub uid_of_train : (live : Table) (rows : List Row) (uid : List ℕ) (day : ℕ) (train : Train) → AreRowsOf live rows → train_in rows uid day ≡ Some train
    → train.key.uid ≡ uid
uid_of_train live rows uid day train are is = (subst (IsTrainOn live uid day) is (trains_tell live rows are uid day)).chosen.running.uid_is

module _ (trains : List ℕ → ℕ → Option Train) (day start : ℕ) (link : Link) (occasion : Occasion) where
  -- if a base train calls at the association's place, the association's docker line is the line at
  -- the first event of the call
  pub line_at_call : (base : Option Train) (event : events.Occurrence) (lines : List DockerLine)
      → Some event ≡ first_call base link.key.location link.key.suffix → ((train : Train) → base ≡ Some train → train.key.uid ≡ link.key.base)
      → ((key : ScheduleKey) → key.uid ≡ link.key.base → lines ≡ link_line_at trains day start link occasion key event)
      → lines ≡ link_line_with trains day start link (Some occasion) base
  line_at_call = search rules

-- says that the line, if there is one, is the association's line at this event, whatever key the
-- base train's schedule has
abbrev pub IsAtEvent : Link → Occasion → events.Occurrence → Visit → Option DockerLine → Type 0
IsAtEvent link occasion event visit line =
    (rows : List Row) → AreRowsOf (live_in visit.timetable) rows → (base : ScheduleKey) → base.uid ≡ link.key.base
    → listed line ≡ link_line_at (train_in rows) visit.day visit.start link occasion base event

-- says that the line, if there is one, is the association's line that is made with the train chosen
-- for the base train's UID
abbrev pub IsWithBase : Link → Occasion → Visit → Option DockerLine → Type 0
IsWithBase link occasion visit line =
    (rows : List Row) → AreRowsOf (live_in visit.timetable) rows
    → listed line ≡ link_line_with (train_in rows) visit.day visit.start link (Some occasion) (train_in rows link.key.base visit.start)

-- the line that is made from the first event of the base train's call is the association's line
-- with this base train
pub with_base : {Fault : Type 0} (link : Link) (occasion : Occasion) (event : events.Occurrence) (visit again : Visit)
    (result : Result (Option DockerLine) Fault) → again ≡ visit
    → ((rows : List Row) → AreRowsOf (live_in visit.timetable) rows
    → Some event ≡ first_call (train_in rows link.key.base visit.start) link.key.location link.key.suffix)
    → IfOk result (IsAtEvent link occasion event again) → IfOk result (IsWithBase link occasion visit)
with_base link occasion event visit again (Ok line) same first told = λ rows are.
    line_at_call (train_in rows) _ visit.start link occasion (train_in rows link.key.base visit.start) event (listed line) (first rows are)
    (λ train is. uid_of_train _ rows _ visit.start _ are is) (subst (λ (v : Visit). IsAtEvent link occasion event v line) same told rows are)
with_base link occasion event visit again (Err refused) same first told = tt
