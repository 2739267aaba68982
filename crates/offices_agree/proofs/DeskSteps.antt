-- What a session of the desk on `north` leaves in its folder, and what it answers.
use Rattle.cif_laws.proofs.Common.{◌≡◌, ℕ, ◌+◌, ◌<◌, Bool, true, List, [], ◌∷◌, ◌++◌, refl, sym, ◌∙◌, ap, subst, arith, append-nil, Some, None, codes, rules}
use Rattle.cif_laws.proofs.Common.{Option, slice_index, decimal_digit, AllPass-from_list_all, is_printable, IsDayRefused, State, dks_2, state_text, Known}
use Rattle.cif_laws.proofs.Common.{united}
use Rattle.cif_line.proofs.DateFields.{digits_in-day_text}
use Rattle.docker_host.specs.History.{Bytes, Event, Text, closed, drafted, looked, opened, placed}
use Rattle.docker_host.specs.SessionHost.{SessionHostView}
use Rattle.docker_host.specs.Shelf.{IsShelfHistory, ShelfView, no_texts, text_under}
use Rattle.docker_bytes.specs.SourceRead.{JoinsState}
use Rattle.docker_office.specs.declared.fault.OfficeFault.{OfficeFault}
use Rattle.docker_cmd.specs.FaultLine.{IsCounted, status_of}
use Rattle.docker_cmd.specs.Prepared.{most_bytes}
use Rattle.docker_cmd.specs.declared.fault.Fault.TheVariants.{Office}
use Rattle.docker_program.specs.Commands.{HoldsKnown, PrintsKnown}
use Rattle.docker_program.proofs.CommandLemmas.{IsKnown, known_held, known_joined, known_text}
use Rattle.docker_desk.specs.Answers.{answer_text}
use Rattle.docker_desk.specs.Lines.{AreLines, LineView, whole_line}
use Rattle.docker_desk.specs.Requests.{IsRequestOf, RequestView, show_request}
use Rattle.docker_desk.specs.declared.query.DockerKind.TheVariants as kind
use Rattle.docker_desk.specs.declared.query.Query.{Query}
use Rattle.docker_desk.specs.declared.query.Query.TheVariants as query
use Rattle.docker_desk.specs.declared.requests.Verb.TheVariants as verb
use Rattle.docker_desk.specs.Desk.{EndsReceiving, IsShown}
use Rattle.docker_desk.proofs.RequestLemmas.{with_verb}
use Rattle.docker_desk.specs.Reading.{StopsInState}
use Rattle.docker_desk.specs.Replies.{AnswerView, answer_bytes, answer_status, done_with}
use Rattle.docker_desk.specs.SessionViews.{SessionView, Setting, Step, setting}
use Rattle.docker_desk.specs.Doing.{AreSteps, AsksOf, DoesAsked, DoesRequest, IsStep, Joins, Saves}
use Rattle.docker_desk.specs.Answering.{EndsSession, answers_text, lines_of}
use Rattle.docker_desk.specs.Serving.{BeginsAt, IsServed, Serves, ending_status, session_words}
use Rattle.docker_desk.specs.declared.ending.Ending.{Ending}
use Rattle.docker_desk.specs.declared.ending.Ending.TheVariants.{Ended}
use Rattle.offices_agree.specs.DeskAndOffice.{AreDone, IsServedNorth}
use Rattle.offices_agree.proofs.TwoOfficesFiles.{place}
use Rattle.offices_agree.proofs.TwoOfficesSteps.{after_append, date_is, met_behind, met_front, north, one_place, south}

-- ---- the lines of the input

abbrev merge_line : List ℕ
merge_line = codes "merge south"

abbrev save_line : List ℕ
save_line = codes "save"

abbrev print_line : List ℕ
print_line = codes "print ASHFELD 2024-06-10"

abbrev pub session_input : List ℕ
session_input = codes "merge south\nsave\nprint ASHFELD 2024-06-10\n"

abbrev three_lines : List LineView
three_lines = whole_line merge_line ∷ whole_line save_line ∷ whole_line print_line ∷ []

lines_are : AreLines session_input three_lines
lines_are = (
  codes "save\nprint ASHFELD 2024-06-10\n",
  (
    record { whole = refl; line_text = record { short = omega arith; printable = AllPass-from_list_all is_printable merge_line refl } },
    (
      codes "print ASHFELD 2024-06-10\n",
      (
        record { whole = refl; line_text = record { short = omega arith; printable = AllPass-from_list_all is_printable save_line refl } },
        (
          [],
          (record { whole = refl; line_text = record { short = omega arith; printable = AllPass-from_list_all is_printable print_line refl } }, refl),
        ),
      ),
    ),
  ),
)

-- a text divides into lines in only one way
abbrev pub HasOneReading : Type 0
HasOneReading = (text : List ℕ) (lines others : List LineView) → AreLines text lines → AreLines text others → lines ≡ others

-- the query of `print` for a timing point and a day
abbrev pub docker_query : List ℕ → ℕ → Query
docker_query there day = query.Docker kind.Ordinary there day

-- ---- the answers

-- the first byte of an answer is the digit of its status
first_digit : (status : ℕ) (text more : List ℕ) → status < 10 → slice_index (answer_text status text ++ more) 0 ≡ 48 + status
first_digit = search (rules, codes, decimal_digit)

-- the status of a fault is a digit other than 0
fault_status : (fault : OfficeFault) → (0 < status_of (Office fault)) × (status_of (Office fault) < 10)
fault_status = search rules

-- if an answer begins with the digit 0, its request succeeded
abbrev IsDone : AnswerView → Type 0
IsDone answer = (text : List ℕ) × (answer ≡ done_with text)

done_by : (answer : AnswerView) (more : List ℕ) → slice_index (answer_bytes answer ++ more) 0 ≡ 48 → IsDone answer
done_by = search (rules, fault_status, first_digit)

-- an answer with status 0 and no text
empty_told : answer_bytes (done_with []) ≡ codes "0 0 0\n"
empty_told = ap (λ (zero : List ℕ). zero ++ codes " " ++ zero ++ codes " " ++ zero ++ codes "\n" ++ []) (decimal_digit 0 (omega arith))

-- ---- the three steps

-- `merge` joined the desk's state with the state that the named file held
pub record IsMerged (other : Text) (before after : SessionView) : Type 0 where
  pub held : Bytes
  pub left : Bytes
  pub history : after.history ≡ before.history ++ opened other held ∷ closed left ∷ []
  pub joins : JoinsState dks_2 most_bytes held before.desk.state after.desk.state

merged : (other : Text) (text : List ℕ) (before after : SessionView) → Joins other StopsInState EndsReceiving before (done_with text) after
    → (text ≡ []) × IsMerged other before after
merged = search rules

-- `save` replaced the state's file with the text of the desk's state
pub record IsStoredSo (name : Text) (before after : SessionView) : Type 0 where
  pub history : after.history
      ≡ before.history ++ drafted name before.look ∷ placed name (Some (state_text dks_2 before.desk.state)) ∷ looked name ∷ []
  pub state : after.desk.state ≡ before.desk.state

stored_so : (name : Text) (text : List ℕ) (before after : SessionView) → Saves (setting name true true) before (done_with text) after
    → (text ≡ []) × IsStoredSo name before after
stored_so = search rules

-- a step whose request succeeded made the request of its line
asked_done : (its : Setting) (line text : List ℕ) (request : Option RequestView) (before after : SessionView)
    → AsksOf true (whole_line line) request → DoesAsked its request before (done_with text) after
    → (it : RequestView) × (IsRequestOf true line it × DoesRequest its it before (done_with text) after)
asked_done its line text (Some it) before after asks does = (it, (asks.1, does))
asked_done its line text None before after asks does = let told = does.0 in let never : ⊥ = cc in absurd never

module _ (its : Setting) (text : List ℕ) (request : Option RequestView) (before after : SessionView) where
  merge_done : AsksOf true (whole_line merge_line) request → DoesAsked its request before (done_with text) after → (text ≡ []) × IsMerged south before after
  merge_done = search (rules, asked_done, with_verb, south, merged)

  print_done : AsksOf true (whole_line print_line) request → DoesAsked its request before (done_with text) after
      → IsShown before.desk.state (docker_query place 23537) (done_with text) × (after ≡ before)
  print_done asks does =
      let asked = asked_done its print_line text request before after asks does in
      let print = with_verb true print_line (verb.Docker kind.Ordinary) asked.0 refl asked.1.0 in
      let place_is : print.0 ≡ place = one_place place print.0 refl print.1.1.0.named in
      let dated = print.1.1.0.dated in
      let day_is : print.1.0 ≡ 23537 = sym (digits_in-day_text print.1.0 dated.within (codes "2024-06-10") dated.written).1 ∙ date_is in
      let same : asked.0 ≡ show_request (docker_query place 23537) = print.1.1.1 ∙ (λ i. show_request (docker_query (place_is i) (day_is i))) in
      subst (λ (r : RequestView). DoesRequest its r before (done_with text) after) same asked.1.1

save_done : (name text : List ℕ) (request : Option RequestView) (before after : SessionView) → AsksOf true (whole_line save_line) request
    → DoesAsked (setting name true true) request before (done_with text) after → (text ≡ []) × IsStoredSo name before after
save_done = search (rules, asked_done, with_verb, stored_so)

-- a day that isn't refused under the state's horizon isn't refused under the known horizon
not_refused : (known : Known) (state : State) (day : ℕ) → IsKnown known state → ¬ IsDayRefused state.horizon day → ¬ IsDayRefused known.horizon day
not_refused known state day is allowed refused = allowed (subst (λ (h : ℕ). IsDayRefused h day) (sym is.is.horizon_is) refused)

-- ---- the session

-- what the steps change: the history, the desk's state and the failure count
module _ (old : List Event) (first one two three : SessionView) (begins : BeginsAt north old first) (merges : IsMerged south first one)
    (saves : IsStoredSo north one two) (same : three ≡ two) (met : IsShelfHistory three.history) where
  abbrev opening : List Event
  opening = looked north ∷ opened north begins.held ∷ closed begins.left ∷ []

  abbrev merging : List Event
  merging = opened south merges.held ∷ closed merges.left ∷ []

  abbrev storing : List Event
  storing = drafted north one.look ∷ placed north (Some (state_text dks_2 one.desk.state)) ∷ looked north ∷ []

  history_is : three.history ≡ old ++ opening ++ merging ++ storing
  history_is = cc

  all_met : IsShelfHistory (old ++ opening ++ merging ++ storing)
  all_met = subst IsShelfHistory history_is met

  two_met : IsShelfHistory (old ++ opening ++ merging)
  two_met = met_front no_texts (old ++ opening ++ merging) storing all_met

  held_is : begins.held ≡ text_under old north
  held_is = (met_behind no_texts old opening (met_front no_texts (old ++ opening) merging two_met)).1.0.0

  other_is : merges.held ≡ text_under old south
  other_is = search (rules, met_behind, two_met, south, after_append)

  text_is : text_under three.history north ≡ Some (state_text dks_2 one.desk.state)
  text_is = search (rules, north, history_is, after_append)

  module _ (known heard : Known) (holds : HoldsKnown dks_2 (text_under old north) known) (also : HoldsKnown dks_2 (text_under old south) heard) where
    knows : IsKnown (united known heard) one.desk.state
    knows = search (rules, known_joined, known_held, held_is, other_is)

    pub holds_all : HoldsKnown dks_2 (text_under three.history north) (united known heard)
    holds_all = (state_text dks_2 one.desk.state, text_is, known_text (united known heard) one.desk.state (state_text dks_2 one.desk.state) knows refl)

    pub prints_all : (text : List ℕ) → IsShown two.desk.state (docker_query place 23537) (done_with text) → PrintsKnown (united known heard) place 23537 text
    prints_all = search (rules, place, knows, not_refused)

-- ---- the whole session

abbrev pub desk_words : List Text
desk_words = codes "--write" ∷ north ∷ []

-- the session's name and its right to write
named_so : (name : Text) (may_write : Bool) → desk_words ≡ session_words name may_write → (name ≡ north) × (may_write ≡ true)
named_so = search rules

ended_well : (ending : Ending) (unsaved : Bool) → ending_status ending unsaved ≡ 0 → ending ≡ Ended
ended_well = search rules

-- a folder didn't fail in a step whose request succeeded
counted_none : (text : List ℕ) (before after : ℕ) → IsCounted (answer_status (done_with text)) before after → after ≡ before
counted_none text before after counted = counted.1 (λ four. omega (arith, four))

-- the points and the answers of three steps, if each answer begins with the digit 0
record AreThree (first last : SessionView) (answers : List ℕ) : Type 0 where
  pub one : SessionView
  pub two : SessionView
  pub merges : IsMerged south first one
  pub saves : IsStoredSo north one two
  pub docker : List ℕ
  pub prints : IsShown two.desk.state (docker_query place 23537) (done_with docker)
  pub same : last ≡ two
  pub told : answers ≡ codes "0 0 0\n" ++ codes "0 0 0\n" ++ answer_text 0 docker
  pub sound : last.failures ≡ first.failures

done_step : (its : Setting) (line : List ℕ) (step : Step) → step.line ≡ whole_line line → IsStep its step
    → (text : List ℕ) → step.answer ≡ done_with text
    → AsksOf its.may_write (whole_line line) step.request × (DoesAsked its step.request step.before (done_with text) step.after
    × (step.after.failures ≡ step.before.failures))
done_step = search (rules, counted_none)

-- the first answer of a text, and the text after it
module _ (taken : List ℕ) (a b c : AnswerView) (whole : taken ≡ answer_bytes a ++ (answer_bytes b ++ (answer_bytes c ++ []))) (done : AreDone taken) where
  first_done : IsDone a
  first_done = done_by a (answer_bytes b ++ (answer_bytes c ++ [])) (ap (λ (t : List ℕ). slice_index t 0) (sym whole) ∙ done.0)

  after_one : a ≡ done_with [] → taken ≡ codes "0 0 0\n" ++ (answer_bytes b ++ (answer_bytes c ++ []))
  after_one = search (rules, empty_told)

  second_done : a ≡ done_with [] → IsDone b
  second_done same = done_by b (answer_bytes c ++ []) (ap (λ (t : List ℕ). slice_index t 6) (sym (after_one same)) ∙ done.1)

  after_two : a ≡ done_with [] → b ≡ done_with [] → taken ≡ codes "0 0 0\n" ++ (codes "0 0 0\n" ++ (answer_bytes c ++ []))
  after_two = search (rules, after_one, codes, empty_told)

  third_done : a ≡ done_with [] → b ≡ done_with [] → IsDone c
  third_done same also = done_by c [] (ap (λ (t : List ℕ). slice_index t 12) (sym (after_two same also)) ∙ done.2)

  after_three : (docker : List ℕ) → a ≡ done_with [] → b ≡ done_with [] → c ≡ done_with docker
      → taken ≡ codes "0 0 0\n" ++ codes "0 0 0\n" ++ answer_text 0 docker
  after_three = search (rules, after_two, codes, append-nil)

abbrev the_setting : Setting
the_setting = setting north true true

-- what each of the three steps did, if its answer begins with the digit 0
module _ (step : Step) (is : IsStep the_setting step) (done : IsDone step.answer) where
  merge_step : step.line ≡ whole_line merge_line
      → (step.answer ≡ done_with []) × IsMerged south step.before step.after × (step.after.failures ≡ step.before.failures)
  merge_step line_is =
      let does = done_step the_setting merge_line step line_is is done.0 done.1 in
      let merges = merge_done the_setting done.0 step.request step.before step.after does.0 does.1.0 in
      (done.1 ∙ ap done_with merges.0, merges.1, does.1.1)

  save_step : step.line ≡ whole_line save_line
      → (step.answer ≡ done_with []) × IsStoredSo north step.before step.after × (step.after.failures ≡ step.before.failures)
  save_step line_is =
      let does = done_step the_setting save_line step line_is is done.0 done.1 in
      let saves = save_done north done.0 step.request step.before step.after does.0 does.1.0 in
      (done.1 ∙ ap done_with saves.0, saves.1, does.1.1)

  print_step : step.line ≡ whole_line print_line
      → IsShown step.before.desk.state (docker_query place 23537) (done_with done.0) × (step.after ≡ step.before)
  print_step line_is =
      let does = done_step the_setting print_line step line_is is done.0 done.1 in
      print_done the_setting done.0 step.request step.before step.after does.0 does.1.0

-- the three steps, one after another
three_steps : (first last : SessionView) (x y z : Step) (taken : List ℕ) → lines_of (x ∷ y ∷ z ∷ []) ≡ three_lines
    → AreSteps the_setting first (x ∷ y ∷ z ∷ []) last → taken ≡ answers_text (x ∷ y ∷ z ∷ []) → AreDone taken → AreThree first last taken
three_steps first last x y z taken lines are whole done =
    let merge = merge_step x are.1.0 (first_done taken x.answer y.answer z.answer whole done) (cc) in
    let save = save_step y are.1.1.1.0 (second_done taken x.answer y.answer z.answer whole done merge.0) (cc) in
    let docker : IsDone z.answer = third_done taken x.answer y.answer z.answer whole done merge.0 save.0 in
    let print = print_step z are.1.1.1.1.1.0 docker (cc) in
    let same : last ≡ y.after = are.1.1.1.1.1.1 ∙ print.1 ∙ are.1.1.1.1.0 in
    record {
      one = x.after;
      two = y.after;
      merges = subst (λ (m : SessionView). IsMerged south m x.after) are.0 merge.1;
      saves = subst (λ (m : SessionView). IsStoredSo north m y.after) are.1.1.0 save.1;
      docker = docker.0;
      prints = subst (λ (m : SessionView). IsShown m.desk.state (docker_query place 23537) (done_with docker.0)) are.1.1.1.1.0 print.0;
      same = same;
      told = after_three _ x.answer y.answer z.answer whole done docker.0 merge.0 save.0 docker.1;
      sound = ap (λ (m : SessionView). m.failures) same ∙ save.2 ∙ ap (λ (m : SessionView). m.failures) are.1.1.0 ∙ merge.2
          ∙ ap (λ (m : SessionView). m.failures) are.0;
    }

all_steps : (first last : SessionView) (steps : List Step) (taken : List ℕ) → lines_of steps ≡ three_lines → AreSteps the_setting first steps last
    → taken ≡ answers_text steps → AreDone taken → AreThree first last taken
all_steps first last [] taken lines are whole done = let never : ⊥ = cc in absurd never
all_steps first last (x ∷ []) taken lines are whole done = let never : ⊥ = cc in absurd never
all_steps first last (x ∷ y ∷ []) taken lines are whole done = let never : ⊥ = cc in absurd never
all_steps first last (x ∷ y ∷ z ∷ []) taken lines are whole done = three_steps first last x y z taken lines are whole done
all_steps first last (x ∷ y ∷ z ∷ w ∷ steps) taken lines are whole done = let never : ⊥ = cc in absurd never

-- ---- what the session leaves

-- a session ended with status 0, so the desk has answered its input
pub was_served : (old new : SessionHostView) (status : ℕ) → status ≡ 0 → Serves desk_words true old new status → IsServed desk_words true old new 0
was_served = search (rules, fault_status)

some_text : (one two : List ℕ) → ◌≡◌ {A = Option (List ℕ)} (Some one) (Some two) → one ≡ two
some_text one two equal = cc

-- the session on the shelf
module _ (old new : SessionHostView) (taken : List ℕ) (input : old.streams.input ≡ Some session_input) (output : old.streams.output ≡ Some [])
    (told : new.streams.output ≡ Some taken) (done : AreDone taken) (one_reading : HasOneReading) (served : IsServed desk_words true old new 0) where
  named : (served.name ≡ north) × (served.may_write ≡ true)
  named = named_so served.name served.may_write served.words_are.words_are

  begins_there : BeginsAt north old.history served.first
  begins_there = subst (λ (n : Text). BeginsAt n old.history served.first) named.0 served.begins

  ended : served.ending ≡ Ended
  ended = ended_well served.ending _ (sym served.ends.status_is)

  ends_so : EndsSession Ended (Some session_input) served.answers.steps (Some []) (Some taken)
  ends_so = search (rules, ended)

  steps_are : AreSteps the_setting served.first served.answers.steps served.last
  steps_are = search (rules, named)

  three : AreThree served.first served.last taken
  three = all_steps _ _ _ _ (one_reading session_input (lines_of served.answers.steps) three_lines ends_so.0 lines_are) steps_are
      (some_text _ _ ends_so.1) done

  -- no call of the folder failed
  session_sound : new.folder_failures ≡ old.folder_failures
  session_sound = served.failures ∙ three.sound ∙ served.none

  -- `north` knows what both knew before, and the desk printed the docker
  session_leaves : (folder : ShelfView) → folder.events ≡ new.history → IsShelfHistory new.history → (known heard : Known)
      → HoldsKnown dks_2 (text_under old.history north) known → HoldsKnown dks_2 (text_under old.history south) heard
      → IsServedNorth folder taken known heard
  session_leaves folder same met known heard holds also =
      let there : IsShelfHistory served.last.history = subst IsShelfHistory served.history met in
      record {
        north = subst (λ (h : List Event). HoldsKnown dks_2 (text_under h north) (united known heard)) (sym served.history ∙ sym same)
            (holds_all old.history served.first three.one three.two served.last begins_there three.merges three.saves three.same there known heard holds also);
        docker = three.docker;
        is = prints_all old.history served.first three.one three.two served.last begins_there three.merges three.saves three.same there known heard holds also
            three.docker three.prints;
        told = three.told;
      }

-- what the session leaves and answers, for a host `seen` that equals the new host. The folder didn't fail in the session
pub served_told : (old seen new : SessionHostView) (status : ℕ) (taken : List ℕ) → Serves desk_words true old new status → seen ≡ new → status ≡ 0
    → old.streams.input ≡ Some session_input → old.streams.output ≡ Some [] → IsShelfHistory seen.history → seen.streams.output ≡ Some taken
    → AreDone taken → HasOneReading
    → ((folder : ShelfView) → folder.events ≡ seen.history → (known heard : Known) → HoldsKnown dks_2 (text_under old.history north) known
    → HoldsKnown dks_2 (text_under old.history south) heard → IsServedNorth folder taken known heard) × (seen.folder_failures ≡ old.folder_failures)
served_told old seen new status taken serves same none input output met told done one_reading =
    let served = subst (λ (h : SessionHostView). IsServed desk_words true old h 0) (sym same) (was_served old new status none serves) in (
      λ folder left. session_leaves old seen taken input output told done one_reading served folder left met,
      session_sound old seen taken input output told done one_reading served,
    )
