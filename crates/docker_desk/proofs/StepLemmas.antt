-- Appending one more answered line to a session.
use Rattle.cif_laws.proofs.Common.{◌≡◌, ◌≢◌, ℕ, ◌+◌, ◌-◌, ◌^◌, List, [], ◌∷◌, ◌++◌, length, take, refl, sym, ◌∙◌, ap, subst, rules, common_steps, arith}
use Rattle.cif_laws.proofs.Common.{length-append, Some, None, Ok, Err, true, false, inl, inr, Option, Result}
use Rattle.cif_device.specs.Device.{Takes}
use Rattle.docker_cmd.specs.Prepared.{DeviceBytes}
use Rattle.docker_cmd.specs.FaultLine.{IsCounted}
use Rattle.docker_host.specs.History.{Text}
use Rattle.docker_host.specs.Exchanges.{Exchange, bytes_read}
use Rattle.docker_host.specs.Streams.{StreamsView, WritesPart, WritesWhole}
use Rattle.docker_desk.specs.Lines.{EndsLine, LineView, MeetsEnd, UsesLine}
use Rattle.docker_desk.specs.Lines.{ReadsNext, asked_meant, is_end_of_lines, with_ahead, whole_line, bad_line, cut_line}
use Rattle.docker_desk.specs.declared.lines.Asked.{Asked}
use Rattle.docker_desk.specs.declared.lines.InputFault.{InputFault}
use Rattle.docker_desk.specs.declared.lines.InputFault.TheVariants.{Endless}
use Rattle.docker_desk.specs.Replies.{AnswerView, answer_bytes, no_request}
use Rattle.docker_desk.specs.declared.ending.Ending.{Ending}
use Rattle.docker_desk.specs.declared.ending.Ending.TheVariants.{Ended, InputFailed, InputEndless, OutputFailed}
use Rattle.docker_desk.specs.SessionViews.{SessionView, Setting, Step}
use Rattle.docker_desk.specs.Doing.{AreSteps, DoesLine, IsStep}
use Rattle.docker_desk.specs.Answering.{AnswersLines, CountsNext, IsFollowed, LeavesNone, ServesNext, StopsAtEnd, TellsAnswer, answers_text, lines_of}
use Rattle.docker_desk.proofs.ReadLinesLemmas.{ReadsFirst, begins_none, broken_at, endless_line, endless_lines, ends_on, has_none}
use Rattle.docker_desk.proofs.ReadLinesLemmas.{lines_both, many_lines, next_read, reads_more, reads_none, takes_more, takes_none, told_both}
use Rattle.docker_desk.proofs.TurnLemmas.{HasTurned, ended_unread, turn_of, turned_endless, turned_last, turned_more, turned_none, turns_broken, turns_cut}
use Rattle.docker_desk.proofs.EndLemmas.{left_after_cut}

-- ---- appending steps

module _ (setting : Setting) where
  -- if some steps lead from one point to a second, and more steps lead from there to a third, all
  -- these steps lead from the first point to the third
  steps_more : (first now last : SessionView) (steps more : List Step) → AreSteps setting first steps now → AreSteps setting now more last
      → AreSteps setting first (steps ++ more) last
  steps_more first now last [] more are then_more = subst (λ m. AreSteps setting m more last) are then_more
  steps_more first now last (step ∷ steps) more are then_more = (are.0, (are.1.0, steps_more step.after now last steps more are.1.1 then_more))

  -- the part of a session up to this point: `count` lines were read from the input and answered. The bytes
  -- `ahead` were read beyond these lines
  pub record IsSoFar (count : ℕ) (first now : SessionView) (input input_now output output_now : DeviceBytes) (ahead : Text)
      (exchanges exchanges_now : List Exchange) : Type 0 where
    pub steps : List Step
    pub many : length steps ≡ count
    pub are : AreSteps setting first steps now
    pub read : ReadsFirst input (lines_of steps) input_now
    pub told : Takes output (answers_text steps) output_now
    pub turned : HasTurned steps ahead exchanges exchanges_now

  -- a session without steps ends at its first point. Nothing was read ahead
  pub so_far_first : (first : SessionView) (ahead : Text) (left output : DeviceBytes) (exchanges : List Exchange) → ahead ≡ []
      → IsSoFar 0 first first left (with_ahead ahead left) output output ahead exchanges exchanges
  so_far_first = search (rules, reads_none, takes_none, turned_none)

  -- the step that consists of a line and its answer
  abbrev pub step_of : (line : LineView) (before : SessionView) (answer : AnswerView) (after : SessionView) → DoesLine setting line before answer after → Step
  step_of line before answer after does = record { line = line; request = does.request; before = before; answer = answer; after = after }

  is_step : (line : LineView) (before : SessionView) (answer : AnswerView) (after : SessionView) → (does : DoesLine setting line before answer after)
      → IsStep setting (step_of line before answer after does)
  is_step line before answer after does = record { asks = does.asks; does = does.does; counted = does.counted }

  -- one answered line makes a session of one step
  pub one_step : (line : LineView) (before : SessionView) (answer : AnswerView) (after : SessionView) → (does : DoesLine setting line before answer after)
      → AreSteps setting before (step_of line before answer after does ∷ []) after
  one_step line before answer after does = (refl, (is_step line before answer after does, refl))

  module _ (count : ℕ) (first now : SessionView) (input output : DeviceBytes) (ahead : Text) (exchanges : List Exchange) (old : StreamsView)
      (so_far : IsSoFar count first now input (with_ahead ahead old.input) output old.output ahead exchanges old.exchanges) where
    -- if `count` lines were answered up to a point, and then one more line, `count + 1` lines were
    -- answered up to the next point
    so_far_more : (next : SessionView) (ahead_now : Text) (new : StreamsView) → ServesNext setting now next ahead ahead_now old new None
        → IsSoFar (count + 1) first next input (with_ahead ahead_now new.input) output new.output ahead_now exchanges new.exchanges
    so_far_more next ahead_now new (line, answer, (followed, (does, ((read, told), turn)))) =
        let step = step_of line now answer next does in record {
          steps = so_far.steps ++ step ∷ [];
          many = (let size = length-append so_far.steps (step ∷ []) in let had = so_far.many in omega (arith, size, had));
          are = steps_more _ now _ so_far.steps _ so_far.are (one_step line _ answer _ does);
          read = search (rules, lines_both, reads_more);
          told = search (rules, told_both, takes_more);
          turned = turned_more _ ahead _ old.exchanges so_far.turned _ ahead_now _ followed turn;
        }

    -- the same as `so_far_more`, for a result that equals `None`
    pub so_far_on : (next : SessionView) (ahead_now : Text) (new : StreamsView) (result : Option Ending) → result ≡ None
        → ServesNext setting now next ahead ahead_now old new result
        → IsSoFar (count + 1) first next input (with_ahead ahead_now new.input) output new.output ahead_now exchanges new.exchanges
    so_far_on = search (rules, so_far_more)

    -- suppose that a session was served up to a point. If the rest of the session from that point
    -- ended in some way, the whole session ended in this way
    pub ended_after : (ending : Ending) (last : SessionView) (new : StreamsView)
        → AnswersLines setting now last (with_ahead ahead old.input) old.output new.output ahead old.exchanges new.exchanges ending
        → AnswersLines setting first last input output new.output [] exchanges new.exchanges ending
    ended_after ending last new answers = record {
      steps = so_far.steps ++ answers.steps;
      are = steps_more _ _ _ _ _ so_far.are answers.are;
      ends = ends_on _ _ _ _ _ _ _ _ so_far.read so_far.told answers.ends;
      turns = turned_last _ _ _ _ so_far.turned _ _ _ answers.turns;
    }

    -- after 2 ^ 64 - 1 lines, a session ends because its input is endless
    pub ended_endless : count ≡ 2 ^ 64 - 1 → AnswersLines setting first now input output old.output [] exchanges old.exchanges InputEndless
    ended_endless full = record {
      steps = so_far.steps;
      are = so_far.are;
      ends = search (rules, endless_lines, many_lines);
      turns = turned_endless _ _ _ _ so_far.turned (so_far.many ∙ full);
    }

-- ---- answering one line

module _ (setting : Setting) (now : SessionView) (ahead ahead_now : Text) (old mid : StreamsView) (result : Result Asked InputFault)
    (ends : EndsLine (with_ahead ahead old.input) result (with_ahead ahead_now mid.input)) (uses : UsesLine EndsLine ahead ahead_now old mid result) where
  -- reading a line leaves the output unchanged
  silent : mid.output ≡ old.output
  silent = ap (λ (s : StreamsView). s.output) uses.reads.only

  told_none : Takes old.output [] mid.output
  told_none = subst (Takes old.output []) (sym silent) (takes_none old.output)

  -- the result, if it is known
  ends_as : (known : Result Asked InputFault) → result ≡ known → EndsLine (with_ahead ahead old.input) known (with_ahead ahead_now mid.input)
  ends_as known is = subst (λ (r : Result Asked InputFault). EndsLine (with_ahead ahead old.input) r (with_ahead ahead_now mid.input)) is ends

  used_as : (known : Result Asked InputFault) → result ≡ known → EndsLine (Some (ahead ++ bytes_read uses.gained)) known (Some ahead_now)
  used_as = search rules

  -- if the input is at its end, the session ends without another line
  pub ends_before : (read : Asked) → result ≡ Ok read → asked_meant read ≡ None → ServesNext setting now now ahead ahead_now old mid (Some Ended)
  ends_before read is meant =
      let here = rw meant at (ends_as (Ok read) is) in
      let used = rw meant at (used_as (Ok read) is) in record {
        steps = [];
        are = refl;
        ends = (has_none _ here.0, told_none);
        turns = ended_unread _ ahead_now _ mid _ uses _ (has_none (Some (ahead ++ bytes_read uses.gained)) used.0, refl);
      }

  pub fails_before : ServesNext setting now now ahead ahead_now old mid (Some InputFailed)
  fails_before = record {
    steps = [];
    are = refl;
    ends = (begins_none (with_ahead ahead old.input), told_none);
    turns = ended_unread ahead ahead_now old mid result uses InputFailed (begins_none (Some (ahead ++ bytes_read uses.gained)), refl);
  }

  pub endless_before : (fault : InputFault) → result ≡ Err fault → fault ≡ Endless → ServesNext setting now now ahead ahead_now old mid (Some InputEndless)
  endless_before fault is endless = record {
    steps = [];
    are = refl;
    ends = search (rules, endless_line);
    turns = ended_unread _ ahead_now _ mid _ uses _ (
      begins_none (Some (ahead ++ bytes_read uses.gained)),
      search (rules, endless_line),
    );
  }

  module _ (next : SessionView) (read : Asked) (new : StreamsView) (is : result ≡ Ok read) where
    -- writing an answer leaves the input unchanged
    still_left : (line : LineView) → asked_meant read ≡ Some line → new.input ≡ mid.input
        → ReadsNext (with_ahead ahead old.input) line (with_ahead ahead_now new.input)
    still_left = search (rules, next_read, ends_as)

    whole_told : (text : List ℕ) → WritesWhole text mid new → Takes old.output text new.output
    whole_told text whole = subst (λ (output : DeviceBytes). Takes output text new.output) silent whole.writes.takes

    whole_left : (text : List ℕ) → WritesWhole text mid new → new.input ≡ mid.input
    whole_left text whole = ap (λ (s : StreamsView). s.input) whole.writes.only

    -- if only a part of an answer is written, the session ends at this line
    breaks_at : (line : LineView) (answer : AnswerView) → asked_meant read ≡ Some line → DoesLine setting line now answer next
        → WritesPart (answer_bytes answer) mid new → ServesNext setting now next ahead ahead_now old new (Some OutputFailed)
    breaks_at line answer meant does part = record {
      steps = step_of setting line now answer next does ∷ [];
      are = one_step _ _ _ _ _ does;
      ends = broken_at _ _ _ _ _ (still_left _ meant (ap (λ (s : StreamsView). s.input) part.writes.only))
          (part.n, part.short, subst (λ (output : DeviceBytes). Takes output (take part.n (answer_bytes answer)) new.output) silent part.writes.takes);
      turns = turns_broken _ _ _ _ _ uses _ _ _ is meant part;
    }

    -- if a line isn't cut, the session continues after its answer unless the output fails
    pub after_line : (line : LineView) (answer : AnswerView) (ending : Option Ending) → asked_meant read ≡ Some line → IsFollowed line
        → DoesLine setting line now answer next → TellsAnswer (answer_bytes answer) None mid new ending
        → ServesNext setting now next ahead ahead_now old new ending
    after_line line answer ending meant followed does (inl told) = grind (common_steps, arith, still_left, whole_left, whole_told, turn_of)
    after_line line answer ending meant followed does (inr part) = search (rules, breaks_at, part.0)

    -- the same as `after_line`, for a whole line
    pub after_whole : (line passed : List ℕ) (answer : AnswerView) (ending : Option Ending) → asked_meant read ≡ Some (whole_line line) → passed ≡ line
        → DoesLine setting (whole_line passed) now answer next → TellsAnswer (answer_bytes answer) None mid new ending
        → ServesNext setting now next ahead ahead_now old new ending
    after_whole line passed answer ending meant same does tells =
        after_line (whole_line line) answer ending meant tt (subst (λ l. DoesLine setting (whole_line l) now answer next) same does) tells

    -- if a line is cut and its answer is written, the session ends, because no line follows
    pub after_cut : (answer : AnswerView) (ending : Option Ending) → asked_meant read ≡ Some cut_line → DoesLine setting cut_line now answer next
        → TellsAnswer (answer_bytes answer) (Some Ended) mid new ending → ServesNext setting now next ahead ahead_now old new ending
    after_cut answer ending meant does (inl told) = subst (ServesNext setting now next ahead ahead_now old new) (sym told.0) (record {
      steps = step_of setting cut_line now answer next does ∷ [];
      are = one_step _ cut_line _ answer _ does;
      ends = search rules;
      turns = turns_cut ahead _ old _ result uses _ (step_of setting cut_line now answer next does) _ refl is meant told.1;
    })
    after_cut answer ending meant does (inr part) = search (rules, breaks_at, part.0)

-- ---- what the streams report

module _ (ahead ahead_now : Text) (old mid new : StreamsView) (read : Asked) (uses : UsesLine EndsLine ahead ahead_now old mid (Ok read))
    (text : List ℕ) (next ending : Option Ending) (tells : TellsAnswer text next mid new ending) where
  -- reading a line leaves the failure count of the output unchanged
  unfailed : mid.output_failures ≡ old.output_failures
  unfailed = ap (λ (s : StreamsView). s.output_failures) uses.reads.only

  -- if a line was read, the input hasn't failed. If its answer was written, the output hasn't failed
  pub counts_line : ((input output : ℕ) → CountsNext next input input output output) → mid.input_failures ≡ old.input_failures
      → CountsNext ending old.input_failures new.input_failures old.output_failures new.output_failures
  counts_line = search (rules, unfailed)

  -- writing an answer leaves what the input has reported unchanged
  same_ended : new.ended ≡ mid.ended
  same_ended = search rules

  same_passed : new.passed ≡ mid.passed
  same_passed = search rules

  -- how the answer ended, if the session continues or ends as the input ended
  pub stops_line : next ≡ None → is_end_of_lines (Ok read) ≡ false
      → MeetsEnd (is_end_of_lines (Ok read)) old.ended mid.ended old.passed mid.passed
      → StopsAtEnd ending old.ended new.ended old.passed new.passed
  stops_line = search (rules, same_passed, same_ended)

  pub stops_cut : next ≡ Some Ended → is_end_of_lines (Ok read) ≡ true
      → MeetsEnd (is_end_of_lines (Ok read)) old.ended mid.ended old.passed mid.passed
      → StopsAtEnd ending old.ended new.ended old.passed new.passed
  stops_cut = search (rules, same_passed, same_ended)

-- after a cut line, no bytes are left
pub left_at_cut : (ahead ahead_now : Text) (old mid new : StreamsView) (found : Asked) (text : List ℕ) (next ending : Option Ending)
    → EndsLine (with_ahead ahead old.input) (Ok found) (with_ahead ahead_now mid.input) → asked_meant found ≡ Some cut_line
    → TellsAnswer text next mid new ending → LeavesNone (with_ahead ahead old.input) new.input
left_at_cut = search (rules, left_after_cut, next_read)

-- if the session continues after a line, neither stream failed at that line
pub counts_on : (result : Option Ending) (input input_now output output_now : ℕ) → result ≡ None → CountsNext result input input_now output output_now
    → (input_now ≡ input) × (output_now ≡ output)
counts_on result input input_now output output_now none counts = subst (λ (r : Option Ending). CountsNext r input input_now output output_now) none counts

-- if the status isn't 4 and the failure count is unchanged, the count is right for the status
-- (`IsCounted`)
counted_none : (status count : ℕ) → status ≢ 4 → IsCounted status count count
counted_none status count other = ((λ four. absurd (other four), λ more. absurd (omega arith)), λ _. refl)

-- a bad line is answered with `no_request`, and nothing changes
pub does_bad : (setting : Setting) (now : SessionView) → DoesLine setting bad_line now no_request now
does_bad setting now = record { request = None; asks = refl; does = (refl, refl); counted = counted_none 2 now.failures (λ four. omega arith) }

pub does_cut : (setting : Setting) (now : SessionView) → DoesLine setting cut_line now no_request now
does_cut setting now = record { request = None; asks = refl; does = (refl, refl); counted = counted_none 2 now.failures (λ four. omega arith) }
