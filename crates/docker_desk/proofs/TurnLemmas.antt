-- The order of the reads and the writes of a session.
use Rattle.cif_laws.proofs.Common.{◌≡◌, ◌-◌, ◌^◌, List, [], ◌∷◌, ◌++◌, length, take, refl, sym, ◌∙◌, ap, subst, arith, rules, common_steps, append_assoc}
use Rattle.cif_laws.proofs.Common.{append-nil, Some, Ok, inl, inr, Result, ◌⊎◌}
use Rattle.docker_host.specs.History.{Text}
use Rattle.docker_host.specs.Exchanges.{Exchange, IsRead, IsWrite, AreReads, AreWrites, read, unread, bytes_read, bytes_written}
use Rattle.docker_host.specs.Streams.{StreamsView, Writes, WritesPart, WritesWhole}
use Rattle.docker_host.proofs.StreamsLemmas.{read_append, reads_write_none, writes_read_none, written_append}
use Rattle.docker_desk.specs.Lines.{EndsLine, IsNextLine, IsWithoutFeed, LineView, ReadsInLine, ReadsNext, UsesLine}
use Rattle.docker_desk.specs.Lines.{asked_meant, cut_line}
use Rattle.docker_desk.specs.declared.lines.Asked.{Asked}
use Rattle.docker_desk.specs.declared.lines.InputFault.{InputFault}
use Rattle.docker_desk.specs.Replies.{AnswerView, answer_bytes}
use Rattle.docker_desk.specs.declared.ending.Ending.{Ending}
use Rattle.docker_desk.specs.declared.ending.Ending.TheVariants.{Ended, InputEndless, OutputFailed}
use Rattle.docker_desk.specs.SessionViews.{Step}
use Rattle.docker_desk.specs.Answering.{AnswersBeforeReading, AreFirstLines, EndsSession, HasAnswered, IsFollowed, TakesOneTurn, TakesTurns}
use Rattle.docker_desk.specs.Answering.{answers_text, lines_of}
use Rattle.docker_desk.proofs.ReadLinesLemmas.{ReadsFirst, begins_so_far, broken_at, ended_at, endless_lines, ends_behind, ends_on, first_lines_more}
use Rattle.docker_desk.proofs.ReadLinesLemmas.{lines_both, many_lines, told_both}
use Rattle.docker_desk.proofs.UseLemmas.{in_line_are_reads}

-- ---- lines that are followed by another line

-- the text begins with these lines, none of which is cut, and the bytes after the lines are `rest`
abbrev pub ReadsOpen : Text → List LineView → Text → Type 0
ReadsOpen text [] rest = rest ≡ text
ReadsOpen text (line ∷ lines) rest = (next : Text) × (IsFollowed line × (IsNextLine text line next × ReadsOpen next lines rest))

open_first : (text : Text) (lines : List LineView) (rest : Text) → ReadsOpen text lines rest → AreFirstLines text lines rest
open_first text [] rest open_lines = open_lines
open_first text (line ∷ lines) rest open_lines = (open_lines.0, (open_lines.1.1.0, open_first _ lines _ open_lines.1.1.1))

-- more bytes after a text don't change its lines, unless a line is cut
next_append : (text more : Text) (line : LineView) (rest : Text) → IsFollowed line → IsNextLine text line rest → IsNextLine (text ++ more) line (rest ++ more)
next_append = search (rules, append_assoc)

open_append : (text more : Text) (lines : List LineView) (rest : Text) → ReadsOpen text lines rest → ReadsOpen (text ++ more) lines (rest ++ more)
open_append text more [] rest open_lines = ap (λ (t : Text). t ++ more) open_lines
open_append text more (line ∷ lines) rest open_lines = (
  open_lines.0 ++ more,
  (
    open_lines.1.0,
    (next_append text _ line _ open_lines.1.0 open_lines.1.1.0, open_append open_lines.0 _ lines _ open_lines.1.1.1),
  ),
)

open_more : (text : Text) (lines : List LineView) (rest : Text) (line : LineView) (next : Text) → ReadsOpen text lines rest → IsFollowed line
    → IsNextLine rest line next → ReadsOpen text (lines ++ line ∷ []) next
open_more text [] rest line next open_lines followed is = search rules
open_more text (first ∷ lines) rest line next open_lines followed is =
    (open_lines.0, (open_lines.1.0, (open_lines.1.1.0, open_more open_lines.0 lines rest line next open_lines.1.1.1 followed is)))

-- ---- an exchange in one of two lists

-- the exchange stands in the first of two lists, or in the second
abbrev Stands : (one two before after : List Exchange) → Exchange → Type 0
Stands one two before after exchange =
    ((middle : List Exchange) × (one ≡ before ++ exchange ∷ middle))
    ⊎ ((middle : List Exchange) × ((before ≡ one ++ middle) × (two ≡ middle ++ exchange ∷ after)))

stands : (one two before after : List Exchange) (exchange : Exchange) → one ++ two ≡ before ++ exchange ∷ after → Stands one two before after exchange
stands [] two before after exchange same = inr (before, (refl, same))
stands (first ∷ one) two [] after exchange same = search rules
stands (first ∷ one) two (other ∷ before) after exchange same =
    let heads : first ≡ other = let head : first ≡ other = cc in head in
    let tails : one ++ two ≡ before ++ exchange ∷ after = let tail : one ++ two ≡ before ++ exchange ∷ after = cc in tail in
    elim (stands one two before after exchange tails) [
      | inl is ↦ inl (is.0, (λ i. heads i ∷ is.1 i))
      | inr is ↦ inr (is.0, ((λ i. sym heads i ∷ is.1.0 i), is.1.1))
    ]

-- a read within a line was made before any line feed was read, and after reads only
in_line_at : (text : Text) (before : List Exchange) (exchange : Exchange) (after : List Exchange) → ReadsInLine text (before ++ exchange ∷ after)
    → IsWithoutFeed (text ++ bytes_read before) × AreReads before
in_line_at text [] (read bytes) after reads = (subst IsWithoutFeed (sym (append-nil text)) reads.0, tt)
in_line_at text [] unread after reads = (subst IsWithoutFeed (sym (append-nil text)) reads.0, tt)
in_line_at text [] _ after reads = absurd reads
in_line_at text (read bytes ∷ before) exchange after reads =
    let rest = in_line_at (text ++ bytes) before exchange after reads.1 in (rw (← append_assoc text bytes (bytes_read before)) rest.0, (tt, rest.1))
in_line_at text (unread ∷ before) exchange after reads = let rest = in_line_at text before exchange after reads.1 in (rest.0, (tt, rest.1))
in_line_at text (_ ∷ before) exchange after reads = absurd reads

write_at : (before : List Exchange) (exchange : Exchange) (after : List Exchange) → AreWrites (before ++ exchange ∷ after) → IsWrite exchange
write_at [] exchange after are = are.0
write_at (first ∷ before) exchange after are = write_at before exchange after are.1

-- no write is a read
no_write_reads : (exchange : Exchange) → IsWrite exchange → IsRead exchange → ⊥
no_write_reads = search rules

-- ---- each line is answered before the next read

-- in exchanges that are reads within a line and then writes, no line had been read as a whole when the input
-- was read
pub order_once : (ahead : Text) (steps : List Step) (reads writes : List Exchange) → ReadsInLine ahead reads → AreWrites writes
    → AnswersBeforeReading ahead steps (reads ++ writes)
order_once = search (rules, stands, in_line_at, reads_write_none, no_write_reads, write_at)

-- the same as `order_once`, for exchanges that are reads only
pub order_reads : (ahead : Text) (steps : List Step) (reads : List Exchange) → ReadsInLine ahead reads → AnswersBeforeReading ahead steps reads
order_reads ahead steps reads are_reads = subst (AnswersBeforeReading ahead steps) (append-nil reads) (order_once _ _ _ _ are_reads tt)

module _ (ahead middle : Text) (steps more : List Step) (one two : List Exchange) where
  -- if each line was answered before the next read in the first part of a session, and in the second part,
  -- this holds for the whole session
  pub order_both : AnswersBeforeReading ahead steps one → ReadsOpen (ahead ++ bytes_read one) (lines_of steps) middle
      → bytes_written one ≡ answers_text steps → AnswersBeforeReading middle more two
      → AnswersBeforeReading ahead (steps ++ more) (one ++ two)
  order_both first open_lines told second = λ before after exchange same is_read. elim (stands _ two _ after _ same) [
    | inl is ↦ in_first before (first before is.0 exchange is.1 is_read)
    | inr is ↦ subst (HasAnswered ahead (steps ++ more)) (sym is.1.0) (in_second is.0 (second is.0 after exchange is.1.1 is_read))
  ]
    where
      in_first : (before : List Exchange) → HasAnswered ahead steps before → HasAnswered ahead (steps ++ more) before
      in_first before has = search (rules, append_assoc)

      total : (before : List Exchange) → (ahead ++ bytes_read one) ++ bytes_read before ≡ ahead ++ bytes_read (one ++ before)
      total before = append_assoc ahead (bytes_read one) (bytes_read before) ∙ ap (λ (t : Text). ahead ++ t) (sym (read_append one _))

      in_second : (before : List Exchange) → HasAnswered middle more before → HasAnswered ahead (steps ++ more) (one ++ before)
      in_second before has = record {
        earlier = steps ++ has.earlier;
        later = has.later;
        first = ap (λ (all : List Step). steps ++ all) has.first ∙ sym (append_assoc steps has.earlier has.later);
        rest = has.rest;
        lines = subst (λ (ls : List LineView). AreFirstLines (ahead ++ bytes_read (one ++ before)) ls has.rest) (sym (lines_both steps _))
            (subst (λ (t : Text). AreFirstLines t (lines_of steps ++ lines_of has.earlier) has.rest) (total before)
            (search (rules, first_lines_more, open_first, open_append)));
        one = has.one;
        told = written_append one _ ∙ (λ i. told i ++ has.told i) ∙ sym (told_both steps _);
      }

-- ---- a session, line by line

-- the exchanges of a session so far: the lines of these steps were read and answered, each line before the
-- next read. The bytes `ahead` were read beyond the lines
pub record HasTurned (steps : List Step) (ahead : Text) (exchanges exchanges_now : List Exchange) : Type 0 where
  pub gained : List Exchange
  pub exchanged : exchanges_now ≡ exchanges ++ gained
  pub lines : ReadsOpen (bytes_read gained) (lines_of steps) ahead
  pub told : bytes_written gained ≡ answers_text steps
  pub order : AnswersBeforeReading [] steps gained

pub turned_none : (ahead : Text) (exchanges : List Exchange) → ahead ≡ [] → HasTurned [] ahead exchanges exchanges
turned_none ahead exchanges none = record {
  gained = [];
  exchanged = sym (append-nil exchanges);
  lines = none;
  told = refl;
  order = order_reads [] [] [] tt;
}

gained_both : (exchanges middle last one two : List Exchange) → middle ≡ exchanges ++ one → last ≡ middle ++ two → last ≡ exchanges ++ (one ++ two)
gained_both = search (rules, append_assoc)

module _ (steps : List Step) (ahead : Text) (exchanges exchanges_now : List Exchange) (turned : HasTurned steps ahead exchanges exchanges_now) where
  -- the lines of the steps so far, if more bytes are read
  lines_on : (two : List Exchange) → ReadsOpen (bytes_read (turned.gained ++ two)) (lines_of steps) (ahead ++ bytes_read two)
  lines_on = search (rules, read_append, open_append)

  -- the bytes read within one turn
  turn_read : (reads writes : List Exchange) → AreWrites writes → bytes_read (reads ++ writes) ≡ bytes_read reads
  turn_read = search (rules, read_append, writes_read_none, append-nil)

  -- one more line was read and answered
  pub turned_more : (step : Step) (next : Text) (exchanges_next : List Exchange) → IsFollowed step.line
      → TakesOneTurn step.line step.answer ahead next exchanges_now exchanges_next → HasTurned (steps ++ step ∷ []) next exchanges exchanges_next
  turned_more step next exchanges_next followed turn = record {
    gained = turned.gained ++ (turn.reads ++ turn.writes);
    exchanged = gained_both _ exchanges_now _ turned.gained _ turned.exchanged turn.exchanged;
    lines = subst (λ (ls : List LineView). ReadsOpen (bytes_read (turned.gained ++ (turn.reads ++ turn.writes))) ls next) (sym (lines_both steps _))
        (open_more (bytes_read (turned.gained ++ (turn.reads ++ turn.writes))) _ (ahead ++ bytes_read (turn.reads ++ turn.writes)) _
        next (lines_on _) followed
        (subst (λ (t : Text). IsNextLine (ahead ++ t) step.line next) (sym (turn_read turn.reads _ turn.are_writes)) turn.line_is));
    told = written_append turned.gained _ ∙ (λ i. turned.told i ++ answered i)
        ∙ sym (told_both steps _);
    order = search (rules, order_both, order_once);
  }
    where
      answered : bytes_written (turn.reads ++ turn.writes) ≡ answers_text (step ∷ [])
      answered = search (rules, written_append, reads_write_none, in_line_are_reads)

  -- the rest of the session ended in this way
  pub turned_last : (ending : Ending) (more : List Step) (exchanges_last : List Exchange)
      → TakesTurns ending ahead more exchanges_now exchanges_last → TakesTurns ending [] (steps ++ more) exchanges exchanges_last
  turned_last ending more exchanges_last turns = record {
    gained = turned.gained ++ turns.gained;
    exchanged = gained_both _ exchanges_now _ turned.gained _ turned.exchanged turns.exchanged;
    ends = subst (λ (t : Text). EndsSession ending (Some (bytes_read (turned.gained ++ turns.gained))) (steps ++ more) (Some []) (Some t))
        (sym (written_append turned.gained _)) (ends_on ending _ more _ (Some (ahead ++ bytes_read turns.gained)) _ (Some (bytes_written turned.gained)) _ (
          ahead ++ bytes_read turns.gained,
          search (rules, open_first, lines_on),
        ) (ap Some turned.told) (ends_behind ending _ (Some (ahead ++ bytes_read turns.gained)) _ (bytes_written turns.gained) turns.ends));
    order = order_both [] ahead steps more turned.gained turns.gained turned.order turned.lines turned.told turns.order;
  }

  -- after 2 ^ 64 - 1 lines, the session ends because its input is endless
  pub turned_endless : length steps ≡ 2 ^ 64 - 1 → TakesTurns InputEndless [] steps exchanges exchanges_now
  turned_endless full =
      let first : ReadsFirst (Some (bytes_read turned.gained)) (lines_of steps) (Some ahead) =
      (ahead, (open_first (bytes_read turned.gained) (lines_of steps) ahead turned.lines, refl)) in record {
        gained = turned.gained;
        exchanged = turned.exchanged;
        ends = search (rules, begins_so_far, endless_lines, many_lines);
        order = turned.order;
      }

-- ---- one line

-- the bytes of the line that was read
line_read : (old : Text) (line : LineView) (new : Text) → ReadsNext (Some old) line (Some new) → IsNextLine old line new
line_read = search rules

module _ (ahead ahead_now : Text) (old mid : StreamsView) (result : Result Asked InputFault) (uses : UsesLine EndsLine ahead ahead_now old mid result) where
  -- the exchanges of the reads
  reads_gained : mid.exchanges ≡ old.exchanges ++ uses.gained
  reads_gained = ap (λ (s : StreamsView). s.exchanges) uses.reads.only

  all_gained : (text : Text) (gained : List Exchange) (new : StreamsView) → Writes text gained mid new
      → new.exchanges ≡ old.exchanges ++ (uses.gained ++ gained)
  all_gained = search (rules, gained_both, reads_gained)

  -- the line that was read, in terms of the reads
  next_of : (found : Asked) (line : LineView) → result ≡ Ok found → asked_meant found ≡ Some line
      → ReadsNext (Some (ahead ++ bytes_read uses.gained)) line (Some ahead_now)
  next_of = search rules

  -- a line was read and its whole answer was written
  pub turn_of : (found : Asked) (line : LineView) (answer : AnswerView) (new : StreamsView) → result ≡ Ok found → asked_meant found ≡ Some line
      → WritesWhole (answer_bytes answer) mid new → TakesOneTurn line answer ahead ahead_now old.exchanges new.exchanges
  turn_of = grind (common_steps, arith, all_gained, line_read, next_of)

  -- the bytes read and written in reads and then writes
  read_is : (gained : List Exchange) → AreWrites gained → bytes_read (uses.gained ++ gained) ≡ bytes_read uses.gained
  read_is = search (rules, read_append, writes_read_none, append-nil)

  written_is : (gained : List Exchange) → bytes_written (uses.gained ++ gained) ≡ bytes_written gained
  written_is = search (rules, written_append, reads_write_none, in_line_are_reads)

  -- a session that ended after the reads and these writes
  ended_by : (ending : Ending) (steps : List Step) (text : Text) (gained : List Exchange) (new : StreamsView) → Writes text gained mid new
      → EndsSession ending (Some (ahead ++ bytes_read uses.gained)) steps (Some []) (Some (bytes_written gained))
      → TakesTurns ending ahead steps old.exchanges new.exchanges
  ended_by = grind (common_steps, arith, all_gained, read_is, written_is, order_once)

  -- a session that ended after the reads
  pub ended_unread : (ending : Ending) → EndsSession ending (Some (ahead ++ bytes_read uses.gained)) [] (Some []) (Some [])
      → TakesTurns ending ahead [] old.exchanges mid.exchanges
  ended_unread = search (rules, reads_gained, reads_write_none, in_line_are_reads, order_reads)

  -- only a part of the answer to a line was written
  pub turns_broken : (found : Asked) (step : Step) (new : StreamsView) → result ≡ Ok found → asked_meant found ≡ Some step.line
      → WritesPart (answer_bytes step.answer) mid new → TakesTurns OutputFailed ahead (step ∷ []) old.exchanges new.exchanges
  turns_broken found step new is meant part = ended_by OutputFailed _ (take part.n (answer_bytes step.answer)) _ new part.writes
      (broken_at _ (Some (ahead ++ bytes_read uses.gained)) _ (Some []) _ (next_of found _ is meant) (part.n, part.short, ap Some part.writes.are))

  -- a line was cut, and its answer was written
  pub turns_cut : (found : Asked) (step : Step) (new : StreamsView) → step.line ≡ cut_line → result ≡ Ok found → asked_meant found ≡ Some cut_line
      → WritesWhole (answer_bytes step.answer) mid new → TakesTurns Ended ahead (step ∷ []) old.exchanges new.exchanges
  turns_cut = search (rules, ended_by, ended_at, next_of)
