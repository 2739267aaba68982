-- The lines that were read from an input, and the answers that were written to an output.
use Rattle.cif_laws.proofs.Common.{◌≡◌, ℕ, ◌+◌, ◌-◌, ◌^◌, ◌≤◌, List, [], ◌∷◌, ◌++◌, length, refl, sym, ◌∙◌, ap, subst, rules, arith, append_assoc, append-nil}
use Rattle.cif_laws.proofs.Common.{length-append, Some, None, Ok, ⊤, Option, option_map, length-map, map-append, flat_map-append, common_steps}
use Rattle.cif_device.specs.Device.{IsEnd, Takes, TakesPart}
use Rattle.docker_cmd.specs.Prepared.{DeviceBytes}
use Rattle.docker_desk.specs.Lines.{AreLines, EndsLine, IsNextLine, LineView, ReadsAsked, ReadsMany}
use Rattle.docker_desk.specs.Lines.{ReadsNext, asked_meant, cut_line}
use Rattle.docker_desk.specs.declared.lines.Asked.{Asked}
use Rattle.docker_desk.specs.Replies.{answer_bytes}
use Rattle.docker_desk.specs.declared.ending.Ending.{Ending}
use Rattle.docker_desk.specs.declared.ending.Ending.TheVariants.{Ended, InputFailed, InputEndless, OutputFailed}
use Rattle.docker_desk.specs.SessionViews.{Step}
use Rattle.docker_desk.specs.Answering.{AreFirstLines, BeginsWith, BreaksOff, EndsSession}
use Rattle.docker_desk.specs.Answering.{HasLines, IsEndless, answers_text, lines_of}

-- ---- reading the lines of the input

-- the bytes of the input begin with these lines, and the bytes after the lines are left. The
-- definition is also true if contracts can't say which bytes the input held
abbrev pub ReadsFirst : DeviceBytes → List LineView → DeviceBytes → Type 0
ReadsFirst None lines left = ⊤
ReadsFirst (Some text) lines left = (rest : List ℕ) × (AreFirstLines text lines rest × (left ≡ Some rest))

-- if no line has been read, all bytes of the input are left
pub reads_none : (input : DeviceBytes) → ReadsFirst input [] input
reads_none = search rules

-- if a text begins with lines, and the bytes after them begin with more lines, the text begins with
-- all these lines
pub first_lines_more : (text : List ℕ) (lines more : List LineView) (rest last : List ℕ) → AreFirstLines text lines rest → AreFirstLines rest more last
    → AreFirstLines text (lines ++ more) last
first_lines_more text [] more rest last first then_more = subst (λ t. AreFirstLines t more last) first then_more
first_lines_more text (line ∷ lines) more rest last first then_more = (first.0, (first.1.0, first_lines_more _ lines _ rest _ first.1.1 then_more))

lines_more : (text : List ℕ) (lines more : List LineView) (rest : List ℕ) → AreFirstLines text lines rest → AreLines rest more → AreLines text (lines ++ more)
lines_more text [] more rest first then_more = subst (λ t. AreLines t more) first then_more
lines_more text (line ∷ lines) more rest first then_more = (first.0, (first.1.0, lines_more first.0 lines more rest first.1.1 then_more))

-- each line has at least one byte
line_is_some : (text : List ℕ) (line : LineView) (rest : List ℕ) → IsNextLine text line rest → 1 + length rest ≤ length text
line_is_some = grind (common_steps, arith, length-append)

first_lines_some : (text : List ℕ) (lines : List LineView) (rest : List ℕ) → AreFirstLines text lines rest → length lines + length rest ≤ length text
first_lines_some text [] rest first = let size : length rest ≡ length text = ap length first in omega (arith, size)
first_lines_some text (line ∷ lines) rest first =
    let one = line_is_some text line first.0 first.1.0 in let more = first_lines_some first.0 lines rest first.1.1 in omega (arith, one, more)

module _ (old now : DeviceBytes) (lines : List LineView) where
  -- if lines were read from an input and then one more line, all these lines were read in order
  pub reads_more : (new : DeviceBytes) (line : LineView) → ReadsFirst old lines now → ReadsNext now line new → ReadsFirst old (lines ++ line ∷ []) new
  reads_more = search (rules, first_lines_more)

  -- if lines were read, and the bytes left begin with more lines, the input begins with all these
  -- lines
  pub begins_more : (more : List LineView) → ReadsFirst old lines now → BeginsWith now more → BeginsWith old (lines ++ more)
  begins_more = search (rules, first_lines_more)

  -- if lines were read, and the bytes left consist of more lines, the input consists of all these
  -- lines
  pub has_more : (more : List LineView) → ReadsFirst old lines now → HasLines now more → HasLines old (lines ++ more)
  has_more = search (rules, lines_more)

  -- if the bytes left in an input are endless, the input is endless
  pub endless_more : ReadsFirst old lines now → IsEndless now → IsEndless old
  endless_more = search (rules, first_lines_some)

  -- if 2 ^ 64 - 1 lines were read from an input, the input is endless
  pub endless_lines : ReadsFirst old lines now → length lines ≡ 2 ^ 64 - 1 → IsEndless old
  endless_lines = search (rules, first_lines_some)

  -- an input begins with the lines that were read from it
  pub begins_so_far : ReadsFirst old lines now → BeginsWith old lines
  begins_so_far = search rules

-- if reading returned a line, this line is the next line of the input
pub next_read : (old new : DeviceBytes) (read : Asked) (line : LineView) → asked_meant read ≡ Some line → EndsLine old (Ok read) new → ReadsNext old line new
next_read old new read line is ends = subst (λ (met : Option LineView). ReadsAsked old met new) is ends

-- if at least 2 ^ 64 - 1 bytes were read from an input, the input is endless
pub endless_line : (old new : DeviceBytes) → ReadsMany (2 ^ 64 - 1) old new → IsEndless old
endless_line = search (rules, length-append)

-- ---- writing to the output

-- if an output is unchanged, no bytes were written to it
pub takes_none : (output : DeviceBytes) → Takes output [] output
takes_none = search (rules, append-nil)

-- if a piece was written and then a second piece, their concatenation was written
pub takes_more : (old now new : DeviceBytes) (first second : List ℕ) → Takes old first now → Takes now second new → Takes old (first ++ second) new
takes_more = search (rules, append_assoc)

-- ---- the steps of a session

pub lines_both : (steps more : List Step) → lines_of (steps ++ more) ≡ lines_of steps ++ lines_of more
lines_both steps more = map-append (λ (step : Step). step.line) steps more

pub told_both : (steps more : List Step) → answers_text (steps ++ more) ≡ answers_text steps ++ answers_text more
told_both steps more = flat_map-append (λ (step : Step). answer_bytes step.answer) steps more

pub many_lines : (steps : List Step) (count : ℕ) → length steps ≡ count → length (lines_of steps) ≡ count
many_lines steps count many = length-map steps (λ (step : Step). step.line) ∙ many

-- if some lines were answered, and then the rest of the session ended in some way, the whole session ended
-- in this way
pub ends_on : (ending : Ending) (steps more : List Step) (input input_now output output_now output_last : DeviceBytes)
    → ReadsFirst input (lines_of steps) input_now → Takes output (answers_text steps) output_now
    → EndsSession ending input_now more output_now output_last → EndsSession ending input (steps ++ more) output output_last
ends_on ending steps more input input_now output output_now output_last read told = by ending
  where
    gained : Takes output_now (answers_text more) output_last → Takes output (answers_text (steps ++ more)) output_last
    gained next = search (rules, told_both, takes_more)

    breaks : BreaksOff more output_now output_last → BreaksOff (steps ++ more) output output_last
    breaks next = record {
      earlier = steps ++ next.earlier;
      last = next.last;
      whole = ap (λ all. steps ++ all) next.whole ∙ sym (append_assoc steps next.earlier (next.last ∷ []));
      between = next.between;
      told = search (rules, told_both, takes_more);
      part = next.part;
    }

    by : (ending : Ending) → EndsSession ending input_now more output_now output_last → EndsSession ending input (steps ++ more) output output_last
    by Ended ends = (search (rules, lines_both, has_more), gained ends.1)
    by InputFailed ends = (search (rules, lines_both, begins_more), gained ends.1)
    by InputEndless ends = (search (rules, lines_both, begins_more), (endless_more input input_now (lines_of steps) read ends.1.0, gained ends.1.1))
    by OutputFailed ends = (search (rules, lines_both, begins_more), breaks ends.1)

-- each input begins with the empty list of lines
pub begins_none : (input : DeviceBytes) → BeginsWith input []
begins_none = search rules

-- if the input is at its end, all its lines have been read
pub has_none : (input : DeviceBytes) → IsEnd input → HasLines input []
has_none = search rules

-- if only a part of the answer to a line is written, the session ends at this line
pub broken_at : (step : Step) (input input_now output output_now : DeviceBytes) → ReadsNext input step.line input_now
    → TakesPart output (answer_bytes step.answer) output_now → EndsSession OutputFailed input (step ∷ []) output output_now
broken_at step input input_now output output_now read part = (
  begins_one input read,
  record { earlier = []; last = step; whole = refl; between = output; told = takes_none _; part = part },
)
  where
    begins_one : (input : DeviceBytes) → ReadsNext input step.line input_now → BeginsWith input (step.line ∷ [])
    begins_one None read = tt
    begins_one (Some text) read = (read.0, (read.0, (read.1.0, refl)))

-- if a line is cut and its answer is written, the session ends, because no line follows
pub ended_at : (step : Step) (input input_now output output_now : DeviceBytes) → step.line ≡ cut_line → ReadsNext input cut_line input_now
    → Takes output (answer_bytes step.answer) output_now → EndsSession Ended input (step ∷ []) output output_now
ended_at = search (rules, append-nil)

-- if an output that had taken nothing took the answers of a session, an output that had taken `base` takes
-- them too
pub ends_behind : (ending : Ending) (steps : List Step) (input : DeviceBytes) (base text : List ℕ)
    → EndsSession ending input steps (Some []) (Some text) → EndsSession ending input steps (Some base) (Some (base ++ text))
ends_behind ending steps input base text = by ending
  where
    behind : DeviceBytes → DeviceBytes
    behind = option_map (λ (bytes : List ℕ). base ++ bytes)

    moved : Takes (Some []) (answers_text steps) (Some text) → Takes (Some base) (answers_text steps) (Some (base ++ text))
    moved told = ap behind told

    moves : (between : DeviceBytes) (before piece : List ℕ) → between ≡ Some before → Takes between piece (Some text)
        → Takes (behind between) piece (Some (base ++ text))
    moves None before piece is taken = let never : ⊥ = cc in absurd never
    moves (Some bytes) before piece is taken = search (rules, append_assoc)

    breaks : BreaksOff steps (Some []) (Some text) → BreaksOff steps (Some base) (Some (base ++ text))
    breaks broken = record {
      earlier = broken.earlier;
      last = broken.last;
      whole = broken.whole;
      between = behind broken.between;
      told = ap behind broken.told;
      part = (broken.part.0, broken.part.1, moves broken.between (answers_text broken.earlier) _ broken.told broken.part.2);
    }

    by : (ending : Ending) → EndsSession ending input steps (Some []) (Some text) → EndsSession ending input steps (Some base) (Some (base ++ text))
    by Ended ends = (ends.0, moved ends.1)
    by InputFailed ends = (ends.0, moved ends.1)
    by InputEndless ends = (ends.0, (ends.1.0, moved ends.1.1))
    by OutputFailed ends = (ends.0, breaks ends.1)
