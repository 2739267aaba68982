-- Reading a source: the bytes that the parser was fed are exactly the bytes that the source held.
use Rattle.std.proofs.Common.{◌≡◌, ◌≢◌, ℕ, ◌<◌, List, [], ◌∷◌, ◌++◌, length, take, drop, refl, ap, sym, ◌∙◌, subst, inr, rules, ◌⊎◌, arith, append_assoc}
use Rattle.std.proofs.Common.{append-nil, length-drop, Some, None, Err, Result, Option, Ok, IfErr, IsOk, OnOk, ◌^◌}
use Rattle.std.proofs.lemmas.List.{take-append-drop}
use Rattle.cif_device.specs.Device.{Reads, IsEnd, Held}
use Rattle.cif_device.specs.Taken.{AfterEach, HasFed, HasRefused, LosesOnePieceMore}
use Rattle.docker_model.specs.state.State.{State, raise_horizon}
use Rattle.docker_model.specs.state.StateText.{Format}
use Rattle.docker_model.specs.state.StateFault.{has_tail, IsStateText, HasTail}
use Rattle.docker_model.specs.state.StateFault as model
use Rattle.state_laws.proofs.texts.StateFaultStays.{bad_part_stays, long_stays}
use Rattle.state_text.specs.declared.cause.StateCause.{StateCause}
use Rattle.state_text.specs.declared.cause.StateCause.TheVariants as cause
use Rattle.docker_bytes.specs.declared.fault.StateFault.{StateFault}
use Rattle.docker_bytes.specs.declared.fault.Step.{Step}
use Rattle.docker_bytes.specs.declared.fault.Step.TheVariants.{Done, More}
use Rattle.docker_bytes.specs.declared.read.ReadFault.{ReadFault}
use Rattle.docker_bytes.specs.declared.read.ReadFault.TheVariants as fault
use Rattle.state_text.specs.FaultMeaning.{cause_meant}
use Rattle.docker_bytes.specs.StateReading.{format_of, IsCauseSoFar, IsFaultReported, IsCauseAtEnd, IsUnended, IsWhole, IsWanting, IsMadeOf, IsStep, JoinsText}
use Rattle.docker_bytes.specs.ParserRead.{ParserState, HasRead, IsUnread}
use Rattle.docker_bytes.specs.StateTaken.{RefusesPart, StateSettings, TakesState}
use Rattle.docker_bytes.specs.SourceRead.{ReadsState, ReadsMade, IsCauseOf, IsFaultOf, RefusesState}
use Rattle.docker_bytes.specs.SourceRead.{ReadsOnePieceMore, ReadsAll, WantsSoFar, WantsMemory, JoinsState, RaisesState}
use Rattle.docker_bytes.specs.ReadEnds.{as_it_is, CountsOutcome, CountsWhy, EndsReadingBy, EndsText, IsOutcome, IsWhyUnread, StopsReading, Wanting}
use Rattle.docker_bytes.proofs.TextEnd.{sound_text}

-- ---- the parser's fault determines the read fault

none_is_memory : (c : StateCause) → cause_meant c ≡ None → c ≡ cause.Memory
none_is_memory = search rules

memory_or_not : (c : StateCause) → (c ≡ cause.Memory) ⊎ (c ≢ cause.Memory)
memory_or_not = search rules

-- if the read fault is a fault of the text, it equals the parser's fault, whose cause isn't `Memory`
not_memory : {A : Type 0} (found told : StateFault) (result : ReadFault) → (found.cause ≡ cause.Memory → result ≡ fault.Memory)
    → (found.cause ≢ cause.Memory → result ≡ fault.State found)
    → ◌≡◌ {A = Result A ReadFault} (Err result) (Err (fault.State told)) → (found ≡ told) × (found.cause ≢ cause.Memory)
not_memory = search (rules, memory_or_not)

told_so_far : (format : Format) (limit : ℕ) (text piece rest : List ℕ) (at : ℕ) (c : Option model.StateCause) → c ≢ None
    → IsCauseSoFar format limit text piece at c → IsCauseOf format limit ((text ++ piece) ++ rest) at c
told_so_far format limit text piece rest at None other told = other refl
told_so_far format limit text piece rest at (Some c) other told = search (rules, bad_part_stays, long_stays)

told_at_end : (format : Format) (limit : ℕ) (text : List ℕ) (at : ℕ) (c : StateCause) → c ≢ cause.Memory → IsCauseAtEnd format limit text at (cause_meant c)
    → IsCauseOf format limit text at (cause_meant c)
told_at_end = search (rules, none_is_memory)

-- if a fault of the text is returned for a piece, this fault is the fault of each text that begins
-- with the bytes up to the piece's end
pub told_as_state : {A : Type 0} (format : Format) (limit : ℕ) (text piece rest : List ℕ) (found told : StateFault) (result : ReadFault)
    → IsFaultReported format limit text piece found → (found.cause ≡ cause.Memory → result ≡ fault.Memory)
    → (found.cause ≢ cause.Memory → result ≡ fault.State found) → ◌≡◌ {A = Result A ReadFault} (Err result) (Err (fault.State told))
    → IsFaultOf format limit ((text ++ piece) ++ rest) told
told_as_state format limit text piece rest found told result so_far memory state is =
    let same = not_memory found told result memory state is in
    rw (← same.0) (told_so_far format limit text piece rest found.at _ (λ none. same.1 (none_is_memory _ none)) so_far)

-- at the end of a text, a parser's fault becomes a fault of the text or, if the text is complete, the read fault `Memory`
pub ended_for : {A : Type 0} (format : Format) (limit : ℕ) (text : List ℕ) (IsMade : A → Type 0) (found : StateFault) (result : ReadFault)
    → IsUnended format limit text found → (found.cause ≡ cause.Memory → result ≡ fault.Memory)
    → (found.cause ≢ cause.Memory → result ≡ fault.State found)
    → EndsText format limit text IsMade (Err result)
ended_for = search (rules, memory_or_not, told_at_end)

-- if the read fault is `Memory`, the cause of the parser's fault is `Memory`
is_memory : {A : Type 0} (found : StateFault) (result : ReadFault) → (found.cause ≢ cause.Memory → result ≡ fault.State found)
    → ◌≡◌ {A = Result A ReadFault} (Err result) (Err fault.Memory)
    → found.cause ≡ cause.Memory
is_memory = search (rules, memory_or_not)

-- if `Memory` is returned for a piece, there was no memory for a part that ends in the piece
pub told_as_memory : {A : Type 0} (format : Format) (limit : ℕ) (text piece : List ℕ) (found : StateFault) (result : ReadFault)
    → IsFaultReported format limit text piece found
    → (found.cause ≢ cause.Memory → result ≡ fault.State found) → ◌≡◌ {A = Result A ReadFault} (Err result) (Err fault.Memory)
    → (at : ℕ) × IsWanting format limit text piece at
told_as_memory = search (rules, is_memory)

-- ---- bytes after the state

tail_of : (format : Format) (limit : ℕ) (text piece rest : List ℕ) (used : ℕ) (found : StateFault) → used < length piece
    → IsWhole format limit (text ++ take used piece) → found.at ≡ length (text ++ take used piece)
    → found.cause ≡ cause.Tail → IsFaultOf format limit ((text ++ piece) ++ rest) found
tail_of format limit text piece rest used found below whole at is =
    subst (λ c. IsCauseOf format limit ((text ++ piece) ++ rest) found.at (cause_meant c)) (sym is)
    (inr (inr (inr (by (drop used piece) (take-append-drop used piece) (let size = length-drop used piece in omega arith)))))
  where
    by : (behind : List ℕ) → take used piece ++ behind ≡ piece → 0 < length behind
        → HasTail format limit ((text ++ piece) ++ rest) (record { at = found.at; cause = has_tail })
    by [] split some = absurd (let none : 0 < length {A = ℕ} [] = some in omega arith)
    by (next ∷ behind) split some = record {
      state = whole.0;
      valid = whole.1.valid;
      next = next;
      rest = behind ++ rest;
      whole = ap (λ xs. (text ++ xs) ++ rest) (sym split)
          ∙ ap (λ xs. xs ++ rest) (sym (append_assoc text (take used piece) (next ∷ behind)))
          ∙ append_assoc (text ++ take used piece) (next ∷ behind) rest
          ∙ ap (λ xs. xs ++ (next ∷ behind ++ rest)) whole.1.is;
      within = (let size = ap length whole.1.is in let within = whole.1.within in omega arith);
      cause = refl;
      end_at = at ∙ ap length whole.1.is;
    }

-- if a byte of a piece wasn't used, the byte follows the state, and the fault of the text is `Tail`
pub tail_told : (format : Format) (limit : ℕ) (text piece rest : List ℕ) (used : ℕ) (step : Step) (found : StateFault) → used < length piece
    → IsStep format limit text piece (used, step)
    → found.at ≡ length (text ++ take used piece) → found.cause ≡ cause.Tail → IsFaultOf format limit ((text ++ piece) ++ rest) found
tail_told format limit text piece rest used Done found below whole at is = tail_of format limit text piece rest used found below whole at is
tail_told format limit text piece rest used More found below more at is = absurd (let all = more.0 in omega arith)

-- ---- pieces

-- the format and the limit with which a parser was made
abbrev pub settings_of : {K : Type 0} → ParserState K → StateSettings
settings_of parser = record { format = format_of parser.reading; limit = parser.reading.limit }

-- before its first piece, a parser has read the empty text
pub at_start : {K : Type 0} (parser : ParserState K) → IsUnread parser → parser.reading.limit < 2 ^ 64 → TakesState parser (settings_of parser) []
at_start parser unread small = record { read = unread; small = small }

-- if a call returns no fault for a piece, the parser has read the piece
pub takes_more : {K : Type 0} (before after : ParserState K) (piece : List ℕ) {A : Type 0} (result : Result A ReadFault)
    → ((format : Format) (limit : ℕ) (text : List ℕ) → HasRead before format limit text → IsOk result → HasRead after format limit (text ++ piece))
    → OnOk result (AfterEach TakesState before (λ settings text. TakesState after settings (text ++ piece)))
takes_more before after piece (Ok done) read = λ settings text has.
    record { read = read settings.format settings.limit text has.read refl; small = has.small }
takes_more before after piece (Err told) read = tt

-- if a call returns a fault for a piece, the parser has refused the piece
pub refuses_more : {K : Type 0} (before after : ParserState K) (piece : List ℕ) {A : Type 0} (result : Result A ReadFault)
    → ((format : Format) (limit : ℕ) (text : List ℕ) → HasRead before format limit text → (found : StateFault) → result ≡ Err (fault.State found)
    → (rest : List ℕ) → IsFaultOf format limit ((text ++ piece) ++ rest) found)
    → ((format : Format) (limit : ℕ) (text : List ℕ) → HasRead before format limit text → result ≡ Err fault.Memory
    → (at : ℕ) × IsWanting format limit text piece at)
    → result ≢ Err fault.Source
    → IfErr result (λ told. AfterEach TakesState before (λ settings text. RefusesPart after settings text piece told))
refuses_more before after piece (Ok done) state memory source = tt
refuses_more before after piece (Err told) state memory source = λ settings text has. record {
  state = λ found is. state settings.format settings.limit text has.read found (ap Err is);
  memory = λ is. memory settings.format settings.limit text has.read (ap Err is);
  apart = λ is. source (ap Err is);
}

-- the text that was read up to the end of a source is the text that the source held
held_all : (initial now : Option (List ℕ)) (text : List ℕ) → Reads initial text now → IsEnd now → Held initial text
held_all = search (rules, append-nil)

-- if a parser was fed from a source until the source ended, it has read all bytes that the source
-- held
pub reads_all : {K : Type 0} (settings : StateSettings) (count : ℕ) (initial now : Option (List ℕ)) (parser : ParserState K)
    → HasFed TakesState count settings [] initial now parser → IsEnd now → ReadsAll settings.format settings.limit initial parser
reads_all = search (rules, held_all)

-- if a parser has read a text, the format and the limit of this reading are the parser's format and
-- limit
pub unread : {K : Type 0} (parser : ParserState K) (format : Format) (limit : ℕ) (text : List ℕ) → HasRead parser format limit text
    → HasRead parser (format_of parser.reading) parser.reading.limit text
unread = search rules

-- a statement about the parser's format and limit also holds for the format and the limit with
-- which the parser was made
pub as_asked : {K : Type 0} (parser : ParserState K) (format : Format) (limit : ℕ) (text : List ℕ) (P : Format → ℕ → Type 0) → HasRead parser format limit text
    → P (format_of parser.reading) parser.reading.limit → P format limit
as_asked = search rules

-- a fault that is returned for a piece is a fault of the text that the source held
refused_within : {K : Type 0} (settings : StateSettings) (initial next : Option (List ℕ)) (parser : ParserState K) (found : StateFault)
    → HasRefused TakesState RefusesPart 65536 settings [] initial next parser (fault.State found) → RefusesState settings.format settings.limit initial found
refused_within settings None None parser found has = record { text = _; held = tt; is = has.refused.state found refl [] }
refused_within settings (Some left) None parser found has = let never : ⊥ = let lost = has.more.lost in cc in absurd never
refused_within settings None (Some rest) parser found has = let never : ⊥ = let lost = has.more.lost in cc in absurd never
refused_within settings (Some left) (Some rest) parser found has = record {
  text = (has.more.bytes ++ has.more.piece) ++ rest;
  held = (let lost = has.more.lost in cc);
  is = has.refused.state found refl rest;
}

-- the bytes read from the source are the text that the parser took, which has no fault, followed by
-- at most one piece
pub loses_few : {K : Type 0} (settings : StateSettings) (initial next : Option (List ℕ)) → LosesOnePieceMore (TakesState {K = K}) 65536 settings [] initial next
    → ReadsOnePieceMore settings.format 65536 settings.limit initial next
loses_few settings initial next more = search (rules, (sound_text more.taker settings.format settings.limit more.bytes more.taken.read))

-- if a parser refuses a piece because memory ran out, there was no memory for a part that ends in the piece
wants_part : {K : Type 0} (settings : StateSettings) (initial next : Option (List ℕ)) (parser : ParserState K)
    → HasRefused TakesState RefusesPart 65536 settings [] initial next parser fault.Memory → WantsSoFar settings.format 65536 settings.limit initial next
wants_part = search rules

-- ---- how reading ends

-- if a source is unchanged, nothing was read from it
pub nothing_lost : (initial next : Option (List ℕ)) → next ≡ initial → Reads initial [] next
nothing_lost = search rules

-- if the parser refuses a piece, reading ends with the fault of this piece
pub refused_ends : {K : Type 0} (settings : StateSettings) (initial next : Option (List ℕ)) (parser : ParserState K) (told : ReadFault) (failed failed_now : ℕ)
    → ReadsOnePieceMore settings.format 65536 settings.limit initial next → failed_now ≡ failed
    → HasRefused TakesState RefusesPart 65536 settings [] initial next parser told
    → StopsReading settings.format settings.limit initial next (IsWhyUnread WantsSoFar settings.format settings.limit initial next (Some told))
    (CountsWhy (Some told) failed failed_now)
refused_ends settings initial next parser fault.Source failed failed_now few same has = absurd (has.refused.apart refl)
refused_ends settings initial next parser (fault.State found) failed failed_now few same has = search (rules, refused_within)
refused_ends settings initial next parser fault.Memory failed failed_now few same has = search (rules, wants_part)

-- `WantsMemory` also covers the end of the text, so a reason to stop that satisfies `WantsSoFar` also satisfies `WantsMemory`
pub ends_early : (format : Format) (limit : ℕ) (initial next : Option (List ℕ)) (told : ReadFault) (failed failed_now : ℕ)
    → StopsReading format limit initial next (IsWhyUnread WantsSoFar format limit initial next (Some told)) (CountsWhy (Some told) failed failed_now)
    → StopsReading format limit initial next (IsWhyUnread WantsMemory format limit initial next (Some told)) (CountsWhy (Some told) failed failed_now)
ends_early = search rules

-- if all bytes of a source were read, reading ends with the result that the parser returns for
-- these bytes
pub ends_whole : {K A : Type 0} (format : Format) (limit : ℕ) (initial next : Option (List ℕ)) (parser : ParserState K) (failed failed_now : ℕ)
    (IsMade : List ℕ → A → Type 0) (IsRead : A → Type 0) (result : Result A ReadFault)
    → StopsReading format limit initial next (ReadsAll format limit initial parser) (failed_now ≡ failed)
    → ((text : List ℕ) → HasRead parser format limit text → EndsText format limit text (IsMade text) result)
    → ((text : List ℕ) (made : A) → Held initial text → IsMade text made → IsRead made)
    → StopsReading format limit initial next (IsOutcome WantsMemory as_it_is format limit IsRead initial next result)
    (CountsOutcome as_it_is failed failed_now result)
ends_whole format limit initial next parser failed failed_now IsMade IsRead (Ok made) read ends of = search rules
ends_whole format limit initial next parser failed failed_now IsMade IsRead (Err fault.Source) read ends of = absurd (ends _ read.outcome.read)
ends_whole format limit initial next parser failed failed_now IsMade IsRead (Err (fault.State found)) read ends of = search rules
ends_whole format limit initial next parser failed failed_now IsMade IsRead (Err fault.Memory) read ends of =
    let is = ends _ read.outcome.read in
    record { few = read.few; outcome = inr (inr (is.0, record { text = _; held = read.outcome.held; is = is.1 })); failures = read.failures }

-- if `IsMade` implies `IsRead`, and reading ends with a value for which `IsMade` holds, then reading ends with a value for which `IsRead` holds
pub ends_with : {S A E : Type 0} (wants : Wanting) (why : E → Option ReadFault) (left : S → Option (List ℕ)) (failures : S → ℕ) (format : Format) (limit : ℕ)
    (IsMade IsRead : A → Type 0) (source source_now : S) (result : Result A E) → ((made : A) → IsMade made → IsRead made)
    → EndsReadingBy wants why left failures format limit IsMade source source_now result
    → EndsReadingBy wants why left failures format limit IsRead source source_now result
ends_with = search rules

-- a keeper makes a value from the parts of a state. If this value is the state itself, the text
-- that was read is the text of this state
pub made_itself : (format : Format) (limit : ℕ) (text : List ℕ) (made : State) → IsMadeOf (λ made state. made ≡ state) format limit text made
    → IsStateText format limit text made
made_itself = search rules

-- if the value that a keeper makes is the state itself, it is the state whose text the source held
pub read_itself : (format : Format) (limit : ℕ) (initial : Option (List ℕ)) (made : State) → ReadsMade (λ made state. made ≡ state) format limit initial made
    → ReadsState format limit initial made
read_itself = search (rules, made_itself)

-- if the value that a keeper makes is a state with a raised horizon, it is the state whose text the
-- source held, after its horizon was raised
pub read_raised : (format : Format) (limit : ℕ) (initial : Option (List ℕ)) (day : ℕ) (made : State)
    → ReadsMade (λ made state. made ≡ raise_horizon day state) format limit initial made → RaisesState format limit initial day made
read_raised = search rules

-- suppose that a source held a text, and that `after` is the join with the state that has this
-- text. Then `after` is the join with the state whose text the source held
pub joined : (format : Format) (limit : ℕ) (initial : Option (List ℕ)) (text : List ℕ) (own after : State) → Held initial text
    → JoinsText format limit text own after → JoinsState format limit initial own after
joined = search rules
