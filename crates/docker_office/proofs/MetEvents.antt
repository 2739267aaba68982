-- The definitions allow each reply that is made from the result of a call to an office.
use Rattle.std.proofs.Common.{◌≡◌, ℕ, ◌^◌, ◌<◌, ◌≤◌, List, [], ◌∷◌, ◌++◌, length, set, get_or, refl, sym, ◌∙◌, rules, ap, arith, Option, Some, None, Result, Ok}
use Rattle.std.proofs.Common.{Err, IsOk, IsErr, IfErr}
use Rattle.std.proofs.lemmas.Grind.{common_steps}
use Rattle.std.proofs.lemmas.List.{length-map, set-get_or, map-append}
use Rattle.cif_device.specs.Device.{Store}
use Rattle.cif_file.specs.declared.fault.FileFault.{FileFault}
use Rattle.cif_file.specs.SourceRead.{RefusesText}
use Rattle.docker_bytes.specs.declared.fault.StateFault.{StateFault}
use Rattle.docker_bytes.specs.SourceRead.{IsCauseOf, JoinsState, ReadsState, RefusesState}
use Rattle.docker_model.specs.records.Date.{last_day}
use Rattle.docker_model.specs.file.Text.{lines_of}
use Rattle.docker_model.specs.file.FileFault.{IsFileText}
use Rattle.docker_model.specs.state.State.{State, raise_horizon}
use Rattle.docker_model.specs.state.StateFault as states
use Rattle.docker_model.specs.state.StateFault.{IsStateText}
use Rattle.docker_model.specs.state.StateText.{dks_2, state_text}
use Rattle.docker_model.specs.run.Run as model
use Rattle.docker_model.specs.run.Run.{take_file, send_state, deliver, reload, horizon_event, refused, no_office, no_message, KnownSets}
use Rattle.docker_model.specs.run.Run.{IsOffice, IsMessage, IsOfficeReply, IsMessageReply, IsDoneOrNoMemory}
use Rattle.docker_model.specs.run.Knowledge.{message_text}
use Rattle.docker_laws.specs.RunInvariant.{Holds}
use Rattle.docker_laws.proofs.runs.RunSteps.{sizes, message_reads, after_take, after_send, after_delivery, after_reload, after_horizon}
use Rattle.state_laws.proofs.texts.OneStateFault.{no_fault_of_state}
use Rattle.state_text.specs.FaultMeaning.{cause_meant as state_cause_meant}
use Rattle.docker_office.specs.declared.fault.OfficeFault.{OfficeFault}
use Rattle.docker_office.specs.declared.fault.OfficeFault.TheVariants as why
use Rattle.docker_office.specs.Faults.{IsOfFile, IsOfState}
use Rattle.docker_office.specs.Office.{TakesFile, no_state}
use Rattle.docker_office.specs.declared.reply.Reply.{Reply}
use Rattle.docker_office.specs.declared.reply.Reply.TheVariants.{Done, Refused}
use Rattle.docker_office.specs.declared.reply.RunFault.{RunFault}
use Rattle.docker_office.specs.declared.reply.RunFault.TheVariants.{NoOffice, Office}
use Rattle.docker_office.specs.declared.steps.Holdings.{Holdings}
use Rattle.docker_office.specs.RunMeaning.{IsMissing, reply_for, texts_of}
use Rattle.docker_office.specs.RunSteps.{AreOf, MeetsEvent}

module _ (known : KnownSets) (held : Holdings) (holds : AreOf known held) where
  -- ---- offices and messages

  is_office : (office : ℕ) → office < length held.offices.items → IsOffice known office
  is_office office there = let many = (sizes dks_2 known held.offices.items (texts_of held.messages.items) holds).0 in omega arith

  no_office_there : (office : ℕ) (There : Type 0) → length held.offices.items ≤ office → IsOfficeReply known office (refused no_office) There
  no_office_there = grind (common_steps, arith, sizes)

  office_there : (office : ℕ) (reply : model.Reply) (There : Type 0) → office < length held.offices.items → There → IsOfficeReply known office reply There
  office_there office reply There there is = record { absent = λ never. absurd (never (is_office office there)); there = λ _. is }

  many_messages : length held.messages.items ≡ length known.messages
  many_messages = sym (length-map held.messages.items (λ (kept : Store). kept.taken)) ∙ (sizes _ _ _ _ holds).1

  is_message : (message : ℕ) → message < length held.messages.items → IsMessage known message
  is_message message sent = let many = many_messages in omega arith

  no_message_sent : (message : ℕ) → length held.messages.items ≤ message → IsMessageReply known message (refused no_message)
  no_message_sent = grind (common_steps, arith, many_messages)

  message_sent : (message : ℕ) (reply : model.Reply) → message < length held.messages.items → IsDoneOrNoMemory reply → IsMessageReply known message reply
  message_sent message reply sent is = record { absent = λ never. absurd (never (is_message message sent)); there = λ _. is }

  -- ---- the office or the message doesn't exist

  -- if the office doesn't exist, `NoOffice` is an allowed reply to a `Take`
  pub take_without_office : (office : ℕ) (text : List ℕ) (limit : ℕ) → length held.offices.items ≤ office
      → MeetsEvent known (take_file office text limit) (Refused NoOffice) held
  take_without_office = search (rules, no_office_there)

  -- if the office doesn't exist, `NoOffice` is an allowed reply to a `Send`
  pub send_without_office : (office : ℕ) → length held.offices.items ≤ office → MeetsEvent known (send_state office) (Refused NoOffice) held
  send_without_office = search (rules, no_office_there)

  -- if the office doesn't exist, `NoOffice` is an allowed reply to a `Horizon`
  pub horizon_without_office : (office day : ℕ) → length held.offices.items ≤ office → MeetsEvent known (horizon_event office day) (Refused NoOffice) held
  horizon_without_office = search (rules, no_office_there)

  -- if the office or the message doesn't exist, `NoOffice` or `NoMessage` is an allowed reply to a
  -- `Deliver`
  pub delivery_missing : (office message : ℕ) (fault : RunFault)
      → IsMissing (length held.offices.items) (length held.messages.items) office message fault
      → MeetsEvent known (deliver office message) (Refused fault) held
  delivery_missing = search (rules, no_office_there, office_there, no_message_sent)

  -- if the office or the message doesn't exist, `NoOffice` or `NoMessage` is an allowed reply to a
  -- `Reload`
  pub reload_missing : (office message : ℕ) (fault : RunFault)
      → IsMissing (length held.offices.items) (length held.messages.items) office message fault
      → MeetsEvent known (reload office message) (Refused fault) held
  reload_missing = search (rules, no_office_there, office_there, no_message_sent)

  -- ---- the states and messages after an event

  -- says that only the state of this office has changed, and that no message has changed
  pub record IsReplaced (office : ℕ) (now : State) (after : Holdings) : Type 0 where
    pub offices : after.offices.items ≡ set held.offices.items office now
    pub messages : after.messages.items ≡ held.messages.items

  replaced : (sets : KnownSets) (office : ℕ) (now : State) (after : Holdings) → IsReplaced office now after
      → Holds dks_2 sets (set held.offices.items office now) (texts_of held.messages.items) → AreOf sets after
  replaced = search rules

  -- if the office's new state equals its old state, each office's state is still the summary of
  -- what the office knew before. Each message is still the text of the summary of what its sender
  -- knew
  unchanged : (office : ℕ) (now : State) (after : Holdings) → IsReplaced office now after → now ≡ get_or held.offices.items office no_state
      → AreOf known after
  unchanged = search (rules, replaced, set-get_or)

  -- ---- a file is taken

  module _ (office : ℕ) (text : List ℕ) (limit : ℕ) (there : office < length held.offices.items) (now : State) (after : Holdings)
      (is : IsReplaced office now after) where
    took : limit ≤ 4_294_967_294 → TakesFile limit (Some text) (get_or held.offices.items office no_state) now
        → MeetsEvent known (take_file office text limit) Done after
    took low takes =
        let same : takes.file ≡ lines_of text = sym takes.is_text.lines ∙ ap lines_of (sym takes.held) in
        let file : IsFileText limit text (lines_of text) = rw (← same) (search rules) in
        record {
          told = tt;
          may = office_there _ _ _ there file;
          holds = replaced _ _ _ _ is (after_take _ _ _ _ holds _ _ _ _ _ (is_office _ there) low file (rw (← same) takes.of_file) takes.joined);
        }

    file_refused : (fault : FileFault) → now ≡ get_or held.offices.items office no_state → RefusesText limit (Some text) fault
        → MeetsEvent known (take_file office text limit) (Refused (Office (why.File fault))) after
    file_refused fault same refuses = record {
      told = rw refuses.is.cause_is tt;
      may = rw refuses.is.cause_is (office_there _ _ _ there (rw refuses.held refuses.is.is));
      holds = unchanged _ _ _ is same;
    }

    -- whatever result the office returns for a `Take`, the definitions allow the reply that is made
    -- from this result
    pub take_met : (answer : Result Unit OfficeFault) (reply : Reply) → reply ≡ reply_for answer → limit ≤ 4_294_967_294
        → (IsOk answer → TakesFile limit (Some text) (get_or held.offices.items office no_state) now)
        → (IsErr answer → now ≡ get_or held.offices.items office no_state)
        → ((fault : FileFault) → answer ≡ Err (why.File fault) → RefusesText limit (Some text) fault) → ¬ (answer ≡ Err why.Source) → IfErr answer IsOfFile
        → MeetsEvent known (take_file office text limit) reply after
    take_met (Ok unit) reply same low ok stays file source only = rw same (took low (ok refl))
    take_met (Err (why.File fault)) reply same low ok stays file source only = rw same (file_refused fault (stays refl) (file fault refl))
    take_met (Err why.Memory) reply same low ok stays file source only = rw same (search (rules, office_there, unchanged))
    take_met (Err why.Source) reply same low ok stays file source only = absurd (source refl)
    take_met (Err other) reply same low ok stays file source only = absurd only

  -- ---- a state is sent

  -- a `Send` is carried out correctly if the text of the office's state is appended to the messages
  pub send_met : (office : ℕ) (message : Store) (after : Holdings) → office < length held.offices.items → after.offices.items ≡ held.offices.items
      → after.messages.items ≡ held.messages.items ++ message ∷ [] → message.taken ≡ state_text dks_2 (get_or held.offices.items office no_state)
      → MeetsEvent known (send_state office) Done after
  send_met office message after there same more is = record {
    told = tt;
    may = office_there _ _ _ there tt;
    holds = rw (same, more, map-append (λ (kept : Store). kept.taken), is) (after_send _ _ _ _ holds _ (is_office _ there));
  }

  -- if memory runs out for a `Send` and no message is appended, the definitions allow a reply that
  -- reports the lack of memory
  pub send_without_memory : (office : ℕ) → office < length held.offices.items → MeetsEvent known (send_state office) (Refused (Office why.Memory)) held
  send_without_memory = search (rules, office_there)

  -- ---- a horizon is set

  pub horizon_met : (office day : ℕ) (now : State) (after : Holdings) → office < length held.offices.items → day ≤ last_day → IsReplaced office now after
      → now ≡ raise_horizon day (get_or held.offices.items office no_state) → MeetsEvent known (horizon_event office day) Done after
  horizon_met office day now after there low is raised = record {
    told = tt;
    may = office_there _ _ _ there refl;
    holds = replaced _ _ _ _ is (rw raised (after_horizon _ _ _ _ holds _ _ (is_office _ there) low));
  }

  -- ---- a message is read

  module _ (office message : ℕ) (text : List ℕ) (there : office < length held.offices.items) (sent : message < length held.messages.items)
      (text_is : text ≡ message_text (texts_of held.messages.items) message) (short : length text < 2 ^ 64) where
    -- a message is the text of a state, so reading the message can't end with a fault of its text
    no_fault : (fault : StateFault) → RefusesState dks_2 (length text) (Some text) fault → ⊥
    no_fault fault refuses = by (state_cause_meant fault.cause) refuses.is
      where
        reads : (state : State) × IsStateText dks_2 (length text) text state
        reads = rw text_is (let read = message_reads _ _ _ _ holds _ (is_message _ sent) (rw (← text_is) short) in (read.0, read.2))

        by : (cause : Option states.StateCause) → IsCauseOf dks_2 (length text) refuses.text fault.at cause → ⊥
        by None is = is
        by (Some cause) is = no_fault_of_state dks_2 (length text) text reads.0 (record { at = fault.at; cause = cause }) reads.1
            (rw (← refuses.held) at is)

    -- the message is the text of the state that was read from the message
    read_of : (state : State) → (read : ReadsState dks_2 (length text) (Some text) state)
        → IsStateText dks_2 (length text) (message_text (texts_of held.messages.items) message) state
    read_of = search rules

    module _ (now : State) (after : Holdings) (is : IsReplaced office now after) where
      delivered : JoinsState dks_2 (length text) (Some text) (get_or held.offices.items office no_state) now
          → MeetsEvent known (deliver office message) Done after
      delivered joins = record {
        told = tt;
        may = office_there _ _ _ there (message_sent _ _ sent tt);
        holds = replaced _ _ _ _ is (after_delivery _ _ _ _ holds _ _ _ _ _
            (is_office _ there) (is_message _ sent) (rw (← text_is) short) (read_of _ joins.read) joins.join);
      }

      reloaded : ReadsState dks_2 (length text) (Some text) now → MeetsEvent known (reload office message) Done after
      reloaded reads = record {
        told = tt;
        may = office_there _ _ _ there (message_sent _ _ sent tt);
        holds = replaced _ _ _ _ is (after_reload _ _ _ _ holds _ _ _ _ (is_office _ there) (is_message _ sent) (rw (← text_is) short) (read_of _ reads));
      }

      no_memory_there : IsOfficeReply known office (refused model.no_memory) (IsMessageReply known message (refused model.no_memory))
      no_memory_there = search (rules, office_there, message_sent)

      -- whatever result the office returns for a `Deliver`, the definitions allow the reply that is
      -- made from this result
      pub delivery_met : (answer : Result Unit OfficeFault) (reply : Reply) → reply ≡ reply_for answer
          → (IsOk answer → JoinsState dks_2 (length text) (Some text) (get_or held.offices.items office no_state) now)
          → (IsErr answer → now ≡ get_or held.offices.items office no_state)
          → ((fault : StateFault) → answer ≡ Err (why.State fault) → RefusesState dks_2 (length text) (Some text) fault) → ¬ (answer ≡ Err why.Source)
          → IfErr answer IsOfState → MeetsEvent known (deliver office message) reply after
      delivery_met (Ok unit) reply same ok stays state source only = rw same (delivered (ok refl))
      delivery_met (Err why.Memory) reply same ok stays state source only = rw same (search (rules, no_memory_there, unchanged))
      delivery_met (Err (why.State fault)) reply same ok stays state source only = absurd (no_fault fault (state fault refl))
      delivery_met (Err why.Source) reply same ok stays state source only = absurd (source refl)
      delivery_met (Err other) reply same ok stays state source only = absurd only

      -- whatever result the office returns for a `Reload`, the definitions allow the reply that is
      -- made from this result
      pub reload_met : (answer : Result Unit OfficeFault) (reply : Reply) → reply ≡ reply_for answer
          → (IsOk answer → ReadsState dks_2 (length text) (Some text) now) → (IsErr answer → now ≡ get_or held.offices.items office no_state)
          → ((fault : StateFault) → answer ≡ Err (why.State fault) → RefusesState dks_2 (length text) (Some text) fault) → ¬ (answer ≡ Err why.Source)
          → IfErr answer IsOfState → MeetsEvent known (reload office message) reply after
      reload_met (Ok unit) reply same ok stays state source only = rw same (reloaded (ok refl))
      reload_met (Err why.Memory) reply same ok stays state source only = rw same (search (rules, no_memory_there, unchanged))
      reload_met (Err (why.State fault)) reply same ok stays state source only = absurd (no_fault fault (state fault refl))
      reload_met (Err why.Source) reply same ok stays state source only = absurd (source refl)
      reload_met (Err other) reply same ok stays state source only = absurd only
