-- `Holds` is true at the start of a run and after each event. `Holds` says that the states and
-- messages match the knowledge. Each state is the summary of the files that its office knows. Each
-- message is the text of the summary of the files that its sender knew.
use Rattle.cif_laws.proofs.Common.{◌≡◌, ℕ, ◌^◌, ◌<◌, ◌≤◌, List, [], ◌∷◌, ◌++◌, length, refl, sym, ◌∙◌, subst, arith, All, set, rules, common_steps, max_comm}
use Rattle.cif_laws.proofs.Common.{All-set, All-push, All-get_or, most_records, lines_of, IsFileText, State, IsJoin, raise_horizon, IsSummary, Format}
use Rattle.cif_laws.proofs.Common.{state_text, IsHorizonOf, IsToldState, IsStateText, take_file, send_state, deliver, reload, horizon_event, done, Known}
use Rattle.cif_laws.proofs.Common.{KnownSets, IsOffice, IsStateOf, nothing, united, office_known, message_known, after_reply, none_known, IsGoodKnown}
use Rattle.docker_model.specs.run.Run.{IsMessage, IsMessageOf}
use Rattle.docker_model.specs.run.Knowledge.{office_state, message_text}
use Rattle.docker_laws.specs.RunInvariant.{Holds}
use Rattle.state_laws.proofs.joins.JoinLaws.{join_commutes}
use Rattle.docker_laws.proofs.runs.GoodKnowledge.{nothing_good, united_good, file_good, horizon_good}
use Rattle.docker_laws.proofs.runs.MessageTexts.{counts_fit, summary_told}
use Rattle.state_laws.proofs.texts.TextsApart.{one_text}
use Rattle.state_laws.proofs.states.SummaryLaws.{join_is_summary, raised_summary}
use Rattle.cif_laws.proofs.lists.ZipSteps.{zip_set, zip_end, zip_at, zip_long, zip_replicate}

module _ (format : Format) (known : KnownSets) (states : List State) (messages : List (List ℕ)) (holds : Holds format known states messages) where
  -- ---- each state and each message matches the knowledge

  -- the state of an office is the summary of the files that the office knows
  pub office_is : (office : ℕ) → IsOffice known office → IsStateOf (office_known known office) (office_state states office)
  office_is office there = zip_at IsStateOf known.offices states office nothing (record { horizon = 0; ledger = []; entries = [] }) holds.states_are there

  -- the bytes of a message are the text of the summary of the files that the message's sender knew
  pub message_is : (message : ℕ) → IsMessage known message → IsMessageOf format (message_known known message) (message_text messages message)
  message_is message there = zip_at (IsMessageOf format) known.messages messages message nothing [] holds.messages_are there

  -- the knowledge of an office is good: its files are CIF files, and the format allows its horizon
  pub office_good : (office : ℕ) → IsOffice known office → IsGoodKnown format (office_known known office)
  office_good office there = All-get_or (IsGoodKnown format) known.offices office nothing there holds.offices

  -- the knowledge that a message carries is good: its files are CIF files, and the format allows
  -- its horizon
  pub message_good : (message : ℕ) → IsMessage known message → IsGoodKnown format (message_known known message)
  message_good message there = All-get_or (IsGoodKnown format) known.messages message nothing there holds.sent

  -- the number of states equals the number of offices, and the number of texts equals the number of
  -- messages
  pub sizes : (length states ≡ length known.offices) × (length messages ≡ length known.messages)
  sizes = (sym (zip_long IsStateOf known.offices states holds.states_are), sym (zip_long (IsMessageOf format) known.messages messages holds.messages_are))

  -- an office's state is valid, and the format can hold it
  pub office_told : (office : ℕ) → IsOffice known office → IsToldState format (office_state states office)
  office_told office there = summary_told format (office_known known office) (office_state states office) (office_good office there) (office_is office there)

  -- a message can be read with a limit equal to its length: the message is the text of the summary
  -- of the files that its sender knew
  pub message_reads : (message : ℕ) → IsMessage known message → length (message_text messages message) < 2 ^ 64
      → (state : State) × IsStateOf (message_known known message) state × IsStateText format (length (message_text messages message))
      (message_text messages message) state
  message_reads message there short =
      let made = message_is _ there in
      let counts = counts_fit _ _ (subst (λ text. length text < 2 ^ 64) made.2 short) in search (rules, summary_told, message_good)

  -- the state that is read from a message is the summary of the files that the message's sender
  -- knew
  pub what_is_read : (message : ℕ) → IsMessage known message → length (message_text messages message) < 2 ^ 64 → (limit : ℕ) (state : State)
      → IsStateText format limit (message_text messages message) state → IsStateOf (message_known known message) state
  what_is_read message there short limit state is =
      let made = message_reads message there short in
      subst (IsStateOf (message_known known message)) (one_text format made.0 state made.2.valid is.valid (sym made.2.is ∙ is.is)) made.1

  -- ---- after each event, states and messages still match the knowledge

  -- suppose that an office's knowledge is replaced, and that the office's state is replaced by the
  -- state of the new knowledge. Then states and messages still match the knowledge (`Holds`)
  with_office_holds : (office : ℕ) (now : Known) (state : State) → IsGoodKnown format now → IsStateOf now state
      → Holds format (record { offices = set known.offices office now; messages = known.messages }) (set states office state) messages
  with_office_holds office now state good is = record {
    offices = All-set (IsGoodKnown format) known.offices office now good holds.offices;
    sent = holds.sent;
    states_are = zip_set IsStateOf known.offices states office now state holds.states_are is;
    messages_are = holds.messages_are;
  }

  -- suppose that more knowledge is added to an office's knowledge, and that the office's state is
  -- joined with the state of the added knowledge. Then states and messages still match the
  -- knowledge (`Holds`)
  joined_in : (office : ℕ) (more : Known) (one joined : State) → IsOffice known office → IsGoodKnown format more → IsStateOf more one
      → IsJoin (office_state states office) one joined
      → Holds format (record { offices = set known.offices office (united more (office_known known office)); messages = known.messages })
      (set states office joined) messages
  joined_in office more one joined there good summary join = with_office_holds _ _ _ (united_good _ _ _ good (office_good _ there)) (join_is_summary _ _ _ _ _
      _ _ summary (office_is _ there) (join_commutes _ _ _ join))

  -- after a file is taken, states and messages still match the knowledge (`Holds`)
  pub after_take : (office : ℕ) (text : List ℕ) (limit : ℕ) (one joined : State) → IsOffice known office → limit ≤ most_records
      → IsFileText limit text (lines_of text)
      → IsSummary (lines_of text ∷ []) 0 one → IsJoin (office_state states office) one joined
      → Holds format (after_reply known (take_file office text limit, done)) (set states office joined) messages
  after_take = search (rules, joined_in, file_good)

  -- after a state is sent, states and messages still match the knowledge (`Holds`)
  pub after_send : (office : ℕ) → IsOffice known office → Holds format (after_reply known (send_state office, done)) states
      (messages ++ state_text format (office_state states office) ∷ [])
  after_send office there = record {
    offices = holds.offices;
    sent = All-push (IsGoodKnown format) known.messages (office_known known office) holds.sent (office_good _ there);
    states_are = holds.states_are;
    messages_are = zip_end _ _ _ _ _ holds.messages_are (office_state states office, office_is _ there, refl);
  }

  -- after a message is delivered, states and messages still match the knowledge (`Holds`)
  pub after_delivery : (office message : ℕ) (limit : ℕ) (received joined : State) → IsOffice known office → IsMessage known message
      → length (message_text messages message) < 2 ^ 64
      → IsStateText format limit (message_text messages message) received → IsJoin (office_state states office) received joined
      → Holds format (after_reply known (deliver office message, done)) (set states office joined) messages
  after_delivery = search (rules, joined_in, message_good, what_is_read)

  -- after a message is reloaded, states and messages still match the knowledge (`Holds`)
  pub after_reload : (office message : ℕ) (limit : ℕ) (received : State) → IsOffice known office → IsMessage known message
      → length (message_text messages message) < 2 ^ 64
      → IsStateText format limit (message_text messages message) received
      → Holds format (after_reply known (reload office message, done)) (set states office received) messages
  after_reload = search (rules, with_office_holds, message_good, what_is_read)

  -- after a horizon is set, states and messages still match the knowledge (`Holds`)
  pub after_horizon : (office day : ℕ) → IsOffice known office → IsHorizonOf format day
      → Holds format (after_reply known (horizon_event office day, done)) (set states office (raise_horizon day (office_state states office))) messages
  after_horizon office day there good =
      with_office_holds office (united (record { files = []; horizon = day }) (office_known known office)) (raise_horizon day (office_state states office))
      (united_good format (record { files = []; horizon = day }) (office_known known office) (horizon_good format day good) (office_good office there))
      (subst (λ h. IsSummary (office_known known office).files h (raise_horizon day (office_state states office)))
      (max_comm (office_known known office).horizon day)
      (raised_summary (office_known known office).files (office_known known office).horizon day (office_state states office) (office_is office there)))

-- at the start of a run, states and messages match the knowledge (`Holds`), if each office's state
-- is the state of an office that knows no files and no horizon
pub holds_at_first : (format : Format) (offices : ℕ) (states : List State) → length states ≡ offices → All (IsSummary [] 0) states
    → Holds format (none_known offices) states []
holds_at_first = grind (common_steps, arith, nothing_good, zip_replicate)
