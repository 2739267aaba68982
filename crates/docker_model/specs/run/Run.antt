-- Runs, which are lists of events at several offices. What an office knows is a set of files and a
-- horizon.
use Rattle.std.specs.Prelude.{◌≡◌, ℕ, ◌<◌, max, List, [], ◌∷◌, ◌++◌, length, replicate, slice_set, slice_index_or, fold, ⊤}
use Rattle.std.specs.List.{AllZip, zip}
use Rattle.docker_model.specs.file.Text.{lines_of}
use Rattle.docker_model.specs.file.FileFault.{FileFault, IsFileFault, IsFileText}
use Rattle.docker_model.specs.state.State.{State}
use Rattle.docker_model.specs.state.Summary.{IsSummary}
use Rattle.docker_model.specs.state.StateText.{Format, state_text}

-- an event of a run. An office takes a file, sends its state as a message, receives a message,
-- replaces its state by reloading a message, or sets a horizon. Offices and messages are numbered
-- from 0. A message that no event delivers is lost. A message that several events deliver is
-- repeated
pub data RunEvent : Type 0 where
  take_file : (office : ℕ) (text : List ℕ) (limit : ℕ) → RunEvent
  send_state : (office : ℕ) → RunEvent
  deliver : (office message : ℕ) → RunEvent
  reload : (office message : ℕ) → RunEvent
  horizon_event : (office day : ℕ) → RunEvent

-- the reason why an event is refused: there is no such office, there is no such message, the office
-- runs out of memory, or the file has a fault
pub data Refusal : Type 0 where
  no_office : Refusal
  no_message : Refusal
  no_memory : Refusal
  bad_file : (fault : FileFault) → Refusal

-- the reply to an event: either the event was carried out, or it was refused and had no effect
pub data Reply : Type 0 where
  done : Reply
  refused : (why : Refusal) → Reply

-- a set of files, as a list in any order
abbrev pub Files : Type 0
Files = List (List (List ℕ))

-- the knowledge of an office or of a message: a set of files, and a horizon, where 0 means none. A
-- message has the knowledge that its sender had when the message was sent
pub record Known : Type 0 where
  pub files : Files
  pub horizon : ℕ

-- the knowledge of a new office: no file, and no horizon
abbrev pub nothing : Known
nothing = record { files = []; horizon = 0 }

-- the knowledge of two offices or messages together: the files of both, and the greater of the two
-- horizons
abbrev pub united : Known → Known → Known
united first second = record { files = first.files ++ second.files; horizon = max first.horizon second.horizon }

-- the knowledge of each office, and the knowledge that each message brings
pub record KnownSets : Type 0 where
  pub offices : List Known
  pub messages : List Known

-- the knowledge of the office with this number, counted from 0, or `nothing` if there is no such
-- office
abbrev pub office_known : KnownSets → ℕ → Known
office_known known office = slice_index_or known.offices office nothing

-- the knowledge of the message with this number, counted from 0, or `nothing` if there is no such
-- message
abbrev pub message_known : KnownSets → ℕ → Known
message_known known message = slice_index_or known.messages message nothing

-- the knowledge of all offices and messages after this office's knowledge is replaced by `now`
abbrev pub with_office : KnownSets → ℕ → Known → KnownSets
with_office known office now = record { offices = slice_set known.offices office now; messages = known.messages }

-- the knowledge of all offices and messages after an event that was carried out. Taking a file adds
-- the file to the office's knowledge. Sending a state makes a message with the office's knowledge.
-- Delivering a message adds the message's knowledge to the office's knowledge. Reloading a message
-- replaces the office's knowledge with the message's knowledge. Setting a horizon raises the
-- office's horizon, unless that horizon is already greater
abbrev pub after_done : KnownSets → RunEvent → KnownSets
after_done known (take_file office text limit) =
    with_office known office (united (record { files = lines_of text ∷ []; horizon = 0 }) (office_known known office))
after_done known (send_state office) = record { offices = known.offices; messages = known.messages ++ office_known known office ∷ [] }
after_done known (deliver office message) = with_office known office (united (message_known known message) (office_known known office))
after_done known (reload office message) = with_office known office (message_known known message)
after_done known (horizon_event office day) = with_office known office (united (record { files = []; horizon = day }) (office_known known office))

-- the knowledge of all offices and messages after an event and its reply. A refused event changes
-- nothing
abbrev pub after_reply : KnownSets → RunEvent × Reply → KnownSets
after_reply known happened = elim happened.1 [ done ↦ after_done known happened.0 | refused why ↦ known ]

-- the knowledge before the first event: each office knows nothing, and there are no messages
abbrev pub none_known : ℕ → KnownSets
none_known offices = record { offices = replicate offices nothing; messages = [] }

-- the knowledge of all offices and messages after a run with these events and replies
abbrev pub known_sets : ℕ → List RunEvent → List Reply → KnownSets
known_sets offices events replies = fold after_reply (none_known offices) (zip events replies)

-- there is an office with this number
abbrev pub IsOffice : KnownSets → ℕ → Type 0
IsOffice known office = office < length known.offices

-- there is a message with this number
abbrev pub IsMessage : KnownSets → ℕ → Type 0
IsMessage known message = message < length known.messages

-- this reply is allowed when an office takes a file. The reply is `done` if the text is a file, and
-- gives the text's fault if the text isn't a file. In either case the reply may instead be `refused
-- no_memory`
abbrev pub IsFileReply : ℕ → List ℕ → Reply → Type 0
IsFileReply limit text done = IsFileText limit text (lines_of text)
IsFileReply limit text (refused (bad_file fault)) = IsFileFault limit text fault
IsFileReply limit text (refused no_memory) = ⊤
IsFileReply limit text (refused _) = ⊥

-- the reply is `done` or `refused no_memory`
abbrev pub IsDoneOrNoMemory : Reply → Type 0
IsDoneOrNoMemory done = ⊤
IsDoneOrNoMemory (refused no_memory) = ⊤
IsDoneOrNoMemory (refused _) = ⊥

-- this reply is allowed for an event at the office with this number. If there is no such office,
-- the reply is `refused no_office`. If the office exists, the reply meets the condition `There`
pub record IsOfficeReply (known : KnownSets) (office : ℕ) (reply : Reply) (There : Type 0) : Type 0 where
  pub absent : ¬ IsOffice known office → reply ≡ refused no_office
  pub there : IsOffice known office → There

-- this reply is allowed for an event that delivers or reloads the message with this number. If
-- there is no such message, the reply is `refused no_message`. If the message exists, the reply is
-- `done` or `refused no_memory`
pub record IsMessageReply (known : KnownSets) (message : ℕ) (reply : Reply) : Type 0 where
  pub absent : ¬ IsMessage known message → reply ≡ refused no_message
  pub there : IsMessage known message → IsDoneOrNoMemory reply

-- this reply is allowed for the event, given the knowledge before the event. Setting a horizon at
-- an office that exists never fails
abbrev pub IsReply : KnownSets → RunEvent → Reply → Type 0
IsReply known (take_file office text limit) reply = IsOfficeReply known office reply (IsFileReply limit text reply)
IsReply known (send_state office) reply = IsOfficeReply known office reply (IsDoneOrNoMemory reply)
IsReply known (deliver office message) reply = IsOfficeReply known office reply (IsMessageReply known message reply)
IsReply known (reload office message) reply = IsOfficeReply known office reply (IsMessageReply known message reply)
IsReply known (horizon_event office day) reply = IsOfficeReply known office reply (reply ≡ done)

-- there is one reply for each event, and each reply is allowed for its event, given the knowledge
-- before that event
abbrev pub AreReplies : KnownSets → List RunEvent → List Reply → Type 0
AreReplies known [] [] = ⊤
AreReplies known [] (reply ∷ replies) = ⊥
AreReplies known (event ∷ events) [] = ⊥
AreReplies known (event ∷ events) (reply ∷ replies) = IsReply known event reply × AreReplies (after_reply known (event, reply)) events replies

-- the state is the summary of the known files with the known horizon
abbrev pub IsStateOf : Known → State → Type 0
IsStateOf known state = IsSummary known.files known.horizon state

-- these bytes are a message with this knowledge: the text, in this format, of the summary of the
-- known files
abbrev pub IsMessageOf : Format → Known → List ℕ → Type 0
IsMessageOf format known text = (state : State) × IsStateOf known state × (text ≡ state_text format state)

-- the result of a run: the state of each office, the text of each message, and the reply to each
-- event
pub record Exchange : Type 0 where
  pub states : List State
  pub messages : List (List ℕ)
  pub replies : List Reply

-- this exchange is a possible result of these events at this many offices. Each reply is allowed
-- for its event. Each state is the summary of what its office knows at the end. Each message is the
-- text, in this format, of the summary of what its sender knew
pub record IsRun (format : Format) (offices : ℕ) (events : List RunEvent) (exchange : Exchange) : Type 0 where
  pub replies : AreReplies (none_known offices) events exchange.replies
  pub states : AllZip IsStateOf (known_sets offices events exchange.replies).offices exchange.states
  pub messages : AllZip (IsMessageOf format) (known_sets offices events exchange.replies).messages exchange.messages
