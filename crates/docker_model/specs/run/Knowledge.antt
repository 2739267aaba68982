-- What the offices in a run know, and what their messages bring. The definitions say when two
-- offices have the same knowledge, and which knowledge and which events may be part of a run. They
-- also say what each office and each message has at the end of a run.
use Rattle.std.specs.Prelude.{◌≡◌, ℕ, ◌≤◌, ◌↔◌, List, All, Contains, slice_index_or, [], length, filter, Bool, true, false, ⊤}
use Rattle.std.specs.List.{zip}
use Rattle.docker_model.specs.file.File.{IsFile, most_records}
use Rattle.docker_model.specs.state.State.{State}
use Rattle.docker_model.specs.state.StateText.{Format, IsHorizonOf}
use Rattle.docker_model.specs.run.Run.{Files, Known, KnownSets, Exchange, known_sets, RunEvent}
use Rattle.docker_model.specs.run.Run.{take_file, send_state, deliver, reload, horizon_event, Reply, done, refused}

-- the two lists contain the same files. The order of the files doesn't matter, nor how often a file
-- occurs
abbrev pub HaveSameFiles : Files → Files → Type 0
HaveSameFiles first second = (file : List (List ℕ)) → Contains first file ↔ Contains second file

-- two offices or messages have the same knowledge: the same files and the same horizon
abbrev pub AreOneKnowledge : Known → Known → Type 0
AreOneKnowledge first second = HaveSameFiles first.files second.files × (first.horizon ≡ second.horizon)

-- each file in the list is a CIF file of at most 4,294,967,294 records
abbrev pub AreFiles : Files → Type 0
AreFiles files = All IsFile files × All (λ file. length file ≤ most_records) files

-- this knowledge may arise in a run: its files are CIF files, and the format allows its horizon
abbrev pub IsGoodKnown : Format → Known → Type 0
IsGoodKnown format known = AreFiles known.files × IsHorizonOf format known.horizon

-- this event may be part of a run. If an office takes a file, the limit is at most 4,294,967,294
-- records. If an office sets a horizon, the format allows that horizon
abbrev pub IsGoodEvent : Format → RunEvent → Type 0
IsGoodEvent format (take_file office text limit) = limit ≤ most_records
IsGoodEvent format (horizon_event office day) = IsHorizonOf format day
IsGoodEvent format _ = ⊤

-- the state of the office with this number, counted from 0, or an empty state if there is no such
-- office
abbrev pub office_state : List State → ℕ → State
office_state states office = slice_index_or states office (record { horizon = 0; ledger = []; entries = [] })

-- the text of the message with this number, counted from 0, or an empty text if there is no such
-- message
abbrev pub message_text : List (List ℕ) → ℕ → List ℕ
message_text messages message = slice_index_or messages message []

-- the knowledge of each office, and the knowledge that each message brings, at the end of a run
abbrev pub sets_of : ℕ → List RunEvent → Exchange → KnownSets
sets_of offices events exchange = known_sets offices events exchange.replies

-- whether in this event an office sends its state as a message
abbrev pub is_sending : RunEvent → Bool
is_sending (take_file office text limit) = false
is_sending (send_state office) = true
is_sending (deliver office message) = false
is_sending (reload office message) = false
is_sending (horizon_event office day) = false

-- whether in this event an office sends its state, and the reply is `done`
abbrev pub is_sent : RunEvent × Reply → Bool
is_sent happened = elim happened.1 [ done ↦ is_sending happened.0 | refused why ↦ false ]

-- the number of messages after a run: one for each event in which an office sent its state
abbrev pub sent_count : List RunEvent → List Reply → ℕ
sent_count events replies = length (filter is_sent (zip events replies))
