-- Converts events, replies and messages from the code's types to the types of the definitions.
use Rattle.std.specs.Prelude.{ℕ, ◌<◌, ◌≤◌, List, map, Option, Some, None, Result, Ok, Err, ⊤}
use Rattle.cif_change.specs.Cause.{cause_meant}
use Rattle.cif_device.specs.Device.{Store}
use Rattle.docker_model.specs.file.FileFault as files
use Rattle.docker_model.specs.run.Run as model
use Rattle.docker_model.specs.run.Run.{take_file, send_state, deliver, reload, horizon_event, done, refused, no_office, no_message, no_memory, bad_file}
use Rattle.docker_office.specs.Faults.{IsRunRefusal}
use Rattle.docker_office.specs.declared.fault.OfficeFault.{OfficeFault}
use Rattle.docker_office.specs.declared.fault.OfficeFault.TheVariants as fault
use Rattle.docker_office.specs.declared.event.Event.{Event}
use Rattle.docker_office.specs.declared.event.Event.TheVariants as event
use Rattle.docker_office.specs.declared.reply.Reply.{Reply}
use Rattle.docker_office.specs.declared.reply.Reply.TheVariants.{Done, Refused}
use Rattle.docker_office.specs.declared.reply.RunFault.{RunFault}
use Rattle.docker_office.specs.declared.reply.RunFault.TheVariants.{NoOffice, NoMessage, Office}

-- converts the code's `Event` to the `RunEvent` of the definitions
abbrev pub event_meant : Event → model.RunEvent
event_meant (event.Take office text limit) = take_file office text.now limit
event_meant (event.Send office) = send_state office
event_meant (event.Deliver office message) = deliver office message
event_meant (event.Reload office message) = reload office message
event_meant (event.Horizon office day) = horizon_event office day

-- converts a list of the code's `Event` to a list of the definitions' `RunEvent`
abbrev pub events_meant : List Event → List model.RunEvent
events_meant = map event_meant

-- converts a file's fault to the `Refusal` of the definitions. `number` is the number of the record
-- at fault. The cause `None` means that memory ran out
abbrev pub refusal_of_file : ℕ → Option files.FileCause → model.Refusal
refusal_of_file number None = no_memory
refusal_of_file number (Some cause) = bad_file (record { number = number; cause = cause })

-- converts the fault of an office in a run to the `Refusal` of the definitions. In a run, the fault
-- is a file's fault or `Memory`
abbrev pub refusal_meant : OfficeFault → model.Refusal
refusal_meant (fault.File why) = refusal_of_file why.number (cause_meant why.cause)
refusal_meant _ = no_memory

-- converts the code's `Reply` to the `Reply` of the definitions
abbrev pub reply_meant : Reply → model.Reply
reply_meant Done = done
reply_meant (Refused NoOffice) = refused no_office
reply_meant (Refused NoMessage) = refused no_message
reply_meant (Refused (Office why)) = refused (refusal_meant why)

-- says that a reply can occur in a run
abbrev pub IsRunReply : Reply → Type 0
IsRunReply Done = ⊤
IsRunReply (Refused NoOffice) = ⊤
IsRunReply (Refused NoMessage) = ⊤
IsRunReply (Refused (Office why)) = IsRunRefusal why

-- the reply that an event gets if the call to its office has this result
abbrev pub reply_for : Result Unit OfficeFault → Reply
reply_for (Ok unit) = Done
reply_for (Err why) = Refused (Office why)

-- says that the fault is correct for an office and a message, if there are `offices` offices and
-- `messages` messages. `NoOffice` is correct if the office doesn't exist. `NoMessage` is correct if
-- the office exists and the message doesn't
abbrev pub IsMissing : (offices messages office message : ℕ) → RunFault → Type 0
IsMissing offices messages office message NoOffice = offices ≤ office
IsMissing offices messages office message NoMessage = (office < offices) × (messages ≤ message)
IsMissing offices messages office message (Office why) = ⊥

-- the texts of these messages
abbrev pub texts_of : List Store → List (List ℕ)
texts_of = map (λ (kept : Store). kept.taken)
