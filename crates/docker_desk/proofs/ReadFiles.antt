-- The ways in which a desk's `take`, `merge` and `renew`, and its first reading of a state, can
-- end. Each ending follows from how the office's reading ended.
use Rattle.cif_laws.proofs.Common.{◌≡◌, ℕ, Some, Ok, Err, IsErr, rules, Result, ⊤, Option, IfSome, option_map, most_records, State, dks_2, state_text}
use Rattle.std.specs.Prelude.{Vec}
use Rattle.docker_cmd.specs.Prepared.{ReadsFewOfState, most_bytes}
use Rattle.cif_device.specs.Device.{Held}
use Rattle.docker_host.specs.History.{Bytes, Text}
use Rattle.docker_bytes.specs.ReadEnds.{IsOutcome, IsWhyUnread}
use Rattle.docker_bytes.specs.SourceRead.{JoinsState, ReadsState, WantsMemory}
use Rattle.docker_office.specs.Office.{TakesFile}
use Rattle.docker_office.specs.declared.fault.OfficeFault.{OfficeFault}
use Rattle.docker_office.specs.OfficeReads.{IsTakingOutcome, why_unread}
use Rattle.docker_desk.specs.Copying.{ComparesCopy}
use Rattle.docker_desk.specs.Desk.{EndsComparing, EndsReceiving, EndsReloading, EndsTaking, IsFound, RefusesToReceive}
use Rattle.docker_desk.specs.Reading.{StopsInState, reading}
use Rattle.docker_desk.specs.declared.compared.Compared.{Compared}

-- ---- taking a file

-- if an office took or refused a file, the desk's `take` ends as the office's call ended
pub takes : (left left_now : Bytes) (old new : State) (result : Result ⊤ OfficeFault)
    → IsTakingOutcome most_records (λ _. TakesFile most_records left old new) left left_now result → (IsErr result → new ≡ old)
    → EndsTaking old new result (Some (reading left left_now))
takes = search rules

-- ---- receiving or reloading a state

-- if an office refused to receive a state, the desk refuses for the same fault
pub refuses_to_receive : (left left_now : Bytes) (fault : OfficeFault)
    → IsWhyUnread WantsMemory dks_2 most_bytes left left_now (why_unread fault) → RefusesToReceive (reading left left_now) fault
refuses_to_receive = search rules

-- if an office received or refused a state, the desk's call to receive this state ends as the
-- office's call ended
pub receives : (left left_now : Bytes) (old new : State) (result : Result ⊤ OfficeFault)
    → IsOutcome WantsMemory why_unread dks_2 most_bytes (λ _. JoinsState dks_2 most_bytes left old new) left left_now result
    → (IsErr result → new ≡ old) → EndsReceiving old new result (Some (reading left left_now))
receives = search (rules, refuses_to_receive)

-- if an office reloaded or refused a state, the desk's call to reload this state ends as the
-- office's call ended
pub reloads : (left left_now : Bytes) (new : State) (result : Result ⊤ OfficeFault)
    → IsOutcome WantsMemory why_unread dks_2 most_bytes (λ _. ReadsState dks_2 most_bytes left new) left left_now result
    → EndsReloading new result (Some (reading left left_now))
reloads = search (rules, refuses_to_receive)

-- ---- comparing a file with a state

-- comparing the copy of a source's bytes with a state's text has the same result as comparing the
-- bytes that the source held with this text
found_held : (bytes : Bytes) (copy : Option Text) (found : Compared) (state : State) (left : Bytes) → IfSome copy (Held bytes)
    → ComparesCopy found copy (state_text dks_2 state) → IsFound found state (reading bytes left)
found_held = search rules

-- a source keeps a copy of the bytes of a file. If this source was read no further than the result
-- needs, the file was read no further either
pub stops_as : (held left seen seen_left : Bytes) → ReadsFewOfState dks_2 seen seen_left → seen ≡ held → left ≡ seen_left
    → StopsInState (reading held left)
stops_as = search rules

-- a source keeps a copy of the bytes of a file. If reading this source ended with a fault, the
-- comparison ended with this fault
pub refuses_as : (held left seen seen_left : Bytes) (old new : State) (fault : OfficeFault)
    → IsWhyUnread WantsMemory dks_2 most_bytes seen seen_left (why_unread fault) → new ≡ old → seen ≡ held → left ≡ seen_left
    → EndsComparing old new (Err fault) (Some (reading held left))
refuses_as = search (rules, refuses_to_receive)

-- a copy is a vector of bytes. If the items of the vector are the text, the copy as a list is the
-- text too
copied : {Z : Type 0} (bytes : Bytes) (copy : Option (Vec ℕ Z)) → IfSome copy (λ it. Held bytes it.items)
    → IfSome (option_map (λ (it : Vec ℕ Z). it.items) copy) (Held bytes)
copied = search rules

-- if a state was received, and the copy of the file's text was compared with the text of the new
-- state, the call succeeded as its contract says (`EndsComparing`)
pub compares : {Z : Type 0} (held bytes left : Bytes) (copy : Option (Vec ℕ Z)) (old new : State) (found : Compared) → held ≡ bytes
    → IfSome copy (λ it. Held bytes it.items) → ComparesCopy found (option_map (λ (it : Vec ℕ Z). it.items) copy) (state_text dks_2 new)
    → JoinsState dks_2 most_bytes held old new → EndsComparing old new (Ok found) (Some (reading held left))
compares = search (rules, copied, found_held)
