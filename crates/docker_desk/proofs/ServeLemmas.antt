-- How a session ends.
use Rattle.cif_laws.proofs.Common.{◌≡◌, ◌+◌, ℕ, Bool, List, ◌++◌, [], length, arith, inl, inr, Ok, ap, append-nil, subst, ◌∙◌, rules}
use Rattle.cif_device.specs.Device.{Takes, TakesPart}
use Rattle.docker_host.specs.History.{Event, Text}
use Rattle.docker_host.specs.SessionHost.{SessionHostView}
use Rattle.docker_cmd.specs.FaultLine.{IsCounted, fault_line, status_of}
use Rattle.docker_office.specs.declared.fault.OfficeFault.{OfficeFault}
use Rattle.docker_cmd.specs.declared.fault.Fault.TheVariants.{Office}
use Rattle.docker_host.specs.FaultSink.{FaultsView, TellsText}
use Rattle.docker_desk.specs.Desk.{DeskView, IsWhyNot, RefusesToReceive}
use Rattle.docker_desk.specs.Reading.{LooksAndOpens}
use Rattle.docker_desk.specs.SessionViews.{session_view}
use Rattle.docker_desk.specs.Serving.{BeginsAt, EndsOpening, IsServed, NamesSession, ServesSession}
use Rattle.docker_desk.proofs.WritingLemmas.{both_taken, part_of_back, part_of_front}

-- if a text was written and then a second text, their concatenation was written
pub tells_both : (first second piece behind : List ℕ) (old middle new : FaultsView) → piece ≡ first → behind ≡ second → middle.failures ≡ old.failures
    → Takes old.taken piece middle.taken → TellsText behind middle new → TellsText (first ++ second) old new
tells_both first second piece behind old middle new one two sound whole tells =
    let taken : Takes old.taken first middle.taken = subst (λ text. Takes old.taken text middle.taken) one whole in
    elim (subst (λ text. TellsText text middle new) two tells) [
      | inl next ↦ inl (next.0 ∙ sound, both_taken old.taken middle.taken new.taken first second taken next.1)
      | inr part ↦ inr (part.0 ∙ ap (λ n. n + 1) sound, part_of_back old.taken middle.taken new.taken first second taken part.1)
    ]

-- if writing the first text failed partway, only a part of the concatenation was written
pub tells_first : (first second piece : List ℕ) (old new : FaultsView) → piece ≡ first → new.failures ≡ old.failures + 1 → TakesPart old.taken piece new.taken
    → TellsText (first ++ second) old new
tells_first = search (rules, part_of_front)

-- if the state's file was looked at, opened and read, the session begins with the desk whose state
-- was read
pub begins : {T : Type 0} (desk_in : T → DeskView) (name : Text) (old new : List Event) (made : T) (look failures : ℕ)
    → LooksAndOpens name (EndsOpening desk_in (Ok made)) old new → look ≡ length old
    → BeginsAt name old (session_view (desk_in made) look new failures)
begins = search rules

-- if the status is 0, the folder's failure count is unchanged
pub still : (before after : ℕ) → IsCounted 0 before after → after ≡ before
still before after counted = counted.1 (λ four. omega arith)

-- if a session was served, the contract of `serve_session` holds. The host `seen` equals the old host
pub served_as : (words : List Text) (names_bytes : Bool) (seen old new : SessionHostView) (status : ℕ) → seen ≡ old
    → IsServed words names_bytes seen new status → ServesSession words names_bytes old new status
served_as words names_bytes seen old new status is served =
    subst (λ (host : SessionHostView). ServesSession words names_bytes host new status) is (inr (inr served))

-- if the state's file was looked at, but no state could be read from it, the start was refused as the
-- contract of `serve_session` says. The host `seen` equals the old host
pub refused_as : (words : List Text) (names_bytes : Bool) (seen old new : SessionHostView) (status : ℕ) (name : Text) (may_write : Bool) (fault : OfficeFault)
    → seen ≡ old → NamesSession words name may_write
    → LooksAndOpens name (IsWhyNot RefusesToReceive fault) seen.history new.history
    → IsCounted (status_of (Office fault)) seen.folder_failures new.folder_failures → new.streams ≡ seen.streams → status ≡ status_of (Office fault)
    → TellsText (fault_line (Office fault) ++ []) seen.faults new.faults → ServesSession words names_bytes old new status
refused_as = search (rules, append-nil)
