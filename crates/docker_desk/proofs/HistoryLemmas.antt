-- How each request adds events to a folder's history.
use Rattle.cif_laws.proofs.Common.{◌≡◌, ℕ, List, [], ◌∷◌, ◌++◌, Bool, subst, append_assoc, Ok, rules, Option, Result, ⊤, State, dks_2, state_text}
use Rattle.docker_host.specs.History.{Bytes, Event, Text, closed, looked, opened}
use Rattle.docker_host.specs.Asked.{IsStored}
use Rattle.docker_office.specs.declared.fault.OfficeFault.{OfficeFault}
use Rattle.docker_desk.specs.Desk.{EndsSaving}
use Rattle.docker_desk.specs.Reading.{OpensOnce, Reading, events_of}

-- if the events `first` are appended to a history, and then the events `next`, the history has
-- gained the events `first ++ next`
pub then : (old middle new : List Event) (first next : List Event) → middle ≡ old ++ first → new ≡ middle ++ next → new ≡ old ++ (first ++ next)
then = search (rules, append_assoc)

-- ---- how an opening is recorded

-- suppose that reading a file changed the state from `own` to `now`. If `own` equals `old` and
-- `now` equals `new`, reading the file changed the state from `old` to `new`
pub opens_as : (name : Text) (Stops : Reading → Type 0) (Ends : State → State → Result ⊤ OfficeFault → Option Reading → Type 0) (own now old new : State)
    (result : Result ⊤ OfficeFault) (before after : List Event) → own ≡ old → now ≡ new → OpensOnce name Stops (Ends own now result) before after
    → OpensOnce name Stops (Ends old new result) before after
opens_as = search rules

-- if a file was opened and then closed, the history gained the events `opened` and `closed`
pub then_closed : (name : Text) (held left : Bytes) (old opened_now new : List Event) → opened_now ≡ old ++ opened name held ∷ []
    → new ≡ opened_now ++ closed left ∷ [] → new ≡ old ++ events_of name (record { held = held; left = left })
then_closed name held left old opened_now new opens closes = then old opened_now new (opened name held ∷ []) (closed left ∷ []) opens closes

-- ---- how `save` ends

-- if the state's text was stored and the file was then looked at, `save` succeeded
pub saved_then : (names_bytes : Bool) (name : Text) (look : ℕ) (own state : State) (old middle new : List Event)
    → IsStored names_bytes name look (state_text dks_2 own) old middle → new ≡ middle ++ looked name ∷ [] → own ≡ state
    → EndsSaving names_bytes name look (state_text dks_2 state) old new (Ok tt)
saved_then names_bytes name look own state old middle new stored looks is =
    subst (λ (s : State). EndsSaving names_bytes name look (state_text dks_2 s) old new (Ok tt)) is (then _ _ _ _ _ stored looks)
