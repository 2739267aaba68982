-- A docker line comes from one schedule, one event and at most one association. So a table has at
-- most one detailed docker for a place and a day.
use Rattle.cif_laws.proofs.Common.{◌≡◌, ℕ, List, [], ◌∷◌, refl, ap, sym, ◌∙◌, subst, inl, inr, Some, None, AllZip, zip, tied_itself, Table, DockerLine}
use Rattle.cif_laws.proofs.Common.{IsOrigin, IsDetailedText}
use Rattle.docker_model.specs.docker.DetailedText.{detailed_text, origin_text}
use Rattle.cif_laws.proofs.orders.Orders.{docker_line_total}
use Rattle.state_laws.proofs.states.OneJoin.{docker_unique}
use Rattle.docker_laws.proofs.dockers.OneDockerLine.{same_event_line, same_association_line, event_apart}

-- a docker line has at most one origin
pub one_origin : (live : Table) (place : List ℕ) (day : ℕ) (line : DockerLine) (first second : List ℕ) → IsOrigin live place day line first
    → IsOrigin live place day line second
    → first ≡ second
one_origin live place day line first second (inl one) (inl two) =
    let same = same_event_line live place day line line one.line_is two.line_is (tied_itself docker_line_total line) in
    one.origin_is ∙ (λ i. origin_text (same.starts i) (same.schedules i) (same.events i) None) ∙ sym two.origin_is
one_origin live place day line first second (inl one) (inr two) = absurd (event_apart live place day line line one.line_is two.line_is refl)
one_origin live place day line first second (inr one) (inl two) = absurd (event_apart live place day line line two.line_is one.line_is refl)
one_origin live place day line first second (inr one) (inr two) =
    let same = same_association_line live place day line line one.line_is two.line_is (tied_itself docker_line_total line) in
    one.origin_is ∙ (λ i. origin_text (same.starts i) (same.bases i) (same.events i) (Some (same.associations i))) ∙ sym two.origin_is

-- docker lines have at most one list of origins
pub one_list_of_origins : (live : Table) (place : List ℕ) (day : ℕ) (lines : List DockerLine) (first second : List (List ℕ))
    → AllZip (IsOrigin live place day) lines first
    → AllZip (IsOrigin live place day) lines second → first ≡ second
one_list_of_origins live place day [] [] [] one two = refl
one_list_of_origins live place day [] [] (b ∷ second) one two = absurd two
one_list_of_origins live place day (line ∷ lines) (a ∷ first) [] one two = absurd two
one_list_of_origins live place day (line ∷ lines) (a ∷ first) (b ∷ second) one two =
    let heads = one_origin live place day line a b one.0 two.0 in
    let tails = one_list_of_origins live place day lines first second one.1 two.1 in
    λ i. heads i ∷ tails i
one_list_of_origins live place day lines first second one two = absurd one

-- a table has at most one detailed docker for a place and a day
pub one_detailed_text : (live : Table) (place : List ℕ) (day : ℕ) (text other : List ℕ) → IsDetailedText live place day text
    → IsDetailedText live place day other → text ≡ other
one_detailed_text live place day text other is that =
    let lines : is.lines ≡ that.lines = docker_unique _ is.lines that.lines is.docker that.docker in
    let come = subst (λ ls. AllZip (IsOrigin live place day) ls is.origins) lines is.come_from in
    let origins : is.origins ≡ that.origins = one_list_of_origins live place day that.lines is.origins that.origins come that.come_from in
    let pairs : zip is.lines is.origins ≡ zip that.lines that.origins = λ i. zip (lines i) (origins i) in
    is.text_is ∙ ap (detailed_text live place day) pairs ∙ sym that.text_is
