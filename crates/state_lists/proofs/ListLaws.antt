-- A live table has only one list of timing points. For each state there is only one text that lists what an office with this state knows.
use Rattle.cif_laws.proofs.Common.{◌≡◌, ℕ, ◌≤◌, List, refl, ap, sym, ◌∙◌, subst, Contains, Some, None, arith, Option, State, Table, Row, IsKnownText}
use Rattle.cif_laws.proofs.Common.{IsPlacesText}
use Rattle.cif_laws.proofs.lists.Membership.{nil-Contains}
use Rattle.state_laws.proofs.states.OneJoin.{floor_unique}
use Rattle.docker_model.specs.lists.KnownText.{IsGreatest, ends_of, known_text}
use Rattle.docker_model.specs.lists.PlacesText.{places_text}
use Rattle.state_lists.proofs.Counts.{one_rows}

pub one_places : (live : Table) (text other : List ℕ) → IsPlacesText live text → IsPlacesText live other → text ≡ other
one_places live text other one two = one.text_is ∙ ap places_text (one_rows _ _ _ one.are two.are) ∙ sym two.text_is

-- a list of numbers has at most one greatest number
one_greatest : (numbers : List ℕ) (first second : Option ℕ) → IsGreatest numbers first → IsGreatest numbers second → first ≡ second
one_greatest numbers None None one two = refl
one_greatest numbers None (Some b) one two = absurd (nil-Contains b (subst (λ ns. Contains ns b) one two.0))
one_greatest numbers (Some a) None one two = absurd (nil-Contains a (subst (λ ns. Contains ns a) two one.0))
one_greatest numbers (Some a) (Some b) one two =
    let up : a ≤ b = two.1 a one.0 in
    let down : b ≤ a = one.1 b two.0 in
    let same : a ≡ b = omega arith in
    ap Some same

pub one_known : (state : State) (text other : List ℕ) → IsKnownText state text → IsKnownText state other → text ≡ other
one_known state text other one two = one.text_is ∙ (λ i. known_text state.horizon (fulls i) (lasts i) (rows i)) ∙ sym two.text_is
  where
    fulls : one.full ≡ two.full
    fulls = floor_unique _ _ (λ item. (λ among. among, λ among. among)) _ _ one.is_full two.is_full

    rows : one.rows ≡ two.rows
    rows = one_rows _ _ _ one.are two.are

    lasts : one.last ≡ two.last
    lasts = one_greatest _ _ _ (subst (λ (it : List Row). IsGreatest (ends_of it) one.last) rows one.is_last) two.is_last
