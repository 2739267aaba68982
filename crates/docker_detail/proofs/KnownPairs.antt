-- The remembered associations include the association that is asked for.
use Rattle.cif_laws.proofs.Common.{◌≡◌, ℕ, List, ◌∙◌, subst, Some, None, Option, IfSome, Row, AreRowsOf}
use Rattle.docker_model.specs.docker.DockerLine.{partner}
use Rattle.docker_laws.specs.LiveRows.{link_in}
use Rattle.docker_state.specs.Timetables.{Timetable, live_in}
use Rattle.train_choice.specs.Known.{PlaceDay}
use Rattle.docker_detail.specs.Finding.{association_by}
use Rattle.docker_detail.specs.Known.{AtPlace}

-- if the remembered associations belong to the start day, they give the record that is asked for
pub pair_known : {F : Type 0} (copied : F → Option (List ℕ)) (timetable : Timetable) (place : List ℕ) (there : AtPlace) (links : PlaceDay) (day start : ℕ)
    (base associated : List ℕ) (suffix : ℕ) (found : Option F) → record { timetable = timetable; place = place } ≡ there
    → links ≡ record { timetable = timetable; place = place; day = day }
    → IfSome found (λ (f : F). (day ≡ start) × ((rows : List Row) → AreRowsOf (live_in links.timetable) rows → (identity : List ℕ)
    → copied f ≡ association_by (link_in rows) base suffix links.day links.place (partner associated identity)))
    → IfSome found (λ (f : F). (rows : List Row) → AreRowsOf (live_in there.timetable) rows → (identity : List ℕ)
    → copied f ≡ association_by (link_in rows) base suffix start there.place (partner associated identity))
pair_known copied timetable place there links day start base associated suffix None view known told = tt
pair_known copied timetable place there links day start base associated suffix (Some f) view known told =
    subst (λ (l : PlaceDay). (rows : List Row) → AreRowsOf (live_in l.timetable) rows → (identity : List ℕ)
    → copied f ≡ association_by (link_in rows) base suffix l.day l.place (partner associated identity))
    (known ∙ (λ i. record { timetable = (view i).timetable; place = (view i).place; day = told.0 i })) told.1
