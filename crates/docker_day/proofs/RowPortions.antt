-- Reading the rows of a walk in portions leaves the docker lines unchanged.
use Rattle.cif_laws.proofs.Common.{◌≡◌, ℕ, zero, suc, ◌<◌, Bool, true, false, List, [], ◌∷◌, ◌++◌, length, rules, take, get_or, refl, ap, sym, ◌∙◌, subst, Some}
use Rattle.cif_laws.proofs.Common.{arith, append_assoc, Option, ◌||◌, flat_map-append, Key, Body, Row, AreRowsOf, IsBodyOf, Table, DockerLine}
use Rattle.docker_laws.specs.LiveRows.{train_in, link_in}
use Rattle.docker_laws.specs.Gathering.{gathered, row_lines}
use Rattle.docker_state.specs.Timetables.{live_in}
use Rattle.train_choice.specs.Along.{AreGoodRows, AreLive}
use Rattle.train_choice.specs.Known.{PlaceDay}
use Rattle.docker_day.specs.Lines.{Adds}
use Rattle.docker_day.specs.RowViews.{AreLiveViews, IsLiveView, lines_of, row_may_run, view_of, views_in}
use Rattle.docker_day.specs.Portions.{AreLeft, AreOpened, ArePassedOver, HaveMoved}
use Rattle.docker_day.specs.declared.row_view.RowView.{RowView}
use Rattle.docker_day.proofs.PassedOver.{not_recently, row_idle}
use Rattle.docker_day.proofs.RowViews.{gathered_viewed, lines_viewed, live_view, live_views}

-- if `row_may_run` says that a row can't have lines on a day, the row has no lines on this day
no_lines : (place : List ℕ) (day : ℕ) (key : Key) (body : Body) (live : Table) (rows : List Row) → AreRowsOf live rows → live key ≡ Some body
    → IsBodyOf key body → row_may_run (view_of key body) day ≡ false → row_lines (train_in rows) (link_in rows) place day key body ≡ []
no_lines place day key body live rows are is_live of never = sym (lines_viewed _ (link_in rows) _ day _ body)
    ∙ sym (not_recently _ day _ live _ (live_view live _ body is_live) (row_idle _ body _ of never) rows are)

-- if `row_may_run` says that a row can't have lines on the day, the row may be skipped
pub row_passed : (day : ℕ) (key : Key) (body : Body) (row : RowView) (before after : List Row) (may : Bool) → before ≡ (key, body) ∷ after
    → AreGoodRows before → row ≡ view_of key body → may ≡ row_may_run row day → ¬ (◌≡◌ {A = Option Bool} (Some may) (Some true))
    → ArePassedOver day before after
row_passed day key body row before after true is good viewed told never = absurd (never refl)
row_passed day key body row before after false is good viewed told never = λ place live are_live rows are.
    (λ i. gathered (train_in rows) (link_in rows) place day (is i))
    ∙ (λ i. no_lines place _ key _ live _ are (subst (AreLive live) is are_live).0 (subst AreGoodRows is good).0
    (sym (told ∙ ap (λ (r : RowView). row_may_run r day) viewed)) i ++ gathered (train_in rows) (link_in rows) place day after)

-- `AreLeft`, which says that rows stay good and live while a walk moves on, is transitive
pub left_again : (all rest fewer : List Row) → AreLeft all rest → AreLeft rest fewer → AreLeft all fewer
left_again = search rules

-- `ArePassedOver` is transitive: if the rows between `all` and `rest` may be skipped, and the rows
-- between `rest` and `fewer`, then all rows between `all` and `fewer` may be skipped
pub passed_again : (day : ℕ) (all rest fewer : List Row) → AreLeft all rest → ArePassedOver day all rest → ArePassedOver day rest fewer
    → ArePassedOver day all fewer
passed_again = search rules

-- if neither the rows read so far nor the next row may have lines, all these rows may be skipped
pub none_behind : (day : ℕ) (all rest fewer : List Row) (so_far may : Bool) → AreLeft all rest → (so_far ≡ false → ArePassedOver day all rest)
    → (¬ (◌≡◌ {A = Option Bool} (Some may) (Some true)) → ArePassedOver day rest fewer) → (so_far || may) ≡ false → ArePassedOver day all fewer
none_behind = search (rules, passed_again)

-- if no row read so far may have lines, and no more rows are read, the rows read so far may be
-- skipped
pub none_after : (day : ℕ) (all rest fewer : List Row) (so_far : Bool) (found : Option Bool) → AreLeft all rest
    → (so_far ≡ false → ArePassedOver day all rest) → ((may : Bool) → ¬ (found ≡ Some may)) → (¬ (found ≡ Some true) → ArePassedOver day rest fewer)
    → so_far ≡ false → ArePassedOver day all fewer
none_after = search (rules, passed_again)

-- suppose that in each of two steps, a walk appends the lines of the rows that it passes. Then it
-- has appended the lines of all rows that it passed in the two steps
pub moved_again : (there again : PlaceDay) (all rest fewer : List Row) (first second third : List DockerLine) → again ≡ there
    → HaveMoved there all rest first second → HaveMoved again rest fewer second third → HaveMoved there all fewer first third
moved_again = search rules

-- if a walk has appended the lines of all rows that it has passed, this is still true after the
-- walk skips rows without docker lines
pub moved_over : (there again : PlaceDay) (all rest fewer : List Row) (first second : List DockerLine) → again ≡ there
    → AreLive (live_in again.timetable) rest → HaveMoved there all rest first second → ArePassedOver again.day rest fewer
    → HaveMoved there all fewer first second
moved_over = search rules

-- rows that are live in the timetable of a `PlaceDay` are live in the timetable of an equal
-- `PlaceDay`
pub live_again : (there again : PlaceDay) (rows : List Row) → again ≡ there → AreLive (live_in there.timetable) rows → AreLive (live_in again.timetable) rows
live_again there again rows same live = subst (λ (p : PlaceDay). AreLive (live_in p.timetable) rows) (sym same) live

-- ---- the rows of a portion

-- if all views of a list are live, all views of any prefix of the list are live
pub live_first : (live : Table) (first second : List RowView) → AreLiveViews live (first ++ second) → AreLiveViews live first
live_first live [] second are = tt
live_first live (row ∷ rows) second are = (are.0, live_first live rows second are.1)

-- if the walk's rows are live, the rows of its portion are live
pub live_portion : (live : Table) (all rest : List Row) (portion rows : List (ℕ × RowView)) → AreOpened all rest [] portion → rows ≡ portion
    → AreLive live all → AreLiveViews live (views_in rows)
live_portion = search (rules, live_first, live_views)

-- each row of the portion is live
live_item : (live : Table) (portion : List (ℕ × RowView)) (i : ℕ) (row : ℕ × RowView) → AreLiveViews live (views_in portion) → i < length portion
    → row ≡ get_or portion i row → IsLiveView live row.1
live_item live (next ∷ portion) zero row are below is = subst (λ (r : ℕ × RowView). IsLiveView live r.1) (sym is) are.0
live_item live (next ∷ portion) (suc i) row are below is = live_item live portion i row are.1 (omega arith) is
live_item live [] i row are below is = let bad : i < 0 = below in absurd (omega arith)

-- each row of the portion is live in the timetable of an equal `PlaceDay`
pub live_at : (there again : PlaceDay) (portion : List (ℕ × RowView)) (i : ℕ) (row : ℕ × RowView) → again ≡ there
    → AreLiveViews (live_in there.timetable) (views_in portion) → i < length portion → row ≡ get_or portion i row
    → IsLiveView (live_in again.timetable) row.1
live_at there again portion i row same are below is =
    live_item (live_in again.timetable) portion i row (subst (λ (p : PlaceDay). AreLiveViews (live_in p.timetable) (views_in portion)) (sym same) are) below is

module _ (there : PlaceDay) (portion : List (ℕ × RowView)) where
  -- says that `after` is `before` with the docker lines of the portion's first `n` rows appended
  abbrev pub AddsFirst : ℕ → List DockerLine → List DockerLine → Type 0
  AddsFirst n before after =
      Adds (live_in there.timetable) (λ trains links. lines_of trains links there.place there.day (views_in (take n portion))) before after

  -- suppose that a walk has moved rows to a portion, and that the lines of the portion were
  -- appended to a list. Then the walk has appended the lines of all rows that it has passed
  pub moved_open : (all rest : List Row) (rows : List (ℕ × RowView)) (first second : List DockerLine) → AreOpened all rest [] portion → rows ≡ portion
      → Adds (live_in there.timetable) (λ trains links. lines_of trains links there.place there.day (views_in rows)) first second
      → HaveMoved there all rest first second
  moved_open = search (rules, gathered_viewed, append_assoc, flat_map-append)
