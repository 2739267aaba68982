-- The typed views of a walk's rows have the same docker lines as these rows.
use Rattle.cif_laws.proofs.Common.{◌≡◌, ℕ, List, [], ◌∷◌, ◌++◌, refl, Some, rules, Option, Key, Body, Group, Row, Table}
use Rattle.docker_laws.specs.Gathering.{gathered, row_lines}
use Rattle.docker_model.specs.docker.Choice as choices
use Rattle.docker_laws.specs.LiveRows as live_rows
use Rattle.train_choice.specs.Along.{AreLive}
use Rattle.docker_day.specs.RowViews.{AreLiveViews, IsLiveView, lines_of, view_lines, view_of, views_of}

-- the view of a live row is live
pub live_view : (live : Table) (key : Key) (body : Body) → live key ≡ Some body → IsLiveView live (view_of key body)
live_view = search rules

-- the views of live rows are live
pub live_views : (live : Table) (rows : List Row) → AreLive live rows → AreLiveViews live (views_of rows)
live_views live [] are = tt
live_views live (row ∷ rows) are = (live_view live row.0 row.1 are.0, live_views live rows are.1)

module _ (trains : List ℕ → ℕ → Option choices.Train) (links : Group → ℕ → Option live_rows.Link) (place : List ℕ) (day : ℕ) where
  -- a row and its view have the same docker lines
  pub lines_viewed : (key : Key) (body : Body) → view_lines trains links place day (view_of key body) ≡ row_lines trains links place day key body
  lines_viewed = search rules

  -- rows and their views have the same docker lines
  pub gathered_viewed : (rows : List Row) → lines_of trains links place day (views_of rows) ≡ gathered trains links place day rows
  gathered_viewed [] = refl
  gathered_viewed (row ∷ rows) = λ i. lines_viewed row.0 row.1 i ++ gathered_viewed rows i
