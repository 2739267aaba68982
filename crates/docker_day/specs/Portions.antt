-- The rows of a walk, read a portion at a time.
use Rattle.std.specs.Prelude.{◌≡◌, ℕ, List, ◌++◌}
use Rattle.docker_model.specs.state.Row.{Row, AreRowsOf}
use Rattle.docker_model.specs.state.Table.{Table}
use Rattle.docker_model.specs.docker.DockerLine.{DockerLine}
use Rattle.docker_laws.specs.LiveRows.{train_in, link_in}
use Rattle.docker_laws.specs.Gathering.{gathered}
use Rattle.docker_state.specs.Timetables.{live_in}
use Rattle.train_choice.specs.Along.{AreGoodRows, AreLive}
use Rattle.train_choice.specs.Known.{PlaceDay}
use Rattle.docker_day.specs.RowViews.{views_in, views_of}
use Rattle.docker_day.specs.declared.row_view.RowView.{RowView}

-- says that two properties of the rows `before` hold for the rows `after` too. If the bodies of all
-- rows of `before` are well formed, so are the bodies of all rows of `after`. If all rows of
-- `before` are live, so are all rows of `after`
pub record AreLeft (before after : List Row) : Type 0 where
  pub good : AreGoodRows before → AreGoodRows after
  pub live : (live : Table) → AreLive live before → AreLive live after

-- says that rows were moved from the walk to the portion: the views of the portion, followed by the
-- views of the remaining rows, are unchanged
abbrev pub AreOpened : List Row → List Row → List (ℕ × RowView) → List (ℕ × RowView) → Type 0
AreOpened before after portion more = views_in more ++ views_of after ≡ views_in portion ++ views_of before

-- says that the rows that were read between `before` and `after` have no docker lines: at any place
-- on the day, `before` and `after` have the same lines
abbrev pub ArePassedOver : ℕ → List Row → List Row → Type 0
ArePassedOver day before after = (place : List ℕ) (live : Table) → AreLive live before → (rows : List Row) → AreRowsOf live rows
    → gathered (train_in rows) (link_in rows) place day before ≡ gathered (train_in rows) (link_in rows) place day after

-- says that a walk has appended the lines of the rows that it has passed: the list of lines,
-- followed by the lines of the remaining rows, is unchanged
abbrev pub HaveMoved : PlaceDay → List Row → List Row → List DockerLine → List DockerLine → Type 0
HaveMoved there before after lines more = (rows : List Row) → AreRowsOf (live_in there.timetable) rows
    → more ++ gathered (train_in rows) (link_in rows) there.place there.day after
    ≡ lines ++ gathered (train_in rows) (link_in rows) there.place there.day before
