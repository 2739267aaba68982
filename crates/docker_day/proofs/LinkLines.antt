-- The docker line of an association, made from the events of its base train.
use Rattle.cif_laws.proofs.Common.{◌≡◌, ℕ, List, [], ◌∷◌, ◌++◌, refl, append_assoc, append-nil, rules, Option, option_map, find, flat_map, Occasion, events_of}
use Rattle.cif_laws.proofs.Common.{first_event_at, Group, Table, DockerLine}
use Rattle.docker_model.specs.docker.Choice as choices
use Rattle.docker_laws.specs.LiveRows as live_rows
use Rattle.docker_laws.specs.Gathering.{start_days, line_with}
use Rattle.train_choice.specs.Occurrences.{occurrence_of, occurrences}
use Rattle.train_choice.proofs.FallsCounted.{find_mapped}
use Rattle.docker_day.specs.Lines.{Adds, is_call, link_line_with}
use Rattle.docker_day.specs.RowViews.{row_back, row_piece, view_lines}
use Rattle.docker_day.specs.declared.row_view.RowView.{RowView}
use Rattle.docker_day.proofs.Days.{starts_split}

abbrev no_line : List DockerLine
no_line = []

-- the first event of a call is the first of the train's events that are at the place and have the
-- call's suffix
pub first_call_is : (lines : List (List ℕ)) (location : List ℕ) (suffix : ℕ)
    → find (is_call location suffix) (occurrences lines) ≡ option_map (occurrence_of lines) (first_event_at lines location suffix)
first_call_is lines location suffix = find_mapped (occurrence_of lines) (is_call location suffix) (events_of lines)

-- the docker line that the code makes for an association equals the association's line in the
-- definitions
link_line_is : (trains : List ℕ → ℕ → Option choices.Train) (day start : ℕ) (link : live_rows.Link) (occasion : Option Occasion) (base : Option choices.Train)
    → link_line_with trains day start link occasion base ≡ line_with trains day start link.key link.line occasion base
link_line_is = search (rules, first_call_is)

none_of_all : (days : List ℕ) → flat_map (λ (day : ℕ). no_line) days ≡ no_line
none_of_all [] = refl
none_of_all (day ∷ days) = none_of_all days

-- the lines of a row are the concatenation of the row's lines for the three start days: the day
-- itself and the two days before it
row_pieces : (trains : List ℕ → ℕ → Option choices.Train) (links : Group → ℕ → Option live_rows.Link) (place : List ℕ) (day : ℕ) (view : RowView)
    → flat_map (row_piece trains links place day view) (start_days day) ≡ view_lines trains links place day view
row_pieces = search (rules, link_line_is, none_of_all)

three_parts : (a b c d : List DockerLine) → ((a ++ b) ++ c) ++ d ≡ a ++ (b ++ (c ++ (d ++ no_line)))
three_parts = search (rules, append_assoc, append-nil)

module _ (place : List ℕ) (day : ℕ) (view : RowView) where
  three_at : (trains : List ℕ → ℕ → Option choices.Train) (links : Group → ℕ → Option live_rows.Link) (first second third last : List DockerLine)
      → second ≡ first ++ row_back trains links place day view 0 → third ≡ second ++ row_back trains links place day view 1
      → last ≡ third ++ row_back trains links place day view 2 → last ≡ first ++ view_lines trains links place day view
  three_at = search (rules, three_parts, starts_split, row_pieces)

  -- suppose that a row's lines are appended to a list in three steps, for three start days. These
  -- are the day itself, the day before it, and the day two days before it. Then all lines of the
  -- row are appended
  pub three_backs : (live : Table) (first second third last : List DockerLine)
      → Adds live (λ trains links. row_back trains links place day view 0) first second
      → Adds live (λ trains links. row_back trains links place day view 1) second third
      → Adds live (λ trains links. row_back trains links place day view 2) third last
      → Adds live (λ trains links. view_lines trains links place day view) first last
  three_backs = search (rules, three_at)
