-- The lines that a walk over rows gathers are the lines of the docker, and no two of these lines
-- tie. After sorting, the lines are the docker list.
use Rattle.cif_laws.proofs.Common.{◌≡◌, ℕ, List, [], refl, sym, subst, inl, rules, inr, ◌⊎◌, Some, true, false, cond, Contains, Option, flat_map, IsSorted}
use Rattle.cif_laws.proofs.Common.{IsPermutation, bytes_eq, Equal, on, leb-true, Contains-permutation, IsPermutation-sym, bytes_eq-Decides, Key}
use Rattle.cif_laws.proofs.Common.{association_key, schedule_key, AssociationKey, ScheduleKey, Body, association_body, schedule_body, IsBelow, key_cmp, Table}
use Rattle.cif_laws.proofs.Common.{HasGoodBodies, Row, Group, Train, DockerLine, docker_line_cmp, IsDockerList}
use Rattle.docker_laws.specs.LiveRows.{Link, TellsTrains, TellsLinks}
use Rattle.docker_laws.specs.Gathering.{IsDockerLine, start_days, IsWalk, row_lines, gathered}
use Rattle.cif_laws.proofs.lists.Membership.{nil-Contains, Contains-flat_map, flat_map-Contains}
use Rattle.cif_laws.proofs.orders.Ascending.{irreflexive}
use Rattle.cif_laws.proofs.orders.Orders.{key_total, docker_line_total}
use Rattle.cif_laws.proofs.lists.FilteredMembers.{filter_back}
use Rattle.cif_laws.proofs.orders.Ascending.{later_of}
use Rattle.cif_laws.proofs.lists.Later.{AllLater, later_weaker, later_flat_map, later_map, later_filter}
use Rattle.cif_laws.proofs.lists.Sorted.{AreApart, sort_ascends}
use Rattle.docker_laws.proofs.dockers.Events.{event_calls}
use Rattle.docker_laws.proofs.dockers.OneDockerLine.{tied_lines_agree, same_event_line, same_association_line, event_apart}
use Rattle.docker_laws.proofs.dockers.ScheduleLines.{schedule_piece, IsOfSchedule, schedule_piece_back}
use Rattle.docker_laws.proofs.dockers.ScheduleLines.{schedule_piece_forth, schedule_piece_apart, event_starts}
use Rattle.docker_laws.proofs.dockers.AssociationLines.{link_piece, IsOfAssociation, link_piece_back, link_piece_forth, link_piece_apart, association_starts}

-- the line is a docker line of the schedule or association with this key, for this start day
abbrev IsLineFrom : Table → List ℕ → ℕ → Key → ℕ → DockerLine → Type 0
IsLineFrom live place day key start line =
    ((schedule : ScheduleKey) × (schedule_key schedule ≡ key) × IsOfSchedule live place day schedule start line)
    ⊎ ((association : AssociationKey) × (association_key association ≡ key) × IsOfAssociation live place day association start line)

-- each line that satisfies `IsLineFrom` is a line of the docker
from_is : (live : Table) (place : List ℕ) (day : ℕ) (key : Key) (start : ℕ) (line : DockerLine) → IsLineFrom live place day key start line
    → IsDockerLine live place day line
from_is = search rules

-- two lines that tie belong to the same row and the same start day
same_source : (live : Table) (place : List ℕ) (day : ℕ) (first second : Key) (start other : ℕ) (a b : DockerLine) → IsLineFrom live place day first start a
    → IsLineFrom live place day second other b
    → docker_line_cmp a b ≡ Equal → (first ≡ second) × (start ≡ other)
same_source live place day first second start other a b (inl (x, x_is, one)) (inl (y, y_is, two)) e =
    let same = same_event_line live place day a b one.made two.made e in search rules
same_source live place day first second start other a b (inr (x, x_is, one)) (inr (y, y_is, two)) e =
    let same = same_association_line live place day a b one.made two.made e in search rules
same_source live place day first second start other a b (inl (x, x_is, one)) (inr (y, y_is, two)) e =
    absurd (event_apart live place day a b one.made two.made (tied_lines_agree a b e).occasions)
same_source live place day first second start other a b (inr (x, x_is, one)) (inl (y, y_is, two)) e =
    absurd (event_apart live place day b a two.made one.made (sym (tied_lines_agree a b e).occasions))

days_differ : (day : ℕ) → AllLater (λ a b. ¬ (a ≡ b)) (start_days day)
days_differ = search (rules, later_map, later_weaker, leb-true, filter_back, later_filter)

module _ (live : Table) (trains : List ℕ → ℕ → Option Train) (links : Group → ℕ → Option Link) (tell : TellsTrains live trains)
    (tell_links : TellsLinks live links) (place : List ℕ) (day : ℕ) where
  -- ---- the lines of one row are in the docker, and no two of them tie

  abbrev SomeStart : Key → DockerLine → Type 0
  SomeStart key line = (start : ℕ) × IsLineFrom live place day key start line

  -- each of these lines belongs to the row with this key, and no two of them tie
  abbrev AreOfRow : Key → List DockerLine → Type 0
  AreOfRow key lines = ((line : DockerLine) → Contains lines line → SomeStart key line) × AreApart docker_line_cmp lines

  no_lines : (key : Key) → AreOfRow key []
  no_lines key = (λ line among. absurd (nil-Contains line among), tt)

  -- For each start day, `piece` returns the docker lines of one row. These lines are in the docker,
  -- and no two of them tie
  pieces_are : (key : Key) (piece : ℕ → List DockerLine)
      → ((start : ℕ) (line : DockerLine) → Contains (piece start) line → IsLineFrom live place day key start line)
      → ((start : ℕ) → AreApart docker_line_cmp (piece start)) → AreOfRow key (flat_map piece (start_days day))
  pieces_are key piece back apart = (
    λ line among. let found = Contains-flat_map piece (start_days day) line among in (found.0, back found.0 line found.2),
    later_flat_map (λ (a b : DockerLine). ¬ (docker_line_cmp a b ≡ Equal)) _ piece _ (days_differ day) (λ start among. apart start)
        (λ start other in_start in_other differ a b in_a in_b e. differ (same_source _ place _ key _ start _ a _ (back start a in_a) (back other b in_b) e).1),
  )

  row_is : (key : Key) (body : Body) → live key ≡ Some body → AreOfRow key (row_lines trains links place day key body)
  row_is (schedule_key key) (schedule_body lines) is = pieces_are (schedule_key key) (schedule_piece trains place day key lines)
      (λ start line among. inl (key, refl, schedule_piece_back live trains tell place day key lines start is line among))
      (schedule_piece_apart live trains tell place day key lines)
  row_is (association_key key) (association_body link) is = (elim (bytes_eq key.location place) as (λ b. bytes_eq key.location place ≡ b
      → AreOfRow (association_key key) (cond b (flat_map (link_piece trains links day key link) (start_days day)) [])) [
        | true ↦ λ h. let here = (bytes_eq-Decides key.location place).0 h in
            pieces_are (association_key key) (link_piece trains links day key link)
            (λ start line among. inr (key, refl, link_piece_back live trains links tell tell_links place day key link start is here line among))
            (link_piece_apart live trains links tell tell_links place day key link)
        | false ↦ λ h. no_lines (association_key key)
      ]) refl
  row_is key body is = no_lines key

  -- ---- the lines that a walk gathers are the lines of the docker

  module _ (rows : List Row) (walk : IsWalk live place rows) where
    -- no two of the gathered lines tie
    pub gathered_apart : AreApart docker_line_cmp (gathered trains links place day rows)
    gathered_apart = later_flat_map _ (IsBelow (on (λ (row : Row). row.0) key_cmp)) _ rows (later_of (on (λ (row : Row). row.0) key_cmp) rows walk.ascending)
        (λ row among. (row_is row.0 row.1 (walk.each row.0 row.1 among)).1) (λ first second in_first in_second below a b in_a in_b e.
        let one = (row_is first.0 first.1 (walk.each first.0 first.1 in_first)).0 a in_a in
        let two = (row_is second.0 second.1 (walk.each second.0 second.1 in_second)).0 b in_b in
        let keys = (same_source _ place _ first.0 _ one.0 _ a _ one.1 two.1 e).0 in
        irreflexive key_total first.0 (subst (IsBelow key_cmp first.0) (sym keys) below))

    -- each gathered line is a line of the docker
    pub gathered_back : (line : DockerLine) → Contains (gathered trains links place day rows) line → IsDockerLine live place day line
    gathered_back line among =
        let found = Contains-flat_map (λ (row : Row). row_lines trains links place day row.0 row.1) rows line among in
        let told = (row_is found.0.0 found.0.1 (walk.each found.0.0 found.0.1 found.1)).0 line found.2 in
        from_is live place day found.0.0 told.0 line told.1

    -- each line of the docker is gathered
    pub gathered_forth : HasGoodBodies live → (line : DockerLine) → IsDockerLine live place day line → Contains (gathered trains links place day rows) line
    gathered_forth good line (inl made) =
        let calls = event_calls made.schedule made.event place made.among made.here in
        let there = walk.schedules made.key made.schedule made.train_runs.chosen.running.is_live calls in
        flat_map-Contains (λ (row : Row). row_lines trains links place day row.0 row.1) rows (schedule_key made.key, schedule_body made.schedule) line there
        (flat_map-Contains (schedule_piece trains place day made.key made.schedule) (start_days day) made.start line
        (event_starts live trains tell place day good line made) (schedule_piece_forth live trains tell place day line made))
    gathered_forth good line (inr made) =
        let there = walk.associations made.key made.association made.chosen.associated.is_live made.here in
        let pieces = flat_map-Contains (link_piece trains links day made.key made.association) (start_days day) made.start line
        (association_starts live trains links tell tell_links place day good line made)
        (link_piece_forth live trains links tell tell_links place day line made) in
        let here : bytes_eq made.key.location place ≡ true = (bytes_eq-Decides made.key.location place).1 made.here in
        flat_map-Contains (λ (row : Row). row_lines trains links place day row.0 row.1) rows
        (association_key made.key, association_body made.association) line there
        (subst (λ b. Contains (cond b (flat_map (link_piece trains links day made.key made.association) (start_days day)) []) line) (sym here) pieces)

    -- the gathered lines, after sorting, are the docker list
    pub sorted_gathering : HasGoodBodies live → (lines : List DockerLine) → IsPermutation (gathered trains links place day rows) lines
        → IsSorted docker_line_cmp lines → IsDockerList live place day lines
    sorted_gathering good lines same sorted = record {
      ascending = sort_ascends docker_line_total _ _ gathered_apart same sorted;
      members = λ line. (
        λ among. gathered_back _ (Contains-permutation lines (gathered trains links place day rows) line
            (IsPermutation-sym (gathered trains links place day rows) lines same) among),
        λ is. Contains-permutation (gathered trains links place day rows) lines line same (gathered_forth good _ is),
      );
    }

-- if a row is appended to the rows, the docker lines of this row are appended to the gathered lines
