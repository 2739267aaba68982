-- The first 56 columns of the lines of a detailed docker are the lines of the docker.
use Rattle.cif_laws.proofs.Common.{◌≡◌, ℕ, suc, ◌+◌, ◌*◌, ◌%◌, ◌<◌, ◌≤◌, List, [], ◌∷◌, ◌++◌, length, length-append, length-drop, length-take-le, common_steps}
use Rattle.cif_laws.proofs.Common.{rules, append-nil, append_assoc, Contains, refl, ap, sym, ◌∙◌, subst, inl, inr, true, Some, None, arith, Option, codes, drop}
use Rattle.cif_laws.proofs.Common.{map, ◌^◌, AllByRecursion, AllZip, flat_map, zip, eqb-true, ltb-true, ltb-false, length-map, All-append, All-contains}
use Rattle.cif_laws.proofs.Common.{All-from_recursion, columns, is_printable, IsRecord, IsTextOfLength, IsTiploc, spaces, first_record, Body, tiploc_key}
use Rattle.cif_laws.proofs.Common.{association_key, schedule_key, ScheduleKey, tiploc_body, association_body, schedule_body, Occasion, timed, times_of}
use Rattle.cif_laws.proofs.Common.{HasGoodBodies, IsScheduleOf, IsAssociationOf, Table, Event, events_of, event_line, has_identity, DockerLine, description_in}
use Rattle.cif_laws.proofs.Common.{ended, heading, IsDockerText, last_line, line_text, detailed_line, IsDetailedText, IsOrigin, padded}
use Rattle.std.specs.Prelude.{decimal}
use Rattle.std.proofs.lemmas.Fmt.{decimal_by_steps_wide, length-decimal-le_wide}
use Rattle.std.proofs.lemmas.List.Concat.{flat_map-append}
use Rattle.std.proofs.lemmas.List.Elements.{All-drop, All-take}
use Rattle.docker_model.specs.records.PrintedNumber.{number_text}
use Rattle.docker_model.specs.docker.DetailedText.{change_at, extra_record, origin_text, record_text}
use Rattle.cif_laws.proofs.lists.BoolsAndOptions.{none_some}
use Rattle.cif_laws.proofs.lists.FilteredMembers.{find_some}
use Rattle.cif_laws.proofs.lists.Membership.{all_members, cons-Contains, cons-Contains-first}
use Rattle.cif_laws.proofs.lists.AllOf.{all_append, all_weaker}
use Rattle.docker_laws.specs.FirstColumns.{HasWidth, columns_from, first_columns}
use Rattle.docker_laws.specs.Gathering.{IsDockerLine}
use Rattle.docker_laws.proofs.dockers.Events.{at_a_line}
use Rattle.docker_laws.proofs.dockers.EventWalk.{number_there}
use Rattle.docker_laws.proofs.dockers.OneDockerLine.{first_event_is}
use Rattle.docker_laws.proofs.dockers.WideParts.{IsPlain, IsWide, wide_append, wide_byte, wide_day, wide_line, wide_spaces, wide_text}
use Rattle.docker_laws.proofs.dockers.WideDocker.{change_good, each_record, first_good, wide_docker_line}

-- ---- the first columns of one line

plain_first : (b : ℕ) (text : List ℕ) → IsPlain (b ∷ text) → 32 ≤ b
plain_first b text plain = All-contains (λ c. 32 ≤ c) (b ∷ text) b plain (cons-Contains-first b text)

plain_rest : (b : ℕ) (text : List ℕ) → IsPlain (b ∷ text) → IsPlain text
plain_rest b text plain = all_members (λ c. 32 ≤ c) text (λ c among. All-contains (λ d. 32 ≤ d) (b ∷ text) c plain (cons-Contains b text c among))

-- a text within the kept columns is kept
kept : (count column : ℕ) (text rest : List ℕ) → IsPlain text → column + length text ≤ count
    → columns_from count column (text ++ rest) ≡ text ++ columns_from count (column + length text) rest
kept count column [] rest plain fits = let same : column ≡ column + 0 = omega arith in ap (λ c. columns_from count c rest) same
kept count column (b ∷ text) rest plain fits =
    grind (
      arith,
      plain_rest,
      plain_first,
      eqb-true,
      ltb-false,
      (kept count (column + 1) text rest (plain_rest b text plain) (omega arith)
          ∙ ap (λ c. text ++ columns_from count c rest) (let same : (column + 1) + length text ≡ column + suc (length text) = omega arith in same)),
    )

-- a text after the kept columns is dropped
dropped : (count column : ℕ) (text rest : List ℕ) → IsPlain text → count ≤ column
    → columns_from count column (text ++ rest) ≡ columns_from count (column + length text) rest
dropped count column [] rest plain past = let same : column ≡ column + 0 = omega arith in ap (λ c. columns_from count c rest) same
dropped count column (b ∷ text) rest plain past =
    grind (
      arith,
      plain_rest,
      plain_first,
      eqb-true,
      ltb-true,
      (dropped count (column + 1) text rest (plain_rest b text plain) (omega arith)
          ∙ ap (λ c. columns_from count c rest) (let same : (column + 1) + length text ≡ column + suc (length text) = omega arith in same)),
    )

-- the first columns of a line, and of the lines after it
line_cut : (count : ℕ) (front back rest : List ℕ) → IsWide count front → IsPlain back
    → first_columns count (ended (front ++ back) ++ rest) ≡ ended front ++ first_columns count rest
line_cut = search (rules, append_assoc, kept, dropped)

-- ---- the parts of a detailed line

-- a record has 80 columns
wide_record : (line : List ℕ) → IsRecord line → IsWide 80 line
wide_record line is = wide_text 80 line is

-- the columns of a record, or spaces
wide_found : (found : Option (List ℕ)) → ((line : List ℕ) → found ≡ Some line → IsRecord line) → IsWide 80 (record_text found)
wide_found None is = wide_spaces 80
wide_found (Some line) is = wide_record line (is line refl)

plain_decimal : (n : ℕ) → n < 10 ^ 64 → IsPlain (decimal n)
plain_decimal n small = decimal_by_steps_wide (λ m ds. IsPlain ds) (λ m low. (wide_byte _ (omega arith)).plain)
    (λ m ds low is. All-append (λ b. 32 ≤ b) ds ((48 + m % 10) ∷ []) is (wide_byte _ (omega arith)).plain) n small

-- a number has at least the width of its column
plain_number : (n : ℕ) → n < 10 ^ 64 → IsWide (length (number_text n)) (number_text n)
plain_number = grind (common_steps, arith, wide_spaces, plain_decimal)

-- a number of at most ten digits has the width of its column
wide_number : (n : ℕ) → n < 10 ^ 10 → IsWide 10 (number_text n)
wide_number = grind (common_steps, arith, wide_spaces, length-decimal-le_wide, length-append, plain_number)

-- ---- the number of an event

timed_once : (occasion : Occasion) (time : Option ℕ) → length (timed occasion time) ≤ 1
timed_once = search rules

few_times : (line : List ℕ) → length (times_of line) ≤ 3
few_times = search (rules, length-append, timed_once)

times_long : (lines : List (List ℕ)) → length (flat_map times_of lines) ≤ 3 * length lines
times_long [] = omega arith
times_long (line ∷ lines) =
    let here = few_times line in
    let rest = times_long lines in
    let both = length-append (times_of line) (flat_map times_of lines) in
    omega arith

number_small : (key : ScheduleKey) (lines : List (List ℕ)) → IsScheduleOf key lines → (event : Event) → Contains (events_of lines) event
    → event.number < 10 ^ 64
number_small key lines of event among =
    let most = ((number_there lines event.number).0 (event, among, refl)).1 in
    let long = length-map (flat_map times_of lines) (λ (time : Occasion × ℕ). time.1) in
    let few = times_long lines in
    let bound = of.few in
    omega arith

-- ---- where a line comes from

module _ (key : ScheduleKey) (lines : List (List ℕ)) (of : IsScheduleOf key lines) (event : Event) (among : Contains (events_of lines) event) where
  extra_good : (line : List ℕ) → extra_record lines ≡ Some line → IsRecord line
  extra_good line is = each_record key lines of line (find_some (λ l. has_identity (codes "BX") l) lines line is).0

  -- the columns of an origin, if the number of its event has this width
  wide_origin : (start width : ℕ) (link : Option (List ℕ)) → ((line : List ℕ) → link ≡ Some line → IsRecord line) → IsWide width (number_text event.number)
      → IsWide (((((((((((1 + 10) + 1) + width) + 1) + 80) + 1) + 80) + 1) + 80) + 1) + 80 + 1 + 80) (origin_text start lines event link)
  unfolding origin_text
  wide_origin start width link good number =
      let space = wide_spaces 1 in
      let at = wide_record (event_line lines event) (each_record key lines of (event_line lines event) (at_a_line lines event among).among) in
      let front = wide_append (wide_append (wide_append (wide_append (wide_append space (wide_day start)) space) number) space)
      (wide_record (first_record lines) (first_good key lines of)) in
      let extra = wide_append (wide_append front space) (wide_found (extra_record lines) extra_good) in
      let changed = wide_append (wide_append extra space) (wide_found (change_at lines event) (change_good key lines of event)) in
      wide_append (wide_append (wide_append (wide_append changed space) at) space) (wide_found link good)

-- the number of a line with an origin is small, and the origin has the width of its columns, if the
-- line's number has this width
origin_wide : (live : Table) (place : List ℕ) (day : ℕ) (line : DockerLine) (origin : List ℕ) → HasGoodBodies live → IsOrigin live place day line origin
    → (line.number < 10 ^ 64) × ((width : ℕ) → IsWide width (number_text line.number)
    → IsWide (((((((((((1 + 10) + 1) + width) + 1) + 80) + 1) + 80) + 1) + 80) + 1) + 80 + 1 + 80) origin)
origin_wide live place day line origin good (inl from) =
    let is = from.line_is in
    let of : IsScheduleOf is.key is.schedule = good (schedule_key is.key) (schedule_body is.schedule) is.train_runs.chosen.running.is_live in
    let number : is.event.number ≡ line.number = sym (ap (λ (l : DockerLine). l.number) is.is) in (
      subst (λ n. n < 10 ^ 64) number (number_small is.key is.schedule of is.event is.among),
      λ width wide. subst (IsWide _) (sym from.origin_is) (wide_origin is.key is.schedule of is.event is.among is.start width None
          (λ l same. none_some l same) (subst (λ n. IsWide width (number_text n)) (sym number) wide)),
    )
origin_wide live place day line origin good (inr from) =
    let is = from.line_is in
    let of : IsScheduleOf is.base_key is.base = good (schedule_key is.base_key) (schedule_body is.base) is.base_runs.chosen.running.is_live in
    let link : IsAssociationOf is.key is.association = good (association_key is.key) (association_body is.association) is.chosen.associated.is_live in
    let among = (first_event_is is.base is.key.location is.key.suffix is.event is.first_there).0 in
    let number : is.event.number ≡ line.number = sym (ap (λ (l : DockerLine). l.number) is.is) in (
      subst (λ n. n < 10 ^ 64) number (number_small is.base_key is.base of is.event among),
      λ width wide. subst (IsWide _) (sym from.origin_is) (wide_origin is.base_key is.base of is.event among is.start width
          (Some is.association) (λ l same. let e : is.association ≡ l = cc in subst IsRecord e link.is_record)
          (subst (λ n. IsWide width (number_text n)) (sym number) wide)),
    )

-- no origin has a line feed
pub plain_origin : (live : Table) (place : List ℕ) (day : ℕ) (line : DockerLine) (origin : List ℕ) → HasGoodBodies live
    → IsOrigin live place day line origin → IsPlain origin
plain_origin live place day line origin good from =
    let wide = origin_wide live place day line origin good from in
    (wide.1 (length (number_text line.number)) (plain_number line.number wide.0)).plain

-- an origin has 427 columns if the number of the line's event has at most ten digits
pub wide_origin_of : (live : Table) (place : List ℕ) (day : ℕ) (line : DockerLine) (origin : List ℕ) → HasGoodBodies live
    → IsOrigin live place day line origin → line.number < 10 ^ 10 → IsWide 427 origin
wide_origin_of live place day line origin good from fits = (origin_wide live place day line origin good from).1 10 (wide_number line.number fits)

-- a line that comes from somewhere is a line of the docker
pub from_docker : (live : Table) (place : List ℕ) (day : ℕ) (line : DockerLine) (origin : List ℕ) → IsOrigin live place day line origin
    → IsDockerLine live place day line
from_docker = search rules

-- ---- the heading and the last line

wide_described : (live : Table) (place : List ℕ) → HasGoodBodies live → IsWide 26 (description_in (live (tiploc_key place)))
wide_described live place good = by (live (tiploc_key place)) refl
  where
    part : (bytes : List ℕ) → IsTextOfLength 63 bytes → IsWide 26 (columns 10 35 bytes)
    part bytes is = wide_text 26 (columns 10 35 bytes) (
      (let long = is.0 in let behind = length-drop 9 bytes in length-take-le 26 (drop 9 bytes) (omega arith)),
      All-take (λ b. is_printable b ≡ true) 26 (drop 9 bytes) (All-drop (λ b. is_printable b ≡ true) 9 bytes is.1),
    )

    by : (found : Option Body) → live (tiploc_key place) ≡ found → IsWide 26 (description_in found)
    by (Some (tiploc_body bytes)) h = part bytes (good (tiploc_key place) (tiploc_body bytes) h)
    by found h = wide_spaces 26

wide_word : IsWide 7 (codes "DOCKER ")
wide_word = search (rules, wide_text)

wide_heading : (live : Table) (place : List ℕ) (day : ℕ) → HasGoodBodies live → IsTiploc place → IsWide 56 (heading live place day)
wide_heading live place day good tiploc =
    let space = wide_spaces 1 in
    wide_append (wide_append (wide_append (wide_append (wide_append (wide_append wide_word (wide_text 7 place tiploc.0)) space) (wide_day day)) space)
    (wide_described live place good)) (wide_spaces 4)

wide_last : IsWide 56 last_line
wide_last = wide_append (wide_text 3 (codes "END") (refl, All-from_recursion (λ b. is_printable b ≡ true) (codes "END") (refl, (refl, (refl, tt)))))
    (wide_spaces 53)

-- ---- the first columns of a detailed docker

module _ (live : Table) (place : List ℕ) (day : ℕ) (good : HasGoodBodies live) where
  lines_cut : (lines : List DockerLine) (origins : List (List ℕ)) → AllZip (IsOrigin live place day) lines origins → (rest : List ℕ)
      → first_columns 56 (flat_map (λ (line : DockerLine × List ℕ). ended (detailed_line line)) (zip lines origins) ++ rest)
      ≡ flat_map (λ line. ended (line_text line)) lines ++ first_columns 56 rest
  lines_cut [] [] come rest = refl
  lines_cut (line ∷ lines) (origin ∷ origins) come rest =
      let more : List ℕ = flat_map (λ (it : DockerLine × List ℕ). ended (detailed_line it)) (zip lines origins) in
      ap (first_columns 56) (append_assoc (ended (line_text line ++ origin)) more rest)
      ∙ line_cut _ (line_text line) _ (more ++ rest) (wide_line _ (wide_docker_line live _ day _ good (from_docker live _ day _ origin come.0)))
      (plain_origin _ place _ line _ good come.0)
      ∙ ap (λ bytes. ended (line_text line) ++ bytes) (lines_cut lines _ come.1 rest)
      ∙ sym (append_assoc (ended (line_text line)) (flat_map (λ it. ended (line_text it)) lines) (first_columns 56 rest))
  lines_cut lines origins come rest = absurd come

  -- the first 56 columns of a detailed docker are the docker
  pub docker_in_details : (text : List ℕ) → IsTiploc place → IsDetailedText live place day text → IsDockerText live place day (first_columns 56 text)
  docker_in_details text tiploc is =
      (is.lines, is.docker, ap (first_columns 56) is.text_is ∙ whole (heading live place day) (wide_heading live place day good tiploc))
    where
      middle : List ℕ
      middle = flat_map (λ (it : DockerLine × List ℕ). ended (detailed_line it)) (zip is.lines is.origins)

      whole : (front : List ℕ) → IsWide 56 front
          → first_columns 56 ((ended (padded front) ++ middle) ++ ended (padded last_line))
          ≡ (ended front ++ flat_map (λ line. ended (line_text line)) is.lines) ++ ended last_line
      whole front wide =
          ap (first_columns 56) (append_assoc (ended (padded front)) middle (ended (padded last_line)))
          ∙ line_cut 56 front (spaces 427) (middle ++ ended (padded last_line)) wide (wide_spaces 427).plain
          ∙ ap (λ bytes. ended front ++ bytes) (search (rules, lines_cut))
          ∙ sym (append_assoc (ended front) (flat_map (λ line. ended (line_text line)) is.lines) (ended last_line))

  -- ---- the width of a detailed docker

  module _ (fits : (line : DockerLine) → IsDockerLine live place day line → line.number < 10 ^ 10) where
    -- each detailed line has 483 columns
    wide_detailed : (lines : List DockerLine) (origins : List (List ℕ)) → AllZip (IsOrigin live place day) lines origins
        → AllByRecursion (IsWide 483) (map (λ (line : DockerLine × List ℕ). detailed_line line) (zip lines origins))
    wide_detailed [] [] come = tt
    wide_detailed (line ∷ lines) (origin ∷ origins) come =
        let is = from_docker live place day line origin come.0 in (
          wide_append (wide_line line (wide_docker_line live place day line good is)) (wide_origin_of live place day line origin good come.0 (fits line is)),
          wide_detailed lines origins come.1,
        )
    wide_detailed lines origins come = absurd come

    -- each line of a detailed docker has 483 columns
    pub width_of_details : (text : List ℕ) → IsTiploc place → IsDetailedText live place day text → HasWidth 483 text
    width_of_details text tiploc is = record {
      lines = every;
      wide = All-from_recursion (λ l. length l ≡ 483) every (all_weaker (IsWide 483) (λ l. length l ≡ 483) (λ l w. w.long) every wide);
      plain = All-from_recursion IsPlain every (all_weaker (IsWide 483) IsPlain (λ l w. w.plain) every wide);
      text_is = is.text_is ∙ whole (padded (heading live place day)) (zip is.lines is.origins);
    }
      where
        middle : List (List ℕ)
        middle = map (λ (line : DockerLine × List ℕ). detailed_line line) (zip is.lines is.origins)

        every : List (List ℕ)
        every = (padded (heading live place day) ∷ middle) ++ padded last_line ∷ []

        wide : AllByRecursion (IsWide 483) every
        wide =
            all_append (IsWide 483) (padded (heading live place day) ∷ middle) (padded last_line ∷ [])
            (wide_append (wide_heading live place day good tiploc) (wide_spaces 427), wide_detailed is.lines is.origins is.come_from)
            (wide_append wide_last (wide_spaces 427), tt)

        inner : (pairs : List (DockerLine × List ℕ))
            → flat_map (λ (line : DockerLine × List ℕ). ended (detailed_line line)) pairs
            ≡ flat_map ended (map (λ (line : DockerLine × List ℕ). detailed_line line) pairs)
        inner [] = refl
        inner (pair ∷ pairs) = ap (λ bytes. ended (detailed_line pair) ++ bytes) (inner pairs)

        whole : (front : List ℕ) (pairs : List (DockerLine × List ℕ))
            → (ended front ++ flat_map (λ (line : DockerLine × List ℕ). ended (detailed_line line)) pairs) ++ ended (padded last_line)
            ≡ flat_map ended ((front ∷ map (λ (line : DockerLine × List ℕ). detailed_line line) pairs) ++ padded last_line ∷ [])
        whole = search (rules, inner, append-nil, flat_map-append)
