-- Each line of a detailed docker has the width of its docker line in front, and no line feed. So the
-- first 56 columns of the lines are the docker.
use Rattle.cif_laws.proofs.Common.{◌≡◌, ℕ, ◌≤◌, List, [], ◌∷◌, ◌++◌, Contains, refl, ap, sym, ◌∙◌, subst, inl, inr, true, false, true≢false, Some, None}
use Rattle.cif_laws.proofs.Common.{append-nil, arith, rules, Option, codes, find, filter, take, All-contains, All-from_recursion, Contains-append_right}
use Rattle.cif_laws.proofs.Common.{columns, column, kind_of, is_printable, IsRecord, origin_location, terminating_location, IsJourney, first_record, Key}
use Rattle.cif_laws.proofs.Common.{tiploc_key, association_key, schedule_key, ScheduleKey, association_body, schedule_body, HasGoodBodies, IsScheduleOf}
use Rattle.cif_laws.proofs.Common.{IsAssociationOf, Table, Event, events_of, event_line, event_identity, changed_identity, has_identity, DockerLine}
use Rattle.cif_laws.proofs.Common.{line_of_event, tiploc_of_first, IsIdentityOn, IsPartnerIdentity, partner_start}
use Rattle.std.specs.Prelude.{unwrap_or}
use Rattle.std.specs.List.{last_or}
use Rattle.std.proofs.lemmas.List.Elements.{All-take}
use Rattle.cif_laws.proofs.lists.Membership.{cons-Contains, cons-Contains-first}
use Rattle.cif_laws.proofs.lists.FilteredMembers.{filter_back, find_some, find_none}
use Rattle.cif_laws.proofs.lists.BoolsAndOptions.{none_some}
use Rattle.cif_laws.proofs.records.RecordIdentity.{has_identity_is}
use Rattle.docker_laws.specs.Gathering.{IsDockerLine}
use Rattle.docker_laws.proofs.dockers.Events.{at_a_line}
use Rattle.docker_laws.proofs.dockers.OneDockerLine.{first_event_is}
use Rattle.docker_laws.proofs.dockers.WideParts.{IsWide, HasWideFields, wide_append, wide_text, wide_spaces, wide_columns, low_column, wide_platform}
use Rattle.docker_laws.proofs.dockers.WideParts.{wide_track, wide_path, wide_public}

-- ---- the records of a schedule

-- the UID of a schedule's key. Any other key has none
abbrev uid_in : Key → List ℕ
uid_in (schedule_key key) = key.uid
uid_in _ = []

-- the STP indicator of a key. The key of a TIPLOC has none
abbrev indicator_in : Key → ℕ
indicator_in (schedule_key key) = key.indicator
indicator_in (association_key key) = key.indicator
indicator_in (tiploc_key code) = 0

-- the UID of the associated train in the key of an association. Any other key has none
abbrev associated_in : Key → List ℕ
associated_in (association_key key) = key.associated
associated_in _ = []

-- if a list has a last element or the option is one, the element has a property that all of them have
last_holds : {A : Type 0} (P : A → Type 0) (o : Option A) (xs : List A) → ((x : A) → o ≡ Some x → P x) → ((x : A) → Contains xs x → P x) → (x : A)
    → last_or o xs ≡ Some x → P x
last_holds P o [] first rest x is = first x is
last_holds {A} P o (y ∷ ys) first rest x is =
    last_holds P (Some y) ys (λ z same. let e : y ≡ z = cc in subst P e (rest y (cons-Contains-first y ys)))
    (λ z among. rest z (cons-Contains y ys z among)) x is

module _ (key : ScheduleKey) (lines : List (List ℕ)) (of : IsScheduleOf key lines) where
  pub each_record : (line : List ℕ) → Contains lines line → IsRecord line
  each_record line among = All-contains IsRecord lines line of.schedule.records among

  first_among : Contains lines (first_record lines)
  first_among = search (rules, cons-Contains-first)

  pub first_good : IsRecord (first_record lines)
  first_good = each_record (first_record lines) first_among

  uid_wide : IsWide 6 key.uid
  uid_wide = subst (IsWide 6) (ap uid_in of.key_is) (wide_columns (first_record lines) 4 9 first_good (omega arith) (omega arith))

  indicator_low : 32 ≤ key.indicator
  indicator_low = subst (λ b. 32 ≤ b) (ap indicator_in of.key_is) (low_column (first_record lines) 80 first_good (omega arith))

  -- ---- the change en route that is in force at an event

  pub change_good : (event : Event) (line : List ℕ)
      → last_or None (filter (λ l. has_identity (codes "CR") l) (take event.place lines)) ≡ Some line → IsRecord line
  change_good event line is = last_holds IsRecord _ (filter (λ l. has_identity (codes "CR") l) (take event.place lines)) (λ x same. none_some _ same)
      (λ x among. All-contains IsRecord (take event.place lines) x (All-take IsRecord event.place lines of.schedule.records)
      (filter_back (λ l. has_identity (codes "CR") l) _ x among).0) _ is

  identity_wide : (event : Event) → IsWide 4 (event_identity lines event)
  identity_wide event = by (last_or None (filter (λ l. has_identity (codes "CR") l) (take event.place lines))) refl
    where
      by : (found : Option (List ℕ)) → last_or None (filter (λ l. has_identity (codes "CR") l) (take event.place lines)) ≡ found
          → IsWide 4 (changed_identity found (first_record lines))
      by None h = wide_columns (first_record lines) 33 36 first_good (omega arith) (omega arith)
      by (Some change) h = wide_columns change 13 16 (change_good event change h) (omega arith) (omega arith)

  -- ---- the origin and the destination of a train

  tiploc_wide : (identity line : List ℕ) → Contains lines line → has_identity identity line ≡ true → IsWide 7 (tiploc_of_first identity lines)
  tiploc_wide identity line among test = by (find (λ l. has_identity identity l) lines) refl
    where
      by : (found : Option (List ℕ)) → find (λ l. has_identity identity l) lines ≡ found → IsWide 7 (columns 3 9 (unwrap_or found []))
      by None h =
          let fails : has_identity identity line ≡ false = find_none (λ l. has_identity identity l) lines line h among in
          absurd (true≢false (sym test ∙ fails))
      by (Some there) h =
          wide_columns there 3 9 (each_record there (find_some (λ l. has_identity identity l) lines there h).0) (omega arith) (omega arith)

  module _ (event : Event) (among : Contains (events_of lines) event) where
    at_good : IsRecord (event_line lines event)
    at_good = each_record (event_line lines event) (at_a_line lines event among).among

    -- a schedule with an event has a journey
    has_journey : IsJourney of.schedule.journey
    has_journey = elim of.schedule.journey_or_none [
      | inl journey ↦ journey
      | inr none ↦
          let whole : lines ≡ of.schedule.basic ∷ (of.schedule.extra ++ []) =
          of.schedule.whole ∙ ap (λ ls. of.schedule.basic ∷ (of.schedule.extra ++ ls)) none.0 in
          let all : lines ≡ of.schedule.basic ∷ of.schedule.extra = whole ∙ ap (λ ls. of.schedule.basic ∷ ls) (append-nil of.schedule.extra) in
          absurd (search (rules, at_a_line))
    ]

    in_journey : (line : List ℕ) → Contains of.schedule.journey line → Contains lines line
    in_journey line inside = subst (λ ls. Contains ls line) (sym of.schedule.whole) (cons-Contains _ _ _
        (Contains-append_right of.schedule.extra of.schedule.journey line inside))

    origin_wide : IsWide 7 (tiploc_of_first (codes "LO") lines)
    origin_wide =
        let journey = has_journey in
        tiploc_wide _ journey.first (in_journey _ (subst (λ ls. Contains ls journey.first) (sym journey.whole) (cons-Contains-first journey.first _)))
        (has_identity_is origin_location _ journey.first journey.origin)

    destination_wide : IsWide 7 (tiploc_of_first (codes "LT") lines)
    destination_wide =
        let journey = has_journey in
        tiploc_wide (codes "LT") journey.last
        (in_journey journey.last (subst (λ ls. Contains ls journey.last) (sym journey.whole)
        (cons-Contains journey.first (journey.between ++ journey.last ∷ []) journey.last
        (Contains-append_right journey.between (journey.last ∷ []) journey.last (cons-Contains-first journey.last [])))))
        (has_identity_is terminating_location (codes "LT") journey.last journey.terminus)

    -- the line of an event has its widths
    pub wide_event_line : (start : ℕ) → HasWideFields (line_of_event key start lines event)
    wide_event_line start = record {
      identity = identity_wide event;
      uid = uid_wide;
      indicator = indicator_low;
      suffix = low_column (event_line lines event) 10 at_good (omega arith);
      platform = wide_platform (kind_of (event_line lines event)) (event_line lines event) at_good;
      track = wide_track (kind_of (event_line lines event)) (event_line lines event) at_good;
      path = wide_path (kind_of (event_line lines event)) (event_line lines event) at_good;
      public_time = wide_public (kind_of (event_line lines event)) event.occasion (event_line lines event) at_good;
      detail = wide_append (wide_append origin_wide (wide_spaces 1)) destination_wide;
    }

-- ---- the line of an association

wide_unknown : IsWide 4 (codes "????")
wide_unknown = wide_text 4 (codes "????") (refl, All-from_recursion (λ b. is_printable b ≡ true) (codes "????") (refl, (refl, (refl, (refl, tt)))))

wide_partner_on : (live : Table) → HasGoodBodies live → (uid identity : List ℕ) (day : ℕ) → IsIdentityOn live uid identity day → IsWide 4 identity
wide_partner_on live good uid identity day (inl (key, lines, runs, is)) =
    let of : IsScheduleOf key lines = good (schedule_key key) (schedule_body lines) runs.chosen.running.is_live in
    subst (IsWide 4) (sym is) (wide_columns (first_record lines) 33 36 (first_good key lines of) (omega arith) (omega arith))
wide_partner_on live good uid identity day (inr (none, is)) = subst (IsWide 4) (sym is) wide_unknown

wide_partner : (live : Table) → HasGoodBodies live → (uid identity : List ℕ) (day : Option ℕ) → IsPartnerIdentity live uid day identity → IsWide 4 identity
wide_partner live good uid identity None is = subst (IsWide 4) (sym is) wide_unknown
wide_partner live good uid identity (Some day) is = wide_partner_on live good uid identity day is

-- each docker line has its widths
pub wide_docker_line : (live : Table) (place : List ℕ) (day : ℕ) (line : DockerLine) → HasGoodBodies live
    → IsDockerLine live place day line → HasWideFields line
wide_docker_line live place day line good (inl is) =
    let of : IsScheduleOf is.key is.schedule = good (schedule_key is.key) (schedule_body is.schedule) is.train_runs.chosen.running.is_live in
    subst HasWideFields (sym is.is) (wide_event_line is.key is.schedule of is.event is.among is.start)
wide_docker_line live place day line good (inr is) =
    let of : IsScheduleOf is.base_key is.base = good (schedule_key is.base_key) (schedule_body is.base) is.base_runs.chosen.running.is_live in
    let link : IsAssociationOf is.key is.association = good (association_key is.key) (association_body is.association) is.chosen.associated.is_live in
    let among = (first_event_is is.base is.key.location is.key.suffix is.event is.first_there).0 in
    let at : IsRecord (event_line is.base is.event) = at_good is.base_key is.base of is.event among in
    let associated : IsWide 6 is.key.associated =
    subst (IsWide 6) (ap associated_in link.key_is) (wide_columns is.association 10 15 link.is_record (omega arith) (omega arith)) in
    let indicator : 32 ≤ is.key.indicator =
    subst (λ b. 32 ≤ b) (ap indicator_in link.key_is) (low_column is.association 80 link.is_record (omega arith)) in
    let identity = wide_partner live good is.key.associated is.identity (partner_start (column 37 is.association) is.start) is.partner in
    subst HasWideFields (sym is.is) (record {
      identity = identity_wide is.base_key is.base of is.event;
      uid = uid_wide is.base_key is.base of;
      indicator = indicator;
      suffix = low_column (event_line is.base is.event) 10 at (omega arith);
      platform = wide_platform (kind_of (event_line is.base is.event)) (event_line is.base is.event) at;
      track = wide_spaces 3;
      path = wide_spaces 3;
      public_time = wide_spaces 4;
      detail = wide_append (wide_append (wide_append associated (wide_spaces 2)) identity) (wide_spaces 3);
    })
