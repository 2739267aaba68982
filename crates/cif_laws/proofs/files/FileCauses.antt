-- The cause of the fault at a record, computed from the `Place` that a reader has reached just
-- before this record. A text that isn't the text of a file has a fault.
use Rattle.cif_laws.proofs.Common.{◌≡◌, refl, true, ◌∷◌, Some, None, ℕ, ◌+◌, List, ◌++◌, sym, ◌∙◌, false, cond, ◌⊎◌, inl, inr, rules, [], common_steps}
use Rattle.cif_laws.proofs.Common.{Contains, ap, subst, ◌<◌, ◌≤◌, length, arith, eqb-true, append_assoc, append-nil, length-append, Option, is_some, nat_le}
use Rattle.cif_laws.proofs.Common.{is_none, flat_map, AllByRecursion, cases_lt, leb-false, leb-true, Contains-append_right, All-from_recursion, Lines, trailer}
use Rattle.cif_laws.proofs.Common.{HasKind, kind_of, Kind, basic_schedule, IsRecord, leftmost_bad_byte, HasGoodFields, leftmost_bad_field, is_deletion}
use Rattle.cif_laws.proofs.Common.{midnights, IsFile, follows_basic, AreExtraDetails, first_record, lines_of, FileCause, bad_kind, bad_place, bad_field}
use Rattle.cif_laws.proofs.Common.{third_midnight, no_end, cause_rank, HoldsOf, IsCause, IsRecordFault, FileFault, IsFileFault, IsFileText}
use Rattle.std.specs.Prelude.{Any}
use Rattle.std.proofs.lemmas.Bool.{eqb-false}
use Rattle.docker_model.specs.file.FileFault.{EndsInSchedule, HasThirdFall}
use Rattle.docker_model.specs.file.FileFault.{IsOutOfPlace}
use Rattle.docker_model.specs.file.FileFault.{IsUnended}
use Rattle.cif_laws.specs.RecordTest.{has_good_fields}
use Rattle.cif_laws.specs.ScheduleStage.{Stage, is_sound_next}
use Rattle.cif_laws.specs.FileStage.{Place, after_end, next_place, place_from, before_header, in_schedule}
use Rattle.cif_laws.specs.FileStage.{place_by_kind, is_sound_at, IsPlaceOf, place_at}
use Rattle.cif_laws.specs.RecordCause.{is_after_end, with_column, cause_of, place_cause, length_cause, field_cause, end_cause, byte_cause, kind_cause}
use Rattle.cif_laws.proofs.lists.Membership.{Contains-cons, nil-Contains, cons-Contains-first}
use Rattle.cif_laws.proofs.lists.AllOf.{all_weaker, all_append}
use Rattle.cif_laws.proofs.files.GoodChanges.{Follows, follows_by, journey_follows}
use Rattle.cif_laws.proofs.lists.BoolsAndOptions.{then_some, test_by_none, some_by_test, when_unsound, cond_false}
use Rattle.cif_laws.proofs.lists.Decisions.{Decided, decided_along}
use Rattle.cif_laws.proofs.records.RecordTests.{record_iff_test, printable_by_none}
use Rattle.cif_laws.proofs.schedules.ScheduleStages.{HasShape, details_of, midnights_of_journey, witness, witness_kind, unsound_by}
use Rattle.cif_laws.proofs.files.FileStages.{next_by_test, stage_stops, IsWithin, IsAt, next_at, at_of_place, witness_next, at_begins}
use Rattle.cif_laws.proofs.files.FileStages.{begins_iff_place, file_iff_place, place_of_more, begins_next_iff, one_place}

-- ---- records that include a trailer lead the reader to `after_end`

end_or_not : (place : Place) → (place ≡ after_end) ⊎ (is_after_end place ≡ false)
end_or_not = search rules

end_stays : (rest : Lines) (final : Place) → place_from after_end rest ≡ Some final → final ≡ after_end
end_stays [] final found = cc
end_stays (line ∷ rest) final found =
    let step = then_some (λ next. place_from next rest) (next_place after_end line) final found in
    let none : None ≡ Some step.0 = (next_by_test after_end line step.0 step.1).place_is in cc

trailer_place : (place next : Place) (line : List ℕ) → place_by_kind place (Some trailer) line ≡ Some next → next ≡ after_end
trailer_place = search (rules, stage_stops)

-- records that include a trailer can't lead the reader to any `Place` other than `after_end`
trailer_leads : (records : Lines) (place final : Place) (line : List ℕ) → place_from place records ≡ Some final → Contains records line → HasKind trailer line
    → final ≡ after_end
trailer_leads [] place final line found among kind = absurd (nil-Contains line among)
trailer_leads (first ∷ rest) place final line found among kind =
    let step = then_some (λ next. place_from next rest) (next_place place first) final found in
    elim (Contains-cons first rest line among) [
      | inl same ↦
          let told = (next_by_test place first step.0 step.1).place_is in
          let reached = trailer_place place step.0 first ((λ i. place_by_kind place (sym (ap kind_of same ∙ kind) i) first) ∙ told) in
          end_stays rest final (ap (λ p. place_from p rest) (sym reached) ∙ step.2)
      | inr inside ↦ trailer_leads rest step.0 final line step.2 inside kind
    ]

-- one of the records of a file is a trailer
trailer_among : (records : Lines) → IsFile records → Any (HasKind trailer) records
trailer_among records is = subst (λ r. Any (HasKind trailer) r) (sym is.whole)
    (let among = Contains-append_right (is.first ∷ flat_map (λ unit. unit) is.units) (is.last ∷ []) is.last (cons-Contains-first _ []) in
    (among.0, is.last, among.1, among.2, is.trailer_kind))

-- ---- which kinds of record are allowed at a `Place`

-- whether a record is allowed at a `Place` depends only on the record's kind
pub same_place_by_kind : (place : Place) (kind : Option Kind) (first second : List ℕ) → is_some (place_by_kind place kind first) ≡ is_some
    (place_by_kind place kind second)
same_place_by_kind = search rules

-- ---- which record makes a schedule pass midnight a third time

no_basic : (line : List ℕ) → Follows line → ¬ HasKind basic_schedule line
no_basic line follows basic = let bad : false ≡ true = sym (ap follows_basic basic) ∙ follows in cc

shape_follows : (stage : Stage) (extra journey : Lines) → HasShape stage extra journey → AllByRecursion Follows journey
shape_follows = search (rules, follows_by, all_weaker, journey_follows)

details_follow : (extra : Lines) → AreExtraDetails extra → AllByRecursion Follows extra
details_follow = search (rules, follows_by)

-- if records end with an incomplete schedule, its lines are the last schedule among these records
pub ends_in_schedule : (stage : Stage) (lines records : Lines) → IsWithin stage lines records → EndsInSchedule records lines
ends_in_schedule = search (rules, All-from_recursion, all_weaker, no_basic, all_append, details_follow, details_of, shape_follows)

-- if a record has good fields but fails the test `is_sound_next`, its schedule passes midnight for
-- the third time at this record
third_fall : (stage : Stage) (lines records : Lines) (line : List ℕ) → IsWithin stage lines records → HasGoodFields line → is_sound_next lines line ≡ false
    → HasThirdFall records line
third_fall stage lines records line within fields test =
    elim (unsound_by (is_deletion (first_record lines)) (leftmost_bad_field line) (nat_le (midnights (lines ++ line ∷ [])) 2) test) [
      | inl field ↦ let bad : None ≡ Some field.0 = sym fields ∙ field.1 in cc
      | inr many ↦ (
        lines,
        ends_in_schedule stage _ records within,
        search (rules, midnights_of_journey, details_of),
        leb-false (midnights (lines ++ line ∷ [])) 2 many.1,
      )
    ]

-- ---- `cause_of` is the cause of the fault at a record

module _ (limit : ℕ) (earlier : Lines) (place : Place) (line : List ℕ) (found : IsPlaceOf earlier place) where
  at : IsAt place earlier
  at = at_of_place earlier place found

  -- if the conditions of all causes with a rank below `rank` are false, none of these causes
  -- applies
  none_below : (rank : ℕ) → rank ≤ 7 → (0 < rank → ¬ (limit ≤ length earlier)) → (1 < rank → ¬ Any (HasKind trailer) earlier) → (2 < rank → length line ≡ 80)
      → (3 < rank → leftmost_bad_byte line ≡ None) → (4 < rank → ¬ (kind_of line ≡ None)) → (5 < rank → ¬ IsOutOfPlace earlier line)
      → (6 < rank → leftmost_bad_field line ≡ None)
      → (other : FileCause) → cause_rank other < rank → ¬ HoldsOf limit earlier line other
  none_below = search rules

  -- if the kind of a record isn't allowed at the `Place`, the record is out of place
  pub out_of_place : place_by_kind place (kind_of line) line ≡ None → IsOutOfPlace earlier line
  out_of_place none next same begins =
      let told = (begins_next_iff earlier place next found).0 begins in
      let some : is_some (place_by_kind place (kind_of line) next) ≡ true = search (rules, told.1.place_is) in
      let bad : false ≡ true = (λ i. is_some (sym none i)) ∙ same_place_by_kind place (kind_of line) line next ∙ some in cc

  -- if the kind of a record is allowed at the `Place`, the record isn't out of place
  pub in_place : (next : Place) → ¬ (kind_of line ≡ None) → place_by_kind place (kind_of line) line ≡ Some next → ¬ IsOutOfPlace earlier line
  in_place next known told out = (elim (kind_of line) as (λ kind. kind_of line ≡ kind → ⊥) [
    | None ↦ λ h. known h
    | Some kind ↦ λ h. let some : is_some (place_by_kind place (Some kind) (witness kind)) ≡ true =
        same_place_by_kind _ (Some kind) _ line ∙ (λ i. is_some (place_by_kind place (sym h i) line)) ∙ ap is_some told in
        let there = some_by_test _ some in
        out (witness kind) (witness_kind kind ∙ sym h) (at_begins _ (earlier ++ witness kind ∷ [])
        (next_at _ earlier _ there.0 at (witness_next _ earlier _ there.0 at there.1)))
  ]) refl

  -- suppose that a record has good fields, and that its kind is allowed at the reader's `Place`. If
  -- the record still leads to no next `Place`, its schedule passes midnight for the third time at
  -- this record
  third : (next : Place) → IsRecord line → place_by_kind place (kind_of line) line ≡ Some next → HasGoodFields line → next_place place line ≡ None
      → HasThirdFall earlier line
  third next is told fields nowhere =
      by place at (when_unsound _ (is_sound_at place line) _ next nowhere ((record_iff_test line).0 is) told)
    where
      good : has_good_fields line ≡ true
      good = test_by_none (leftmost_bad_field line) fields

      by : (p : Place) → IsAt p earlier → is_sound_at p line ≡ false → HasThirdFall earlier line
      by (in_schedule stage lines) here test = third_fall stage lines earlier line here fields (cond_false _ _ _ test good)
      by _ here test = let bad : true ≡ false = sym good ∙ test in cc

  -- suppose that a record leads to no next `Place`, although the limit isn't reached and no earlier
  -- record is a trailer. Suppose also that the record has 80 printable bytes and a known kind that
  -- is allowed at the `Place`. Then the cause of the fault is `field_cause`. The lemmas below treat
  -- the other causes, from the highest rank to the lowest
  field_is : ¬ (limit ≤ length earlier) → ¬ Any (HasKind trailer) earlier → length line ≡ 80 → leftmost_bad_byte line ≡ None → ¬ (kind_of line ≡ None)
      → (next : Place) → place_by_kind place (kind_of line) line ≡ Some next → next_place place line ≡ None → IsCause limit earlier line (field_cause line)
  field_is r0 r1 r2 r3 r4 next told nowhere = by (leftmost_bad_field line) refl
    where
      by : (bad : Option ℕ) → leftmost_bad_field line ≡ bad → IsCause limit earlier line (with_column bad_field bad third_midnight)
      by (Some column) h = search (rules, none_below, in_place)
      by None h = search (rules, third, printable_by_none, none_below, in_place)

  place_is : ¬ (limit ≤ length earlier) → ¬ Any (HasKind trailer) earlier → length line ≡ 80 → leftmost_bad_byte line ≡ None → ¬ (kind_of line ≡ None)
      → next_place place line ≡ None → IsCause limit earlier line (place_cause place line)
  place_is r0 r1 r2 r3 r4 nowhere = by (place_by_kind place (kind_of line) line) refl
    where
      by : (reached : Option Place) → place_by_kind place (kind_of line) line ≡ reached
          → IsCause limit earlier line (cond (is_none reached) bad_place (field_cause line))
      by None h = search (rules, out_of_place, none_below)
      by (Some next) h = field_is r0 r1 r2 r3 r4 next h nowhere

  kind_is : ¬ (limit ≤ length earlier) → ¬ Any (HasKind trailer) earlier → length line ≡ 80 → leftmost_bad_byte line ≡ None → next_place place line ≡ None
      → IsCause limit earlier line (kind_cause place line)
  kind_is r0 r1 r2 r3 nowhere = by (kind_of line) refl
    where
      by : (kind : Option Kind) → kind_of line ≡ kind → IsCause limit earlier line (cond (is_none kind) bad_kind (place_cause place line))
      by None h = search (rules, none_below)
      by (Some kind) h = place_is r0 r1 r2 r3 (λ none. let bad : None ≡ Some kind = sym none ∙ h in cc) nowhere

  byte_is : ¬ (limit ≤ length earlier) → ¬ Any (HasKind trailer) earlier → length line ≡ 80 → next_place place line ≡ None
      → IsCause limit earlier line (byte_cause place line)
  byte_is = grind (common_steps, arith, none_below, kind_is)

  length_is : ¬ (limit ≤ length earlier) → ¬ Any (HasKind trailer) earlier → next_place place line ≡ None → IsCause limit earlier line (length_cause place line)
  length_is = grind (common_steps, arith, byte_is, eqb-true, eqb-false, none_below)

  end_is : ¬ (limit ≤ length earlier) → next_place place line ≡ None → IsCause limit earlier line (end_cause place line)
  end_is r0 nowhere = elim (end_or_not place) [
    | inl end ↦ subst (λ p. IsCause limit earlier line (end_cause p line)) (sym end)
        (record { holds = trailer_among _ ((file_iff_place _).1 (found ∙ ap Some end)); first = search (rules, none_below) })
    | inr open_end ↦ rw open_end (length_is r0 (search (rules, trailer_leads)) nowhere)
  ]

  -- the cause computed from the reader's `Place` is the cause of the fault at the record
  pub cause_is : (limit ≤ length earlier) ⊎ (next_place place line ≡ None) → IsCause limit earlier line (cause_of limit (length earlier) place line)
  cause_is = grind (common_steps, arith, leb-true, leb-false, end_is)

  -- the record at fault is the first record that leads the reader to no next `Place` or is beyond
  -- the limit
  pub record_fault : (records later : Lines) → records ≡ earlier ++ line ∷ later → length earlier ≤ limit → (limit ≤ length earlier)
      ⊎ (next_place place line ≡ None)
      → IsRecordFault limit records (record { number = length earlier + 1; cause = cause_of limit (length earlier) place line })
  record_fault records later whole within here = record {
    earlier = earlier;
    line = line;
    later = later;
    whole = whole;
    number = refl;
    earlier_within = within;
    earlier_begin = at_begins place earlier at;
    here = elim here [
      | inl over ↦ inl over
      | inr nowhere ↦ inr (λ begins.
          let reached = (begins_iff_place (earlier ++ line ∷ [])).0 begins in
          let bad : None ≡ Some reached.0 = sym nowhere ∙ sym (place_of_more earlier place line found) ∙ reached.1 in cc)
    ];
    cause = cause_is here;
  }

-- if records within the limit lead the reader to a `Place` other than `after_end`, their fault is
-- `no_end`
pub no_end_behind : (limit : ℕ) (records : Lines) (place : Place) → IsPlaceOf records place → is_after_end place ≡ false → length records ≤ limit
    → IsUnended limit records (record { number = length records + 1; cause = no_end })
no_end_behind limit records place found open_end within = record {
  within = within;
  begin = at_begins place records (at_of_place records place found);
  unended =
      λ is. let same = one_place records after_end place ((file_iff_place records).0 is) found in let bad : true ≡ false = ap is_after_end same ∙ open_end in
      cc;
  number = refl;
  cause = refl;
}

-- ---- a text is the text of a file, or has a fault

-- no record is at fault: the records are within the limit and lead the reader to a `Place`
abbrev pub Pass : ℕ → Lines → Type 0
Pass limit records = (place : Place) × IsPlaceOf records place × (length records ≤ limit)

-- one of the records is at fault
abbrev pub HasRecordFault : ℕ → Lines → Type 0
HasRecordFault limit records = (fault : FileFault) × IsRecordFault limit records fault

pass_from : (rest : Lines) (limit : ℕ) (records earlier : Lines) (place : Place) → IsPlaceOf earlier place → length earlier ≤ limit → records ≡ earlier ++ rest
    → Pass limit records ⊎ HasRecordFault limit records
pass_from [] limit records earlier place found within whole = inl (subst (Pass limit) (sym (whole ∙ append-nil earlier)) (place, found, within))
pass_from (line ∷ rest) limit records earlier place found within whole =
    let fault : (limit ≤ length earlier) ⊎ (next_place place line ≡ None) → HasRecordFault limit records =
    λ here. (
      record { number = length earlier + 1; cause = cause_of limit (length earlier) place line },
      record_fault limit earlier place line found records rest whole within here,
    ) in
    elim (cases_lt (length earlier) limit) [
      | inr over ↦ inr (fault (inl over))
      | inl under ↦ (elim (next_place place line) as (λ reached. next_place place line ≡ reached → Pass limit records ⊎ HasRecordFault limit records) [
        | None ↦ λ told. inr (fault (inr told))
        | Some next ↦ λ told. pass_from rest limit records (earlier ++ line ∷ []) next (place_of_more earlier place line found ∙ told)
            (let size = length-append earlier (line ∷ []) in omega arith) (whole ∙ sym (append_assoc earlier (line ∷ []) rest))
      ]) refl
    ]

-- no record is at fault, or one of the records is at fault
pub pass_or_fault : (limit : ℕ) (records : Lines) → Pass limit records ⊎ HasRecordFault limit records
pass_or_fault limit records = pass_from records limit records [] before_header refl (omega arith) refl

-- a text is the text of a file within the limit, or it has a fault
pub file_or_fault : (limit : ℕ) (text : List ℕ) → ((file : Lines) × IsFileText limit text file) ⊎ ((fault : FileFault) × IsFileFault limit text fault)
file_or_fault limit text = elim (pass_or_fault limit (lines_of text)) [
  | inr fault ↦ inr (fault.0, inl fault.1)
  | inl pass ↦ elim (end_or_not pass.0) [
    | inl end ↦ inl (lines_of text, record { lines = refl; is = (file_iff_place (lines_of text)).1 (pass.1 ∙ ap Some end); within = pass.2 })
    | inr open_end ↦
        inr (record { number = length (lines_of text) + 1; cause = no_end }, inr (no_end_behind limit (lines_of text) pass.0 pass.1 open_end pass.2))
  ]
]

ended_decided : (found : Option Place) → Decided (found ≡ Some after_end)
ended_decided = search rules

-- it is decidable whether records are a file
pub file_or_not : (records : Lines) → IsFile records ⊎ ¬ IsFile records
file_or_not records = decided_along (file_iff_place records).1 (file_iff_place records).0 (ended_decided (place_at records))
