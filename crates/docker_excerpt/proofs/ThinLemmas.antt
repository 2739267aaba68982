-- Lemmas on why the changes that are kept are enough for the docker of one place on one day. The thin form of a change (`thin_change`) has only what this
-- docker needs.
use Rattle.cif_laws.proofs.Common.{◌≡◌, ℕ, ◌∙◌, inl, inr, Bool, true, false, cond, List, [], ◌∷◌, ◌++◌, rules, common_steps, map, subst, ap, sym, Some, arith}
use Rattle.cif_laws.proofs.Common.{append_assoc, Vec, map-append, Option, ◌⊎◌, ◌||◌, ◌&&◌, not, slice_get, Contains-append_cases, is_deletion, as_new}
use Rattle.cif_laws.proofs.Common.{IsSchedule, first_record, calls_at, Change, schedule_body, delete, put}
use Rattle.std.specs.BTreeSet as set
use Rattle.std.specs.BTreeSet.{BTreeSet}
use Rattle.cif_laws.proofs.lists.Membership.{nil-Contains, Contains-single, same_members_turned, same_members_rotated}
use Rattle.docker_laws.specs.NearDay.{runs_near, may_reach}
use Rattle.docker_laws.specs.Thinning.{may_matter, thin_act, thin_change, thin_lines, lines_for, IsThinning}
use Rattle.docker_laws.proofs.dockers.ThinChanges.{thinning_at_first, thinning_kept, thinning_dropped, thinning_elsewhere, act_far, near_of_new}
use Rattle.cif_change.specs.declared.change.Change as code
use Rattle.cif_change.specs.declared.key.ScheduleKey.{ScheduleKey}
use Rattle.cif_change.specs.declared.key.Key.TheVariants as key
use Rattle.cif_change.specs.JourneyRead.{progress_meant, HasLines}
use Rattle.cif_change.specs.Meaning.{change_meant, key_meant}
use Rattle.cif_change.proofs.SameKeys.{same_key}
use Rattle.cif_file.specs.declared.keeper.opened.Opened.{Opened}
use Rattle.docker_excerpt.specs.declared.thinned.Thinned.{Thinned}
use Rattle.docker_excerpt.specs.declared.elsewhere.Elsewhere.{Elsewhere}
use Rattle.docker_excerpt.specs.Elsewhere.{elsewhere_meant, all_kept, HaveSame}
use Rattle.cif_file.specs.KeeperRead.{change_opened, with_new_first}
use Rattle.cif_file.specs.SingleChanges.{listed_after}
use Rattle.docker_excerpt.specs.Midnights.{IsPutSchedule}
use Rattle.docker_excerpt.proofs.MidnightLemmas.{put_of_new}
use Rattle.docker_excerpt.proofs.SameMembers.{more_members}
use Rattle.docker_excerpt.specs.ThinKept.{schedule_cmp, has_key, KnowsMore, HasKeysOf, HasThinned, Thins, ThinsAll, SaysRunsNear}

abbrev Lines : Type 0
Lines = List (List ℕ)

-- ---- the set of the keys of schedules

-- after a key is added to a set, the set has all earlier keys and this key
pub set_knows : (old new : BTreeSet ScheduleKey) (added : ScheduleKey) → set.Updates schedule_cmp old new added true
    → KnowsMore old (key_meant (key.Schedule added)) new
set_knows = grind (common_steps, arith, same_key)

-- after keeping a change and adding its key to the set, the set has the keys of all kept changes
keys_of_more : (old new : BTreeSet ScheduleKey) (added : Change) (kept : List Change) → KnowsMore old added.key new → HasKeysOf old kept
    → HasKeysOf new (kept ++ added ∷ [])
keys_of_more old new added kept more known change among one same = elim (Contains-append_cases kept (added ∷ []) change among) [
  | inl before ↦ more.still one (known change before one same)
  | inr last ↦ more.also one (same ∙ sym (ap (λ (c : Change). c.key) (Contains-single added change last)))
]

-- ---- the kept changes, in any order

module _ (kept front back : List Change) (change : Change) (same : HaveSame kept (front ++ back)) where
  abbrev more : List Change
  more = kept ++ change ∷ []

  -- a change may be appended to the first part of the kept changes
  same_in_front : HaveSame more ((front ++ change ∷ []) ++ back)
  same_in_front other =
      let first = more_members kept (back ++ front) (change ∷ []) (λ x.
      let turned = same_members_turned front back x in (λ among. turned.0 ((same x).0 among), λ among. (same x).1 (turned.1 among))) other in
      let then = same_members_rotated back front (change ∷ []) other in
      (λ among. then.0 (first.0 among), λ among. first.1 (then.1 among))

  -- a change may be appended to the last part of the kept changes
  same_behind : HaveSame more (front ++ (back ++ change ∷ []))
  same_behind = subst (HaveSame more) (append_assoc front back (change ∷ [])) (more_members kept (front ++ back) (change ∷ []) same)

-- Says that one more change was kept.
abbrev pub KeepsMore : List ℕ → Vec code.Change → Vec Elsewhere → Change → Vec code.Change → Vec Elsewhere → Type 0
KeepsMore place made elsewhere change more_made more_elsewhere =
    (kept : List Change) → HaveSame kept (all_kept place made elsewhere) → HaveSame (kept ++ change ∷ []) (all_kept place more_made more_elsewhere)

-- pushing a change keeps it
pub made_pushed : (place : List ℕ) (made : Vec code.Change) (elsewhere : Vec Elsewhere) (change : code.Change) (new : Vec code.Change)
    → new.items ≡ made.items ++ change ∷ [] → KeepsMore place made elsewhere (change_meant change) new elsewhere
made_pushed place made elsewhere change new pushed kept same =
    subst (λ front. HaveSame (kept ++ change_meant change ∷ []) (front ++ map (elsewhere_meant place) elsewhere.items))
    (sym (ap (map change_meant) pushed ∙ map-append change_meant made.items (change ∷ [])))
    (same_in_front kept (map change_meant made.items) (map (elsewhere_meant place) elsewhere.items) (change_meant change) same)

-- pushing a schedule without an event at the place on the day keeps its thin change
pub elsewhere_pushed : (place : List ℕ) (made : Vec code.Change) (elsewhere : Vec Elsewhere) (one : Elsewhere) (new : Vec Elsewhere)
    → new.items ≡ elsewhere.items ++ one ∷ [] → KeepsMore place made elsewhere (elsewhere_meant place one) made new
elsewhere_pushed place made elsewhere one new pushed kept same =
    subst (λ back. HaveSame (kept ++ elsewhere_meant place one ∷ []) (map change_meant made.items ++ back))
    (sym (ap (map (elsewhere_meant place)) pushed ∙ map-append (elsewhere_meant place) elsewhere.items (one ∷ [])))
    (same_behind kept (map change_meant made.items) (map (elsewhere_meant place) elsewhere.items) (elsewhere_meant place one) same)

-- before the first change, no change has to be kept: the empty list is a thinning of the empty list
pub none_thinned : (place : List ℕ) (day : ℕ) (thinned : Thinned) → thinned.place ≡ place → thinned.day ≡ day → thinned.made.items ≡ []
    → thinned.elsewhere.items ≡ [] → HasThinned place day thinned []
none_thinned = search (rules, thinning_at_first, nil-Contains)

module _ (place : List ℕ) (day : ℕ) (old new : Thinned) (whole : Change) where
  -- a change whose key may matter can be kept in its thin form
  pub thin_kept : (change : Change) → new.place ≡ old.place → new.day ≡ old.day → KnowsMore old.keys change.key new.keys
      → KeepsMore place old.made old.elsewhere change new.made new.elsewhere → may_matter place whole.key ≡ true → thin_change place day whole ≡ change
      → Thins place day old whole new
  thin_kept change there dated more keeps matters same all has = record {
    place_is = there ∙ has.place_is;
    day_is = dated ∙ has.day_is;
    kept = has.kept ++ change ∷ [];
    made = keeps has.kept has.made;
    thinning = subst (λ (c : Change). IsThinning place day (all ++ whole ∷ []) (has.kept ++ c ∷ [])) same
        (thinning_kept _ _ _ has.kept whole has.thinning matters);
    known = keys_of_more _ _ _ _ more has.known;
  }

  dropped : new ≡ old → ((all : List Change) (has : HasThinned place day old all) → IsThinning place day (all ++ whole ∷ []) has.kept)
      → Thins place day old whole new
  dropped same thins all has = subst (λ (t : Thinned). HasThinned place day t (all ++ whole ∷ [])) (sym same) (record {
    place_is = has.place_is;
    day_is = has.day_is;
    kept = has.kept;
    made = has.made;
    thinning = thins all has;
    known = has.known;
  })

  -- a change whose key can't matter at the place can be dropped
  pub elsewhere_dropped : new ≡ old → may_matter old.place whole.key ≡ false → Thins place day old whole new
  elsewhere_dropped same apart = dropped same (λ all has.
      thinning_elsewhere place day all has.kept whole has.thinning (ap (λ p. may_matter p whole.key) (sym has.place_is) ∙ apart))

  -- a change whose thin form is a deletion can be dropped if no change to its key was kept
  pub deletion_dropped : (one : ScheduleKey) → new ≡ old → has_key old.keys one ≡ false → whole.key ≡ key_meant (key.Schedule one)
      → thin_act place day whole.act ≡ delete → Thins place day old whole new
  deletion_dropped one same none named deletes = dropped same (λ all has. thinning_dropped place day all has.kept whole has.thinning deletes
      (λ change among is. let bad = has.known change among one (sym named ∙ sym is) in let both : true ≡ false = sym bad ∙ none in cc))

-- ---- the change of a schedule

module _ (place : List ℕ) (day : ℕ) (opened : Opened) (near : Bool) where
  -- unless the schedule is a deletion, setting its transaction to N doesn't change whether it runs near the day
  near_renewed : (basic : List ℕ) (others : Lines) → SaysRunsNear day (basic ∷ others) near → is_deletion basic ≡ false
      → runs_near day (as_new basic) ≡ near
  near_renewed basic others is stays = near_of_new day basic ∙ sym (is stays)

  -- the thin form of a schedule's change is a deletion if the schedule is a deletion or doesn't run near the day
  pub opened_deletes : (lines : Lines) → HasLines (progress_meant opened.progress) lines → IsSchedule lines → SaysRunsNear day lines near
      → ((progress_meant opened.progress).deletion ≡ true) ⊎ (near ≡ false) → thin_act place day (change_opened opened lines).act ≡ delete
  opened_deletes = search (rules, act_far, near_renewed)

  -- if a schedule isn't a deletion and runs near the day, the thin form of its change puts only the
  -- lines that the docker of the place needs
  pub opened_puts : (lines : Lines) → HasLines (progress_meant opened.progress) lines → IsSchedule lines → SaysRunsNear day lines near
      → (progress_meant opened.progress).deletion ≡ false → near ≡ true
      → thin_act place day (change_opened opened lines).act ≡ put (schedule_body (lines_for place day (with_new_first lines)))
  opened_puts = search (rules, near_of_new)

-- ---- the changes of a record that is a unit by itself

module _ (place : List ℕ) (day : ℕ) (old new : Thinned) (first : Option code.Change) (last : Change) where
  -- if a record makes two changes, a `Thinned` that has received one after the other has received all changes of the record
  pub two_taken : (change : code.Change) (between : Thinned) → first ≡ Some change → Thins place day old (change_meant change) between
      → Thins place day between last new → ThinsAll place day old (listed_after first last) new
  two_taken = search (rules, append_assoc)

-- ---- the test `a || not b`

-- if `a || not b` is true, `a` is true or `b` is false
pub either : (a b : Bool) → (a || not b) ≡ true → (a ≡ true) ⊎ (b ≡ false)
either = search rules

module _ (place : List ℕ) (day : ℕ) (opened : Opened) (near : Bool) (lines : Lines) (read : HasLines (progress_meant opened.progress) lines)
    (whole : IsSchedule lines) (is : SaysRunsNear day lines near) (stays : (progress_meant opened.progress).deletion ≡ false) (runs : near ≡ true)
    (thinned : Thinned) (there : thinned.place ≡ place) (dated : thinned.day ≡ day) (renewed : Lines) (same : renewed ≡ with_new_first lines)
    (test : Bool) (tells : IsPutSchedule renewed → test ≡ (calls_at thinned.place renewed && may_reach thinned.day renewed)) where
  -- the change of a schedule with this body
  abbrev putting : Lines → Change
  putting body = record { number = opened.number; key = key_meant (key.Schedule opened.key); act = put (schedule_body body) }

  by_test : (b : Bool) → test ≡ b
      → thin_change place day (change_opened opened lines) ≡ putting (cond b renewed (thin_lines place (first_record renewed)))
  by_test = grind (arith, opened_puts, put_of_new)

  -- suppose that a schedule runs near the day and calls at the place. If an event of it may be on the day, the thin form of its change has all its lines
  pub opened_whole : (body : Lines) → body ≡ renewed → test ≡ true
      → thin_change place day (change_opened opened lines) ≡ putting body
  opened_whole body copied calls = by_test true calls ∙ ap putting (sym copied)

  -- if a schedule runs near the day but has no event at the place on the day, the thin form of its change has its basic schedule
  pub opened_elsewhere : (basic : List ℕ) → basic ≡ first_record renewed → test ≡ false
      → thin_change place day (change_opened opened lines) ≡ elsewhere_meant place (record { number = opened.number; key = opened.key; basic = basic })
  opened_elsewhere basic first apart = by_test false apart ∙ ap (λ line. putting (thin_lines place line)) (sym first)

-- the line at index 0 is the first line
pub first_line : (lines : Lines) (line : List ℕ) → Some line ≡ slice_get lines 0 → line ≡ first_record lines
first_line = search rules
