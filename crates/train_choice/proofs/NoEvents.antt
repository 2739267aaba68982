-- A schedule without a journey has no events.
use Rattle.cif_laws.proofs.Common.{◌≡◌, ℕ, true, false, List, [], ◌∷◌, ◌++◌, refl, sym, ◌∙◌, subst, inl, inr, ◌⊎◌, Contains, None, append-nil, rules, find}
use Rattle.cif_laws.proofs.Common.{codes, AllByRecursion, Contains-append_right, origin_location, terminating_location, times_by_kind, times_of, has_identity}
use Rattle.cif_laws.proofs.Common.{AreExtraDetails, IsJourney, first_record, ScheduleKey, IsScheduleOf}
use Rattle.docker_model.specs.file.File.{MayLackJourney}
use Rattle.cif_laws.proofs.lists.FilteredMembers.{find_none}
use Rattle.cif_laws.proofs.records.RecordIdentity.{has_identity_is}
use Rattle.cif_laws.proofs.lists.Membership.{cons-Contains-first}
use Rattle.train_choice.specs.Occurrences.{occurrences, Progress, before_all, turned, past_times, occurrences_at, occurrences_from}
use Rattle.train_choice.proofs.Occurrences.{all_met}

no_times_met : (p : Progress) (lines : List (List ℕ)) → AllByRecursion (λ (line : List ℕ). times_of line ≡ []) lines → occurrences_from p lines ≡ []
no_times_met p [] none = refl
no_times_met p (line ∷ lines) none =
    (λ i. occurrences_at (turned p line) line (none.0 i) ++ occurrences_from (past_times (turned p line) (times_of line)) lines)
    ∙ no_times_met (past_times (turned p line) (times_of line)) lines none.1

details_timeless : (extra : List (List ℕ)) → AreExtraDetails extra → AllByRecursion (λ (line : List ℕ). times_of line ≡ []) extra
details_timeless = search rules

-- if a search for lines with an identity fails, no line in the list has this identity
none_found : (name : List ℕ) (lines : List (List ℕ)) (line : List ℕ) → find (λ l. has_identity name l) lines ≡ None → Contains lines line
    → has_identity name line ≡ true → ⊥
none_found name lines line none among passes =
    let fails = find_none (λ (l : List ℕ). has_identity name l) lines line none among in
    let bad : true ≡ false = sym passes ∙ fails in
    let never : ⊥ = cc in
    never

-- a schedule without an LO, or without an LT, has no events
pub no_events : (key : ScheduleKey) (lines : List (List ℕ)) → IsScheduleOf key lines
    → (find (λ line. has_identity (codes "LO") line) lines ≡ None) ⊎ (find (λ line. has_identity (codes "LT") line) lines ≡ None) → occurrences lines ≡ []
no_events key lines of none = by of.schedule.journey_or_none
  where
    among : (journey : IsJourney of.schedule.journey) (line : List ℕ) → Contains (journey.first ∷ journey.between ++ journey.last ∷ []) line
        → Contains lines line
    among journey line inside = subst (λ (ls : List (List ℕ)). Contains ls line) (sym of.schedule.whole)
        (Contains-append_right (of.schedule.basic ∷ of.schedule.extra) of.schedule.journey line
        (subst (λ (ls : List (List ℕ)). Contains ls line) (sym journey.whole) inside))

    by : IsJourney of.schedule.journey ⊎ ((of.schedule.journey ≡ []) × MayLackJourney of.schedule.basic) → occurrences lines ≡ []
    by (inl journey) = absurd (elim none [
      | inl no_origin ↦ none_found (codes "LO") lines journey.first no_origin
          (among journey journey.first (cons-Contains-first journey.first (journey.between ++ journey.last ∷ [])))
          (has_identity_is origin_location (codes "LO") journey.first journey.origin)
      | inr no_terminus ↦ none_found (codes "LT") lines journey.last no_terminus
          (among journey journey.last (Contains-append_right (journey.first ∷ journey.between) (journey.last ∷ []) journey.last
          (cons-Contains-first journey.last [])))
          (has_identity_is terminating_location (codes "LT") journey.last journey.terminus)
    ])
    by (inr lacking) =
        let whole : lines ≡ of.schedule.basic ∷ of.schedule.extra = of.schedule.whole
        ∙ (λ i. of.schedule.basic ∷ of.schedule.extra ++ lacking.0 i) ∙ append-nil (of.schedule.basic ∷ of.schedule.extra) in
        sym (all_met lines) ∙ (λ i. occurrences_from (before_all (first_record lines)) (whole i))
        ∙ no_times_met (before_all (first_record lines)) (of.schedule.basic ∷ of.schedule.extra)
        ((λ i. times_by_kind (of.schedule.kind i) of.schedule.basic), details_timeless of.schedule.extra of.schedule.details)
