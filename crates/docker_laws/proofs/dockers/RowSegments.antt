-- A segment of a table's rows has each schedule of a UID, if no row outside the segment is a
-- schedule of that UID. The segment has each association of a group, if no row outside the segment
-- is an association of that group.
use Rattle.cif_laws.proofs.Common.{ℕ, List, ◌++◌, inl, inr, ◌⊎◌, Contains, Contains-append_left, Contains-append_right, Contains-append_cases, schedule_key}
use Rattle.cif_laws.proofs.Common.{association_key, schedule_body, association_body, Table, Row, AreRowsOf, Group}
use Rattle.docker_laws.specs.LiveRows.{HasSchedulesOf, HasAssociationsOf, HasNoScheduleOf, HasNoAssociationOf}

-- a row of `front ++ rows ++ back` that isn't in `front` or `back` is in `rows`
between : (front rows back : List Row) (row : Row) → ¬ Contains front row → ¬ Contains back row → Contains ((front ++ rows) ++ back) row → Contains rows row
between front rows back row not_front not_back among = outer (Contains-append_cases (front ++ rows) back row among)
  where
    outer : Contains (front ++ rows) row ⊎ Contains back row → Contains rows row
    outer (inl here) = elim (Contains-append_cases front rows row here) [ inl here ↦ absurd (not_front here) | inr here ↦ here ]
    outer (inr here) = absurd (not_back here)

-- a segment has each schedule of a UID, if no row outside the segment is a schedule of the UID
pub uid_segment : (live : Table) (uid : List ℕ) (front rows back : List Row) → AreRowsOf live ((front ++ rows) ++ back) → HasNoScheduleOf uid front
    → HasNoScheduleOf uid back → HasSchedulesOf live uid rows
uid_segment live uid front rows back are no_front no_back = record {
  each =
      λ key body among. (are.members key body).0 (Contains-append_left (front ++ rows) back (key, body) (Contains-append_right front rows (key, body) among));
  all = λ key lines same is. between _ _ _ _ (λ here. no_front key (schedule_body lines) here same) (λ here. no_back key (schedule_body lines) here same)
      ((are.members (schedule_key key) (schedule_body lines)).1 is);
}

-- a segment has each association of a group, if no row outside the segment is an association of
-- that group
pub group_segment : (live : Table) (group : Group) (front rows back : List Row) → AreRowsOf live ((front ++ rows) ++ back) → HasNoAssociationOf group front
    → HasNoAssociationOf group back
    → HasAssociationsOf live group rows
group_segment live group front rows back are no_front no_back = record {
  each =
      λ key body among. (are.members key body).0 (Contains-append_left (front ++ rows) back (key, body) (Contains-append_right front rows (key, body) among));
  all = λ key line same is. between _ _ _ _ (λ here. no_front key (association_body line) here same) (λ here. no_back key (association_body line) here same)
      ((are.members (association_key key) (association_body line)).1 is);
}
