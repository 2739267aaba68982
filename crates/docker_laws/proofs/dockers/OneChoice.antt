-- On a day a UID has at most one chosen schedule, and a group at most one chosen association.
use Rattle.cif_laws.proofs.Common.{◌≡◌, ℕ, List, sym, ◌∙◌, Some, rules, Equal, IsTotalOrder, exact_unsigned, schedule_key, association_key, ScheduleKey}
use Rattle.cif_laws.proofs.Common.{AssociationKey, schedule_body, association_body, Table, schedule_choice_cmp, association_choice_cmp, IsChosen}
use Rattle.cif_laws.proofs.Common.{IsChosenAssociation, TrainRuns, Group, group_of}
use Rattle.std.proofs.lemmas.Cmp.{back_total, nat_cmp_total}
use Rattle.cif_laws.proofs.orders.Orders.{then_equal}
use Rattle.cif_laws.proofs.orders.AtMost.{level}

-- the order of choice among schedules is total
pub schedule_choice_total : IsTotalOrder schedule_choice_cmp
schedule_choice_total = search (rules, nat_cmp_total, back_total)

-- the order of choice among associations is total
pub association_choice_total : IsTotalOrder association_choice_cmp
association_choice_total = search (rules, nat_cmp_total, back_total)

-- two live schedules with the same key have the same records
pub one_schedule : (live : Table) (a b : ScheduleKey) (xs ys : List (List ℕ)) → a ≡ b → live (schedule_key a) ≡ Some (schedule_body xs)
    → live (schedule_key b) ≡ Some (schedule_body ys) → xs ≡ ys
one_schedule = search rules

-- two live associations with the same key have the same record
pub one_association : (live : Table) (a b : AssociationKey) (x y : List ℕ) → a ≡ b → live (association_key a) ≡ Some (association_body x)
    → live (association_key b) ≡ Some (association_body y) → x ≡ y
one_association = search rules

-- two schedules of one UID that tie in the order of choice have the same key
pub tied_schedules : (a b : ScheduleKey) → a.uid ≡ b.uid → schedule_choice_cmp a b ≡ Equal → a ≡ b
tied_schedules = search (rules, then_equal, exact_unsigned)

-- two associations of one group that tie in the order of choice have the same key
pub tied_associations : (a b : AssociationKey) → group_of a ≡ group_of b → association_choice_cmp a b ≡ Equal → a ≡ b
tied_associations = search (rules, then_equal, exact_unsigned)

-- a UID has at most one chosen schedule on a day
pub one_chosen : (live : Table) (uid : List ℕ) (day : ℕ) (a b : ScheduleKey) (xs ys : List (List ℕ)) → IsChosen live uid day a xs → IsChosen live uid day b ys
    → (a ≡ b) × (xs ≡ ys)
one_chosen live uid day a b xs ys one two =
    let tied = level schedule_choice_total a b (one.first b ys two.running) (two.first a xs one.running) in
    let keys = tied_schedules a b (one.running.uid_is ∙ sym two.running.uid_is) tied in
    (keys, one_schedule live a b xs ys keys one.running.is_live two.running.is_live)

-- a UID has at most one train on a day
pub one_train : (live : Table) (uid : List ℕ) (day : ℕ) (a b : ScheduleKey) (xs ys : List (List ℕ)) → TrainRuns live uid day a xs → TrainRuns live uid day b ys
    → (a ≡ b) × (xs ≡ ys)
one_train live uid day a b xs ys one two = one_chosen live uid day a b xs ys one.chosen two.chosen

-- a group has at most one chosen association on a day
pub one_link : (live : Table) (group : Group) (day : ℕ) (a b : AssociationKey) (x y : List ℕ) → IsChosenAssociation live group day a x
    → IsChosenAssociation live group day b y → (a ≡ b) × (x ≡ y)
one_link live group day a b x y one two =
    let tied = level association_choice_total a b (one.first b y two.associated) (two.first a x one.associated) in
    let keys = tied_associations a b (one.associated.group_is ∙ sym two.associated.group_is) tied in
    (keys, one_association live a b x y keys one.associated.is_live two.associated.is_live)
