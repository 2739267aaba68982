-- Docker lines that tie in the order of docker lines are equal. They belong to the same schedule or
-- association, and to the same start day.
use Rattle.cif_laws.proofs.Common.{◌≡◌, ℕ, List, ap, sym, ◌∙◌, subst, inl, inr, ◌⊎◌, Some, None, Contains, rules, Option, Equal, exact_unsigned, exact_bytes}
use Rattle.cif_laws.proofs.Common.{eqb-true, bytes_eq-Decides, columns, column, Occasion, dividing, next_working, first_record, Table, Event, events_of}
use Rattle.cif_laws.proofs.Common.{event_line, first_event_at, TrainRuns, IsChosenAssociation, group_of, DockerLine, docker_line_cmp, category_occasion}
use Rattle.cif_laws.proofs.Common.{partner_start, IsIdentityOn, IsPartnerIdentity, IsAssociationLine, IsEventLine}
use Rattle.docker_model.specs.file.Journey.{joining}
use Rattle.docker_model.specs.docker.DockerLine.{occasion_rank, associated_uid}
use Rattle.docker_laws.specs.Gathering.{IsDockerLine}
use Rattle.cif_laws.proofs.orders.Orders.{then_equal}
use Rattle.cif_laws.proofs.lists.BoolsAndOptions.{both, none_some}
use Rattle.cif_laws.proofs.lists.FilteredMembers.{find_some}
use Rattle.docker_laws.proofs.dockers.OneChoice.{one_train, one_link}
use Rattle.docker_laws.proofs.dockers.Events.{one_event, IsOfTrain, event_occasion}

-- the two lines are equal in each field that the order of docker lines compares
pub record AreTied (a b : DockerLine) : Type 0 where
  pub occasions : occasion_rank a.occasion ≡ occasion_rank b.occasion
  pub uids : a.uid ≡ b.uid
  pub starts : a.start ≡ b.start
  pub numbers : a.number ≡ b.number
  pub associated : associated_uid a.detail ≡ associated_uid b.detail

-- two docker lines that tie are equal in each field that the order of docker lines compares
pub tied_lines_agree : (a b : DockerLine) → docker_line_cmp a b ≡ Equal → AreTied a b
tied_lines_agree = search (rules, then_equal, exact_unsigned, exact_bytes)

-- ---- two lines of events that tie are equal

-- the two lines are equal, and belong to one schedule, one start day and one event
pub record AreOneEvent (live : Table) (place : List ℕ) (day : ℕ) (a b : DockerLine) (one : IsEventLine live place day a)
    (two : IsEventLine live place day b) : Type 0 where
  pub keys : one.key ≡ two.key
  pub starts : one.start ≡ two.start
  pub schedules : one.schedule ≡ two.schedule
  pub events : one.event ≡ two.event
  pub lines : a ≡ b

-- two event lines that tie belong to one schedule, one start day and one event
pub same_event_line : (live : Table) (place : List ℕ) (day : ℕ) (a b : DockerLine) (one : IsEventLine live place day a) (two : IsEventLine live place day b)
    → docker_line_cmp a b ≡ Equal → AreOneEvent live place day a b one two
same_event_line live place day a b one two e =
    let common = tied_lines_agree a b e in
    let uids : one.key.uid ≡ two.key.uid = sym (ap (λ (l : DockerLine). l.uid) one.is) ∙ common.uids ∙ ap (λ (l : DockerLine). l.uid) two.is in
    let starts : one.start ≡ two.start = sym (ap (λ (l : DockerLine). l.start) one.is) ∙ common.starts ∙ ap (λ (l : DockerLine). l.start) two.is in
    let numbers : one.event.number ≡ two.event.number = search rules in
    let runs : TrainRuns live one.key.uid one.start two.key two.schedule = search rules in
    let same = one_train live one.key.uid one.start one.key two.key one.schedule two.schedule one.train_runs runs in
    let in_one : Contains (events_of one.schedule) two.event = subst (λ ls. Contains (events_of ls) two.event) (sym same.1) two.among in
    let events = one_event one.schedule one.event two.event one.among in_one numbers in
    search rules

-- ---- a line of an event and a line of an association never tie

-- the occasion is a join, a division or a next working
abbrev pub IsOfLink : Occasion → Type 0
IsOfLink occasion = (occasion ≡ joining) ⊎ (occasion ≡ dividing) ⊎ (occasion ≡ next_working)

-- the occasion of an association's category is a join, a division or a next working
pub category_is_of_link : (category : List ℕ) (occasion : Occasion) → category_occasion category ≡ Some occasion → IsOfLink occasion
category_is_of_link = search (rules, none_some)

not_both : (a b : Occasion) → IsOfTrain a → IsOfLink b → ¬ (occasion_rank a ≡ occasion_rank b)
not_both = search rules

-- the line of an event and the line of an association have different occasions
pub event_apart : (live : Table) (place : List ℕ) (day : ℕ) (a b : DockerLine) → IsEventLine live place day a → IsAssociationLine live place day b
    → ¬ (occasion_rank a.occasion ≡ occasion_rank b.occasion)
event_apart live place day a b one two same = not_both one.event.occasion _ (event_occasion one.schedule _ one.among)
    (category_is_of_link (columns 35 36 two.association) _ two.category)
    (sym (ap (λ (l : DockerLine). occasion_rank l.occasion) one.is) ∙ same ∙ ap (λ (l : DockerLine). occasion_rank l.occasion) two.is)

-- ---- two lines of associations that tie are equal

-- the train of a UID has at most one train identity on a day
one_identity_on : (live : Table) (uid : List ℕ) (day : ℕ) (x y : List ℕ) → IsIdentityOn live uid x day → IsIdentityOn live uid y day → x ≡ y
one_identity_on live uid day x y (inl one) (inl two) =
    let same = one_train live uid day one.0 two.0 one.1 two.1 one.2 two.2 in
    one.3 ∙ ap (λ ls. columns 33 36 (first_record ls)) same.1 ∙ sym two.3
one_identity_on live uid day x y (inl one) (inr two) = absurd (two.0 one.0 one.1 one.2)
one_identity_on live uid day x y (inr one) (inl two) = absurd (one.0 two.0 two.1 two.2)
one_identity_on live uid day x y (inr one) (inr two) = one.1 ∙ sym two.1

-- an associated train has at most one train identity
pub one_identity : (live : Table) (uid : List ℕ) (day : Option ℕ) (x y : List ℕ) → IsPartnerIdentity live uid day x → IsPartnerIdentity live uid day y → x ≡ y
one_identity live uid None x y one two = one ∙ sym two
one_identity live uid (Some day) x y one two = one_identity_on live uid day x y one two

-- the two lines are equal, and belong to one association and one start day. They also belong to one
-- schedule and one event of the base train
pub record AreOneAssociation (live : Table) (place : List ℕ) (day : ℕ) (a b : DockerLine) (one : IsAssociationLine live place day a)
    (two : IsAssociationLine live place day b) : Type 0 where
  pub keys : one.key ≡ two.key
  pub starts : one.start ≡ two.start
  pub bases : one.base ≡ two.base
  pub events : one.event ≡ two.event
  pub associations : one.association ≡ two.association
  pub lines : a ≡ b

-- the first event with a TIPLOC and a suffix is an event of the schedule, and its record has this
-- TIPLOC and suffix
pub first_event_is : (base : List (List ℕ)) (location : List ℕ) (suffix : ℕ) (event : Event) → first_event_at base location suffix ≡ Some event
    → Contains (events_of base) event × (column 10 (event_line base event) ≡ suffix) × (columns 3 9 (event_line base event) ≡ location)
first_event_is = search (rules, find_some, both, eqb-true, bytes_eq-Decides)

-- two association lines that tie belong to one association and one start day
pub same_association_line : (live : Table) (place : List ℕ) (day : ℕ) (a b : DockerLine) (one : IsAssociationLine live place day a)
    (two : IsAssociationLine live place day b)
    → docker_line_cmp a b ≡ Equal → AreOneAssociation live place day a b one two
same_association_line live place day a b one two e =
    let common = tied_lines_agree a b e in
    let uids : one.base_key.uid ≡ two.base_key.uid = sym (ap (λ (l : DockerLine). l.uid) one.is) ∙ common.uids ∙ ap (λ (l : DockerLine). l.uid) two.is in
    let bases : one.key.base ≡ two.key.base = sym one.base_runs.chosen.running.uid_is ∙ uids ∙ two.base_runs.chosen.running.uid_is in
    let starts : one.start ≡ two.start = sym (ap (λ (l : DockerLine). l.start) one.is) ∙ common.starts ∙ ap (λ (l : DockerLine). l.start) two.is in
    let numbers : one.event.number ≡ two.event.number = search rules in
    let associated : one.key.associated ≡ two.key.associated =
    sym (ap (λ (l : DockerLine). associated_uid l.detail) one.is) ∙ common.associated ∙ ap (λ (l : DockerLine). associated_uid l.detail) two.is in
    let runs : TrainRuns live one.key.base one.start two.base_key two.base = search rules in
    let trains = one_train live one.key.base one.start one.base_key two.base_key one.base two.base one.base_runs runs in
    let first = first_event_is one.base one.key.location one.key.suffix one.event one.first_there in
    let second = first_event_is two.base two.key.location two.key.suffix two.event two.first_there in
    let in_one : Contains (events_of one.base) two.event = subst (λ ls. Contains (events_of ls) two.event) (sym trains.1) second.0 in
    let events = one_event one.base one.event two.event first.0 in_one numbers in
    let suffixes : one.key.suffix ≡ two.key.suffix = sym first.1 ∙ (λ i. column 10 (event_line (trains.1 i) (events i))) ∙ second.1 in
    let locations : one.key.location ≡ two.key.location = one.here ∙ sym two.here in
    let groups : group_of one.key ≡ group_of two.key =
    (λ i. record { base = bases i; associated = associated i; location = locations i; suffix = suffixes i }) in
    let chosen : IsChosenAssociation live (group_of one.key) one.start two.key two.association = search rules in
    let links = one_link live (group_of one.key) one.start one.key two.key one.association two.association one.chosen chosen in
    let occasion : Some one.occasion ≡ Some two.occasion = sym one.category ∙ ap (λ l. category_occasion (columns 35 36 l)) links.1 ∙ two.category in
    let occasions : one.occasion ≡ two.occasion = cc in
    let partner : IsPartnerIdentity live one.key.associated (partner_start (column 37 one.association) one.start) two.identity = search rules in
    let identities = one_identity live one.key.associated
    (partner_start (column 37 one.association) one.start) one.identity two.identity one.partner partner in
    search rules

-- ---- any two lines that tie are equal

-- two docker lines that tie are equal
pub one_line : (live : Table) (place : List ℕ) (day : ℕ) (a b : DockerLine) → IsDockerLine live place day a → IsDockerLine live place day b
    → docker_line_cmp a b ≡ Equal → a ≡ b
one_line live place day a b (inl one) (inl two) e = (same_event_line live place day a b one two e).lines
one_line live place day a b (inl one) (inr two) e = absurd (event_apart live place day a b one two (tied_lines_agree a b e).occasions)
one_line live place day a b (inr one) (inl two) e = absurd (event_apart live place day b a two one (sym (tied_lines_agree a b e).occasions))
one_line live place day a b (inr one) (inr two) e = (same_association_line live place day a b one two e).lines
