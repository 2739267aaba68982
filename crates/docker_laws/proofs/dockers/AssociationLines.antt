-- Lemmas on the docker line of an association for one start day of the base train. The association
-- lines of a docker are exactly these lines, for all associations and start days.
use Rattle.cif_laws.proofs.Common.{◌≡◌, ℕ, List, [], ◌∷◌, refl, sym, ◌∙◌, subst, Some, None, Bool, true, false, cond, Contains, eqb-true, rules, Option, not}
use Rattle.cif_laws.proofs.Common.{◌&&◌, ◌==◌, is_eq, tied_itself, columns, column, Occasion, association_key, AssociationKey, association_body}
use Rattle.cif_laws.proofs.Common.{association_key_cmp, Table, HasGoodBodies, Event, event_day, first_event_at, TrainRuns, Group, group_of, IsChosenAssociation}
use Rattle.cif_laws.proofs.Common.{Train, DockerLine, docker_line_cmp, line_of_association, category_occasion, partner_start, IsPartnerIdentity}
use Rattle.cif_laws.proofs.Common.{IsAssociationLine}
use Rattle.docker_model.specs.docker.Association.{is_date_indicator}
use Rattle.docker_laws.specs.LiveRows.{Link, IsTrainOn, TellsTrains, IsLinkOn, TellsLinks}
use Rattle.docker_laws.specs.Gathering.{start_days, counts_as, partner_identity, line_at, line_with, is_in_force}
use Rattle.cif_laws.proofs.lists.Membership.{nil-Contains, Contains-single, single-Contains}
use Rattle.cif_laws.proofs.lists.BoolsAndOptions.{both}
use Rattle.cif_laws.proofs.orders.Orders.{association_key_total, exact_association_key}
use Rattle.cif_laws.proofs.lists.Sorted.{AreApart}
use Rattle.docker_laws.proofs.dockers.StartDays.{start_days_iff}
use Rattle.docker_laws.proofs.dockers.NearStarts.{association_near}
use Rattle.docker_laws.proofs.dockers.OneChoice.{one_association, one_train, one_link}
use Rattle.docker_laws.proofs.dockers.OneDockerLine.{one_identity}
use Rattle.cif_laws.proofs.orders.AtMost.{eq_is}
use Rattle.docker_laws.proofs.dockers.ScheduleLines.{number_itself}

-- the list of the docker lines that an association has for one start day of the base train. The
-- list has at most one line
abbrev pub link_piece : (List ℕ → ℕ → Option Train) → (Group → ℕ → Option Link) → ℕ → AssociationKey → List ℕ → ℕ → List DockerLine
link_piece trains links day key line start =
    cond (is_in_force links start key line) (line_with trains day start key line (category_occasion (columns 35 36 line)) (trains key.base start)) []

-- the line is a docker line of the association with this key, for this start day of the base train
pub record IsOfAssociation (live : Table) (place : List ℕ) (day : ℕ) (key : AssociationKey) (start : ℕ) (line : DockerLine) : Type 0 where
  pub made : IsAssociationLine live place day line
  pub of_key : made.key ≡ key
  pub of_start : made.start ≡ start

-- the association may have a docker line for this start day of its base train. The association is
-- the chosen association of its group, isn't a cancellation, and has the date indicator S, a space,
-- N or P
pub record IsInForce (live : Table) (start : ℕ) (key : AssociationKey) (line : List ℕ) : Type 0 where
  pub chosen : IsChosenAssociation live (group_of key) start key line
  pub no_cancellation : ¬ (key.indicator ≡ 67)
  pub date_indicator : is_date_indicator (column 37 line) ≡ true

module _ (live : Table) (trains : List ℕ → ℕ → Option Train) (links : Group → ℕ → Option Link) (tell : TellsTrains live trains)
    (tell_links : TellsLinks live links) (place : List ℕ) (day : ℕ) where
  -- `partner_identity` computes the train identity that a docker line shows for the associated
  -- train
  partner_is : (uid : List ℕ) (start : Option ℕ) → IsPartnerIdentity live uid start (partner_identity trains uid start)
  partner_is = search rules

  -- ---- an association may have a docker line if and only if it passes `is_in_force`

  counts : (key : AssociationKey) (line : List ℕ) (start : ℕ) → live (association_key key) ≡ Some (association_body line)
      → counts_as (links (group_of key) start) key ≡ true
      → IsChosenAssociation live (group_of key) start key line
  counts key line start is_live is = by (links (group_of key) start) (tell_links (group_of key) start) is
    where
      by : (found : Option Link) → IsLinkOn live (group_of key) start found → counts_as found key ≡ true
          → IsChosenAssociation live (group_of key) start key line
      by None none h = absurd (cc)
      by (Some link) chosen h =
          let same = exact_association_key link.key key (eq_is (association_key_cmp link.key key) h) in
          let lines = one_association live link.key key link.line line same chosen.associated.is_live is_live in
          subst (λ (v : Link). IsChosenAssociation live (group_of key) start v.key v.line) (λ i. record { key = same i; line = lines i }) chosen

  in_force_back : (key : AssociationKey) (line : List ℕ) (start : ℕ) → live (association_key key) ≡ Some (association_body line)
      → is_in_force links start key line ≡ true → IsInForce live start key line
  in_force_back key line start is_live is =
      let p = both (counts_as (links (group_of key) start) key && not (key.indicator == 67)) (is_date_indicator (column 37 line)) is in
      let q = both (counts_as (links (group_of key) start) key) (not (key.indicator == 67)) p.0 in
      record {
        chosen = counts key line start is_live q.0;
        no_cancellation = λ cancelled. cc;
        date_indicator = p.1;
      }

  no_letter : (key : AssociationKey) → ¬ (key.indicator ≡ 67) → not (key.indicator == 67) ≡ true
  no_letter = search (rules, eqb-true)

  in_force_forth : (key : AssociationKey) (line : List ℕ) (start : ℕ) → IsInForce live start key line → is_in_force links start key line ≡ true
  in_force_forth key line start is = (λ i. counted i && no_letter key is.no_cancellation i && is.date_indicator i)
    where
      counted : counts_as (links (group_of key) start) key ≡ true
      counted = (elim (links (group_of key) start) as (λ found. IsLinkOn live (group_of key) start found → counts_as found key ≡ true) [
        | None ↦ λ none. absurd (none key line is.chosen)
        | Some link ↦ λ chosen. let same = (one_link live (group_of key) start link.key key link.line line chosen is.chosen).0 in
            (λ i. is_eq (association_key_cmp (same i) key)) ∙ (λ i. is_eq (tied_itself association_key_total key i))
      ]) (tell_links (group_of key) start)

  -- ---- the association lines of the docker are exactly the lines that `link_piece` computes

  made_at : (key : AssociationKey) (line : List ℕ) (start : ℕ) → key.location ≡ place → IsInForce live start key line → (occasion : Occasion)
      → category_occasion (columns 35 36 line) ≡ Some occasion
      → (base : Train) → TrainRuns live key.base start base.key base.lines → (at : Option Event) → first_event_at base.lines key.location key.suffix ≡ at
      → (docker_line : DockerLine) → Contains (line_at trains day start key line occasion base at) docker_line
      → IsOfAssociation live place day key start docker_line
  made_at key line start here force occasion category base runs None at_is docker_line among = absurd (nil-Contains _ among)
  made_at key line start here force occasion category base runs (Some event) at_is docker_line among = by (event_day start base.lines event == day) refl among
    where
      the_line : DockerLine
      the_line = line_of_association occasion key.indicator base.key start base.lines event key.associated
          (partner_identity trains key.associated (partner_start (column 37 line) start))

      by : (b : Bool) → (event_day start base.lines event == day) ≡ b → Contains (cond b (the_line ∷ []) []) docker_line
          → IsOfAssociation live place day key start docker_line
      by false h inside = absurd (nil-Contains _ inside)
      by true h inside = record {
        made = record {
          start = start;
          key = key;
          association = line;
          chosen = force.chosen;
          no_cancellation = force.no_cancellation;
          occasion = occasion;
          category = category;
          date_indicator = force.date_indicator;
          base_key = base.key;
          base = base.lines;
          base_runs = runs;
          event = event;
          first_there = at_is;
          identity = partner_identity trains key.associated (partner_start (column 37 line) start);
          partner = partner_is _ _;
          here = here;
          today = eqb-true _ _ h;
          is = sym (Contains-single _ _ inside);
        };
        of_key = refl;
        of_start = refl;
      }

  -- each line that `link_piece` computes for a start day is in the docker
  pub link_piece_back : (key : AssociationKey) (line : List ℕ) (start : ℕ) → live (association_key key) ≡ Some (association_body line) → key.location ≡ place
      → (docker_line : DockerLine) → Contains (link_piece trains links day key line start) docker_line → IsOfAssociation live place day key start docker_line
  link_piece_back key line start is_live here docker_line among = by (is_in_force links start key line) refl among
    where
      with_category : IsInForce live start key line → (category : Option Occasion) → category_occasion (columns 35 36 line) ≡ category
          → Contains (line_with trains day start key line category (trains key.base start)) docker_line → IsOfAssociation live place day key start docker_line
      with_category force None is inside = absurd (nil-Contains _ inside)
      with_category force (Some occasion) is inside = (elim (trains key.base start) as (λ found. IsTrainOn live key.base start found → Contains
          (line_with trains day start key line (Some occasion) found) docker_line → IsOfAssociation live place day key start docker_line) [
            | None ↦ λ none inside. absurd (nil-Contains _ inside)
            | Some base ↦ λ runs inside. made_at _ _ _ here force _ is _ runs _ refl _ inside
          ]) (tell key.base start) inside

      by : (b : Bool) → is_in_force links start key line ≡ b
          → Contains (cond b (line_with trains day start key line (category_occasion (columns 35 36 line)) (trains key.base start)) []) docker_line
          → IsOfAssociation live place day key start docker_line
      by false h inside = absurd (nil-Contains _ inside)
      by true h inside = with_category (in_force_back _ _ _ is_live h) (category_occasion (columns 35 36 line)) refl inside

  -- each docker line of an association is among the lines that `link_piece` computes for this
  -- association and for the start day of the line's base train
  pub link_piece_forth : (docker_line : DockerLine) (made : IsAssociationLine live place day docker_line)
      → Contains (link_piece trains links day made.key made.association made.start) docker_line
  link_piece_forth docker_line made =
      subst (λ b. Contains (cond b (line_with trains day made.start made.key made.association (category_occasion (columns 35 36 made.association))
      (trains made.key.base made.start)) []) docker_line) (sym (in_force_forth _ _ _
      (record { chosen = made.chosen; no_cancellation = made.no_cancellation; date_indicator = made.date_indicator })))
      (subst (λ category. Contains (line_with trains day made.start made.key made.association category (trains made.key.base made.start)) docker_line)
      (sym made.category) ((elim (trains made.key.base made.start) as (λ found. IsTrainOn live made.key.base made.start found → Contains
      (line_with trains day made.start made.key made.association (Some made.occasion) found) docker_line) [
        | None ↦ λ none. absurd (none made.base_key made.base made.base_runs)
        | Some base ↦ λ runs. let same = one_train _ _ _ _ _ _ _ runs made.base_runs in
            let first : first_event_at base.lines made.key.location made.key.suffix ≡ Some made.event = search rules in
            subst (λ at. Contains (line_at trains day made.start made.key made.association made.occasion base at) docker_line) (sym first)
            (at_day base same.0 same.1)
      ]) (tell made.key.base made.start)))
    where
      the_identity : List ℕ
      the_identity = partner_identity trains made.key.associated (partner_start (column 37 made.association) made.start)

      the_line : Train → Event → DockerLine
      the_line base event = line_of_association made.occasion made.key.indicator base.key made.start base.lines event made.key.associated the_identity

      at_day : (base : Train) → base.key ≡ made.base_key → base.lines ≡ made.base
          → Contains (line_at trains day made.start made.key made.association made.occasion base (Some made.event)) docker_line
      at_day base keys lines =
          let today : (event_day made.start base.lines made.event == day) ≡ true =
          (λ i. event_day made.start (lines i) made.event == day) ∙ (λ i. made.today i == day) ∙ number_itself _ in
          let identities = one_identity _ _ _ _ _ made.partner (partner_is _ _) in
          let line_is : docker_line ≡ the_line base made.event = search rules in
          subst (λ b. Contains (cond b (the_line base made.event ∷ []) []) docker_line) (sym today) (single-Contains _ _ (sym line_is))

  line_at_apart : (key : AssociationKey) (line : List ℕ) (start : ℕ) (occasion : Occasion) (base : Train) (at : Option Event)
      → AreApart docker_line_cmp (line_at trains day start key line occasion base at)
  line_at_apart = search rules

  line_with_apart : (key : AssociationKey) (line : List ℕ) (start : ℕ) (category : Option Occasion) (base : Option Train)
      → AreApart docker_line_cmp (line_with trains day start key line category base)
  line_with_apart = search (rules, line_at_apart)

  -- of the docker lines that an association has for one start day, no two tie in the order of
  -- docker lines
  pub link_piece_apart : (key : AssociationKey) (line : List ℕ) (start : ℕ) → AreApart docker_line_cmp (link_piece trains links day key line start)
  link_piece_apart key line start = elim (is_in_force links start key line) as (λ b. AreApart docker_line_cmp
      (cond b (line_with trains day start key line (category_occasion (columns 35 36 line)) (trains key.base start)) [])) [
        | true ↦ line_with_apart key line start (category_occasion (columns 35 36 line)) (trains key.base start)
        | false ↦ tt
      ]

  -- the base train of an association line starts on the docker's day or on one of the two days
  -- before it
  pub association_starts : HasGoodBodies live → (docker_line : DockerLine) (made : IsAssociationLine live place day docker_line)
      → Contains (start_days day) made.start
  association_starts good docker_line made = (start_days_iff day made.start).1 (association_near live place day docker_line good made)
