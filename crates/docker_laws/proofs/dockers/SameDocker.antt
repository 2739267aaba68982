-- Two tables have the same docker for a place and a day if each has all that the docker needs from
-- the other table.
use Rattle.cif_laws.proofs.Common.{◌≡◌, ℕ, List, ◌++◌, subst, inl, inr, ◌⊎◌, refl, ap, sym, ◌∙◌, Some, None, arith, rules, Option, ◌↔◌, codes, flat_map}
use Rattle.cif_laws.proofs.Common.{columns, column, spaces, day_text, first_record, tiploc_key, association_key, ScheduleKey, AssociationKey, association_body}
use Rattle.cif_laws.proofs.Common.{Table, IsRunning, TrainRuns, Group, group_of, IsAssociated, IsChosenAssociation, DockerLine, partner_start, IsIdentityOn}
use Rattle.cif_laws.proofs.Common.{IsPartnerIdentity, IsAssociationLine, IsEventLine, IsDockerList, description_in, docker_text, IsDockerText, ended, line_text}
use Rattle.cif_laws.proofs.Common.{last_line}
use Rattle.docker_model.specs.docker.DockerList.{Lists}
use Rattle.docker_laws.specs.StandIn.{HasEventOn}
use Rattle.docker_laws.proofs.dockers.OneDockerLine.{first_event_is}

-- ---- what the docker needs

-- a train that starts on this day has the same identity with the records `others` as with `lines`.
-- If it has an event at the place on the day with the records `lines`, both are equal
pub record IsInstead (place : List ℕ) (day start : ℕ) (lines others : List (List ℕ)) : Type 0 where
  pub identity : columns 33 36 (first_record lines) ≡ columns 33 36 (first_record others)
  pub calls : HasEventOn place day start lines → lines ≡ others

-- a schedule may be in both tables
pub itself : (place : List ℕ) (day start : ℕ) (lines : List (List ℕ)) → IsInstead place day start lines lines
itself place day start lines = record { identity = refl; calls = λ has. refl }

-- the table `other` has all that the docker needs from the table `one`. `Needs` says of which UIDs
-- and start days the docker needs the trains. For each schedule of `one` that runs for such a UID
-- on such a day, `other` has records that may be there instead. For each of these trains, `other`
-- also has the associations of `one` at the place. The docker needs each train with an event at the
-- place on the day, and the associated train of each association of such a train at the place
pub record Covers (Needs : List ℕ → ℕ → Type 0) (one other : Table) (place : List ℕ) (day : ℕ) : Type 0 where
  pub runs : (uid : List ℕ) (start : ℕ) → Needs uid start → (key : ScheduleKey) (lines : List (List ℕ)) → IsRunning one uid start key lines
      → (others : List (List ℕ)) × IsRunning other uid start key others × IsInstead place day start lines others
  pub links : (group : Group) → group.location ≡ place → (start : ℕ) → Needs group.base start → (key : AssociationKey) (line : List ℕ)
      → IsAssociated one group start key line → IsAssociated other group start key line
  pub calls : (uid : List ℕ) (start : ℕ) (key : ScheduleKey) (lines : List (List ℕ)) → IsRunning one uid start key lines → HasEventOn place day start lines
      → Needs uid start
  pub names : (key : AssociationKey) (line : List ℕ) → key.location ≡ place → one (association_key key) ≡ Some (association_body line) → (start : ℕ)
      (base : ScheduleKey) (lines : List (List ℕ)) → IsRunning one key.base start base lines → HasEventOn place day start lines → (partner : ℕ)
      → partner_start (column 37 line) start ≡ Some partner → Needs key.associated partner

-- ---- if two tables cover each other, they have the same docker lines

module _ {Needs : List ℕ → ℕ → Type 0} {one other : Table} {place : List ℕ} {day : ℕ} (forth : Covers Needs one other place day)
    (back : Covers Needs other one place day) where
  train_over : (uid : List ℕ) (start : ℕ) → Needs uid start → (key : ScheduleKey) (lines : List (List ℕ)) → TrainRuns one uid start key lines
      → (others : List (List ℕ)) × TrainRuns other uid start key others × IsInstead place day start lines others
  train_over uid start needed key lines is =
      let found = forth.runs uid start needed key lines is.chosen.running in (
        found.0,
        record {
          chosen = record {
            running = found.1;
            first = λ another others runs. let was = back.runs uid start needed another others runs in is.chosen.first another was.0 was.1;
          };
          no_cancellation = is.no_cancellation;
        },
        found.2,
      )

  -- if a train has an event at the place on the day, it runs according to the same records in both
  -- tables
  pub calling_over : (uid : List ℕ) (start : ℕ) (key : ScheduleKey) (lines : List (List ℕ)) → HasEventOn place day start lines
      → TrainRuns one uid start key lines → TrainRuns other uid start key lines
  calling_over uid start key lines has is =
      let found = train_over uid start (forth.calls uid start key lines is.chosen.running has) key lines is in
      subst (TrainRuns other uid start key) (sym (found.2.calls has)) found.1

  pub association_over : (group : Group) → group.location ≡ place → (start : ℕ) → Needs group.base start → (key : AssociationKey) (line : List ℕ)
      → IsChosenAssociation one group start key line → IsChosenAssociation other group start key line
  association_over group here start needed key line is = record {
    associated = forth.links group here start needed key line is.associated;
    first = λ another others runs. is.first another others (back.links group here start needed another others runs);
  }

  -- each event line in the docker of `one` is also in the docker of `other`
  unfoldable pub event_line_over : (line : DockerLine) → IsEventLine one place day line → IsEventLine other place day line
  event_line_over line is = search (rules, is.start, is.key, is.schedule, is.event, calling_over)

module _ {Needs : List ℕ → ℕ → Type 0} {one other : Table} {place : List ℕ} {day : ℕ} (forth : Covers Needs one other place day)
    (back : Covers Needs other one place day) where
  identity_over : (uid identity : List ℕ) (start : ℕ) → Needs uid start → IsIdentityOn one uid identity start → IsIdentityOn other uid identity start
  identity_over uid identity start needed (inl runs) =
      let found = train_over forth back uid start needed runs.0 runs.1 runs.2 in
      inl (runs.0, found.0, found.1, runs.3 ∙ found.2.identity)
  identity_over uid identity start needed (inr none) =
      inr (λ key lines runs. let found = train_over back forth uid start needed key lines runs in none.0 key found.0 found.1, none.1)

  pub partner_over : (uid identity : List ℕ) (partner : Option ℕ) → ((start : ℕ) → partner ≡ Some start → Needs uid start)
      → IsPartnerIdentity one uid partner identity → IsPartnerIdentity other uid partner identity
  partner_over uid identity None needed is = is
  partner_over uid identity (Some start) needed is = identity_over uid identity start (needed start refl) is

  -- each association line in the docker of `one` is also in the docker of `other`
  unfoldable pub association_line_over : (line : DockerLine) → IsAssociationLine one place day line → IsAssociationLine other place day line
  association_line_over line is =
      let first = first_event_is is.base is.key.location is.key.suffix is.event is.first_there in
      let has : HasEventOn place day is.start is.base = record { event = is.event; among = first.0; here = first.2 ∙ is.here; today = is.today } in
      let running = is.base_runs.chosen.running in
      let needed = forth.calls is.key.base is.start is.base_key is.base running has in
      record {
        start = is.start;
        key = is.key;
        association = is.association;
        chosen = association_over forth back (group_of is.key) is.here is.start needed is.key is.association is.chosen;
        no_cancellation = is.no_cancellation;
        occasion = is.occasion;
        category = is.category;
        date_indicator = is.date_indicator;
        base_key = is.base_key;
        base = is.base;
        base_runs = calling_over forth back is.key.base is.start is.base_key is.base has is.base_runs;
        event = is.event;
        first_there = is.first_there;
        identity = is.identity;
        partner = partner_over is.key.associated is.identity (partner_start (column 37 is.association) is.start)
            (forth.names is.key is.association is.here is.chosen.associated.is_live is.start is.base_key is.base running has) is.partner;
        here = is.here;
        today = is.today;
        is = is.is;
      }

  line_over : (line : DockerLine) → IsEventLine one place day line ⊎ IsAssociationLine one place day line
      → IsEventLine other place day line ⊎ IsAssociationLine other place day line
  line_over = search (rules, event_line_over, association_line_over)

-- ---- if two tables have the same docker lines, they have the same docker

-- the two tables have the same docker list and the same docker text for the place and the day
pub record HaveOneDocker (one other : Table) (place : List ℕ) (day : ℕ) : Type 0 where
  pub list : (lines : List DockerLine) → IsDockerList one place day lines ↔ IsDockerList other place day lines
  pub text : (text : List ℕ) → IsDockerText one place day text ↔ IsDockerText other place day text

-- if one table has the same docker as a second one, and this one as a third one, the first table
-- has the same docker as the third
pub docker_again : {one two three : Table} {place : List ℕ} {day : ℕ} → HaveOneDocker one two place day → HaveOneDocker two three place day
    → HaveOneDocker one three place day
docker_again first second = record {
  list = λ lines. (λ is. (second.list lines).0 ((first.list lines).0 is), λ is. (first.list lines).1 ((second.list lines).1 is));
  text = λ text. (λ is. (second.text text).0 ((first.text text).0 is), λ is. (first.text text).1 ((second.text text).1 is));
}

lists_along : {P Q : DockerLine → Type 0} → ((line : DockerLine) → P line → Q line) → ((line : DockerLine) → Q line → P line)
    → (lines : List DockerLine) → Lists P lines → Lists Q lines
lists_along = search rules

-- the text of a docker with this description in its heading
abbrev text_with : List ℕ → ℕ → List DockerLine → List ℕ → List ℕ
text_with place day lines description =
    ended (codes "DOCKER " ++ place ++ spaces 1 ++ day_text day ++ spaces 1 ++ description ++ spaces 4) ++ flat_map
    (λ line. ended (line_text line)) lines ++ ended last_line

module _ {Needs : List ℕ → ℕ → Type 0} {one other : Table} {place : List ℕ} {day : ℕ} (forth : Covers Needs one other place day)
    (back : Covers Needs other one place day) where
  lists : (lines : List DockerLine) → IsDockerList one place day lines ↔ IsDockerList other place day lines
  lists lines = (lists_along (line_over forth back) (line_over back forth) lines, lists_along (line_over back forth) (line_over forth back) lines)

  -- two tables have the same docker if they cover each other, and have the same description of the
  -- place
  pub docker_over : description_in (other (tiploc_key place)) ≡ description_in (one (tiploc_key place)) → HaveOneDocker one other place day
  docker_over same = record { list = lists; text = grind (arith, lists, text_same) }
    where
      text_same : (lines : List DockerLine) → docker_text other place day lines ≡ docker_text one place day lines
      text_same lines = ap (text_with place day lines) same
