-- The rows of a live table determine its chosen associations.
use Rattle.cif_laws.proofs.Common.{◌≡◌, ℕ, List, refl, ap, sym, ◌∙◌, Some, None, true, Contains, rules, Option, ◌&&◌, on, IsTotalOrder, on_total}
use Rattle.cif_laws.proofs.Common.{bytes_eq-Decides, Key, association_key, AssociationKey, Body, association_body, Table, Row, AreRowsOf}
use Rattle.cif_laws.proofs.Common.{association_choice_cmp, Group, group_of, IsAssociated}
use Rattle.docker_laws.specs.LiveRows.{HasAssociationsOf, Link, association_of, associations_in, is_of_group, is_linked, link_in, IsLinkOn, TellsLinks}
use Rattle.docker_laws.specs.ChoiceWalk.{IsLinkSoFar}
use Rattle.cif_laws.proofs.lists.BoolsAndOptions.{both, none_some}
use Rattle.cif_laws.proofs.lists.FilteredMembers.{part_back, part_forth}
use Rattle.docker_laws.proofs.dockers.OneChoice.{association_choice_total, one_link}
use Rattle.docker_laws.proofs.dockers.FirstOfRows.{IsFirst, best_is_first, found_is_first}

by_key : IsTotalOrder (on (λ (link : Link). link.key) association_choice_cmp)
by_key = on_total (λ (link : Link). link.key) association_choice_total

row_is : (key : Key) (body : Body) (link : Link) → association_of key body ≡ Some link → (key ≡ association_key link.key) × (body ≡ association_body link.line)
row_is = search (rules, none_some)

group_back : (group : Group) (key : AssociationKey) → group_of key ≡ group → is_of_group group key ≡ true
group_back = search (rules, bytes_eq-Decides)

module _ (live : Table) (rows : List Row) (group : Group) (has : HasAssociationsOf live group rows) where
  association_live : (link : Link) → Contains (associations_in rows) link → live (association_key link.key) ≡ Some (association_body link.line)
  association_live link among =
      let found = part_back (λ (row : Row). association_of row.0 row.1) rows link among in
      let told = row_is found.0.0 found.0.1 link found.2 in
      let there = has.each found.0.0 found.0.1 found.1 in
      ap live (sym told.0) ∙ there ∙ ap Some told.1

  module _ (day : ℕ) where
    abbrev Runs : Link → Type 0
    Runs link = IsAssociated live group day link.key link.line

    associated : (link : Link) → Contains (associations_in rows) link → is_linked group day link ≡ true → Runs link
    associated = search (rules, both, association_live)

    among_linked : (link : Link) → Runs link → Contains (associations_in rows) link
    among_linked link is = part_forth _ _ _ _ (has.all link.key link.line is.group_is is.is_live) refl

    passes_linked : (link : Link) → Runs link → is_linked group day link ≡ true
    passes_linked link is = λ i. group_back group link.key is.group_is i && is.runs_then i

    first_is_link : (found : Option Link) → IsFirst (on (λ (link : Link). link.key) association_choice_cmp) Runs found → IsLinkOn live group day found
    first_is_link None none = λ key line is. none (record { key = key; line = line }) is.associated
    first_is_link (Some link) first = record {
      associated = first.0;
      first = λ other others is. first.1 (record { key = other; line = others }) is;
    }

    -- the best association of the rows is the chosen association
    pub best_is_link : (found : Option Link) → IsLinkSoFar group day rows found → IsLinkOn live group day found
    best_is_link = search (rules, first_is_link, best_is_first, by_key, associated, among_linked, passes_linked)

    -- `link_in` computes the chosen association of a group from rows that are in the live table and
    -- include every association of the group
    pub link_tells : IsLinkOn live group day (link_in rows group day)
    link_tells = first_is_link _ (found_is_first by_key _ (associations_in rows) _ associated among_linked passes_linked)

-- the rows of a whole table include each association of each group
pub rows_have : (live : Table) (rows : List Row) → AreRowsOf live rows → (group : Group) → HasAssociationsOf live group rows
rows_have live rows are group = record {
  each = λ key body among. (are.members key body).0 among;
  all = λ key line same is. (are.members (association_key key) (association_body line)).1 is;
}

-- from the rows of a whole table, `link_in` computes each chosen association
pub links_tell : (live : Table) (rows : List Row) → AreRowsOf live rows → TellsLinks live (link_in rows)
links_tell live rows are group day = link_tells live rows group (rows_have live rows are group) day

-- for a group and a day, the chosen association is unique
pub one_link_answer : (live : Table) (group : Group) (day : ℕ) (a b : Option Link) → IsLinkOn live group day a → IsLinkOn live group day b → a ≡ b
one_link_answer live group day None None one two = refl
one_link_answer live group day None (Some b) one two = absurd (one b.key b.line two)
one_link_answer live group day (Some a) None one two = absurd (two a.key a.line one)
one_link_answer live group day (Some a) (Some b) one two =
    let same = one_link live group day a.key b.key a.line b.line one two in
    λ i. Some (record { key = same.0 i; line = same.1 i })
