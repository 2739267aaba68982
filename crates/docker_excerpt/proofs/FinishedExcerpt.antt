-- The finished excerpt, and the docker that is made from it.
use Rattle.cif_laws.proofs.Common.{◌≡◌, ℕ, List, refl, ap, sym, ◌∙◌, subst, rules, Option, Some, Key, tiploc_key, Entry, State, IsValid, AreEntries, live_table}
use Rattle.cif_laws.proofs.Common.{raise_horizon, description_in}
use Rattle.docker_laws.specs.NearDay.{near_state}
use Rattle.docker_laws.specs.Thinning.{shortened, excerpt_on}
use Rattle.state_laws.proofs.joins.RaisedHorizon.{set_last}
use Rattle.docker_laws.proofs.dockers.ExcerptWalk.{walk_is_excerpt}
use Rattle.docker_laws.proofs.dockers.ExcerptDocker.{same_where_needed, excerpt_list_iff}
use Rattle.docker_laws.proofs.dockers.NearDocker.{near_description}
use Rattle.docker_laws.proofs.dockers.NearState.{near_part}
use Rattle.docker_laws.proofs.dockers.Shortened.{same_tiploc, shortened_valid, shortened_list, excerpt_on_valid}
use Rattle.docker_state.specs.Parts.{under}
use Rattle.state_text.specs.PartsSoFar.{horizon_meant}
use Rattle.state_text.proofs.PartsSoFarLemmas.{under_none}
use Rattle.docker_excerpt.specs.Values.{Excerpt, with_entries, StandsAt, IsExcerptOf}

-- setting the horizon leaves all entries unchanged, because no entry has a body that ended before
-- this horizon
pub horizon_set : (state raised : State) (horizon : Option ℕ) (day : ℕ) → state.horizon ≡ 0 → horizon ≡ Some day
    → IsValid (under (horizon_meant horizon) state) → raised ≡ raise_horizon day state → raised ≡ under (horizon_meant horizon) state
horizon_set state raised horizon day plain read valid set = set ∙ ap (raise_horizon day) (under_none _ plain)
    ∙ set_last _ (subst (λ (h : Option ℕ). IsValid (under (horizon_meant h) state)) read valid)
    ∙ ap (λ (h : Option ℕ). under (horizon_meant h) state) (sym read)

-- a docker made from an excerpt's part, for the excerpt's place and day, is correct for the whole
-- state
pub docker_of_whole : (place : List ℕ) (day : ℕ) (state part : State) → IsExcerptOf place day state part → StandsAt place day state part
docker_of_whole place day state part is = record {
  described = ap description_in (same_where_needed _ (live_table (shortened place day state)) _ is.excerpt.live (tiploc_key place) refl)
      ∙ ap description_in (same_tiploc _ day state is.valid)
      ∙ near_description day _ (live_table (near_state day state)) (near_part _ state is.valid.entries.1) _;
  list = λ lines listed. (shortened_list place day _ is.valid lines).1 ((excerpt_list_iff place _ (live_table part) is.excerpt.live _ lines).1 listed);
}

module _ (place : List ℕ) (day horizon : ℕ) (told : State) (valid : IsValid (under horizon told)) where
  -- the entries that the excerpt keeps fit the ledger
  pub kept_entries : (rows : List (Key × Entry)) → rows ≡ (excerpt_on place day told).entries → AreEntries told.ledger rows
  kept_entries rows is = subst (λ (all : List (Key × Entry)). AreEntries told.ledger all) (sym is) (excerpt_on_valid _ _ _ valid).entries

  -- if a state has this ledger and the entries that the excerpt keeps, it is valid with `horizon`
  -- in place of its own horizon
  pub kept_valid : (state : State) (rows : List (Key × Entry)) → rows ≡ (excerpt_on place day told).entries → state.ledger ≡ told.ledger → state.entries ≡ rows
      → IsValid (under horizon state)
  kept_valid state rows is same entries =
      subst IsValid (λ i. record { horizon = horizon; ledger = sym same i; entries = sym (entries ∙ is) i }) (excerpt_on_valid _ _ _ valid)

  part_is : (part : State) (rows : List (Key × Entry)) → rows ≡ (excerpt_on place day told).entries → part.horizon ≡ horizon → part.ledger ≡ told.ledger
      → part.entries ≡ rows → part ≡ excerpt_on place day (under horizon told)
  part_is = search rules

  -- for the excerpt's place and day, each docker of the excerpt's state is also a docker of the
  -- state from which the excerpt was made
  pub is_excerpt_of : (part : State) (rows entries : List (Key × Entry)) → rows ≡ (excerpt_on place day told).entries → part.horizon ≡ horizon
      → part.ledger ≡ told.ledger → part.entries ≡ rows → entries ≡ told.entries → StandsAt place day (with_entries part entries) part
  is_excerpt_of part rows entries is same_horizon same kept given = docker_of_whole _ _ _ _
      (subst (λ (p : State). IsExcerptOf place day (with_entries p entries) p) (sym (part_is _ _ is same_horizon same kept))
      (subst (λ (all : List (Key × Entry)).
      IsExcerptOf place day (with_entries (excerpt_on place day (under horizon told)) all) (excerpt_on place day (under horizon told))) (sym given) (record {
        valid = valid;
        excerpt = walk_is_excerpt _ _ (shortened_valid _ _ _ valid).entries.1;
      })))

  -- the state in the excerpt's value is the state whose parts were taken, under the given horizon
  pub stands_for : (part : State) (entries : List (Key × Entry)) → part.horizon ≡ horizon → part.ledger ≡ told.ledger → entries ≡ told.entries
      → ◌≡◌ {A = Excerpt} (record { place = place; day = day; state = with_entries part entries })
      (record { place = place; day = day; state = under horizon told })
  stands_for = search rules
