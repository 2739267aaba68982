-- The changes that the docker of one place and day needs of a file make a state. Each docker of
-- this state, for the place and the day, is a docker of the whole file's state.
use Rattle.cif_laws.proofs.Common.{◌≡◌, ℕ, ◌≤◌, List, [], length, refl, ap, sym, ◌∙◌, subst, rules, slice_index_or, IsFile, first_record, most_records, Key}
use Rattle.cif_laws.proofs.Common.{Change, Entry, State, live_table, HasGoodBodies, description_in}
use Rattle.docker_laws.specs.FileSummary.{summary_of}
use Rattle.docker_laws.specs.Thinning.{IsThinning, IsStateOfChanges, HasUidsOf, wanted_changes}
use Rattle.docker_laws.proofs.dockers.FileSummary.{summary_is, summary_valid}
use Rattle.state_laws.proofs.states.GoodBodies.{good_bodies}
use Rattle.docker_laws.proofs.dockers.ThinDocker.{thinned_stands}
use Rattle.docker_laws.proofs.dockers.ExcerptDocker.{same_where_needed}
use Rattle.docker_laws.proofs.dockers.NeededChanges.{wanted_excerpt, wanted_list}
use Rattle.cif_file.specs.FileRead.{FileRead, IsOfRecords}
use Rattle.docker_excerpt.specs.Values.{with_entries, state_of_read, StandsAt}

-- the line at index 0 is the first line
pub first_is : (lines : List (List ℕ)) → slice_index_or lines 0 [] ≡ first_record lines
first_is = search rules

-- the state made by all changes of a file is the file's summary
pub state_is_summary : (file : FileRead) (lines : List (List ℕ)) → IsOfRecords file lines → state_of_read file ≡ summary_of lines
state_is_summary = search (rules, first_is)

-- if the entries of the state that the wanted changes make are replaced by the entries of the whole
-- file, the result is the file's state
pub given_is_state : (file : FileRead) (lines : List (List ℕ)) → IsOfRecords file lines → (wanted : List Change) (part : State)
    → IsStateOfChanges lines wanted part → (entries : List (Key × Entry)) → entries ≡ (state_of_read file).entries
    → with_entries part entries ≡ state_of_read file
given_is_state = search (rules, first_is)

-- for the place and the day, each docker of the state that the wanted changes make is a docker of
-- the file's state
pub thin_stands : (place : List ℕ) (day : ℕ) (file : FileRead) (lines : List (List ℕ)) → IsOfRecords file lines → IsFile lines
    → length lines ≤ most_records → (kept : List Change) → IsThinning place day file.changes_made kept
    → (uids : List (List ℕ)) → HasUidsOf place kept uids
    → (part : State) → IsStateOfChanges lines (wanted_changes uids kept) part → (entries : List (Key × Entry)) → entries ≡ (state_of_read file).entries
    → StandsAt place day (with_entries part entries) part
thin_stands place day file lines of_lines is_file few kept thinning uids has part of entries given =
    let thin = subst (λ (all : List Change). IsThinning place day all kept) of_lines.changes_are thinning in
    let excerpt = wanted_excerpt place day lines is_file few kept thin uids part of has (summary_of lines) (summary_is _) in
    let good : HasGoodBodies (live_table (summary_of lines)) = good_bodies (summary_of lines) (summary_valid lines is_file few) in
    subst (λ (state : State). StandsAt place day state part) (sym (given_is_state _ _ of_lines _ _ of _ given ∙ state_is_summary _ _ of_lines)) (record {
      described = ap description_in (same_where_needed place _ (live_table part) excerpt _ refl
          ∙ (thinned_stands place _ (live_table (summary_of lines)) good).tiploc
          );
      list = λ listed. (wanted_list place _ lines is_file few kept thin uids part of has (summary_of lines) (summary_is _) listed).1;
    })
