-- A table and each of its excerpts for a place have the same docker for that place.
use Rattle.cif_laws.proofs.Common.{◌≡◌, ℕ, List, subst, inl, refl, ap, sym, ◌∙◌, Some, rules, ◌↔◌, Key, tiploc_key, schedule_key, association_key, ScheduleKey}
use Rattle.cif_laws.proofs.Common.{AssociationKey, Body, association_body, Table, IsRunning, DockerLine, IsDockerList, description_in}
use Rattle.docker_laws.specs.Excerpt.{IsConcerned, IsNeeded, IsExcerpt}
use Rattle.cif_laws.proofs.lists.BoolsAndOptions.{none_some}
use Rattle.docker_laws.proofs.dockers.Events.{event_calls}
use Rattle.docker_laws.proofs.dockers.SameDocker.{Covers, itself, HaveOneDocker, docker_over}
use Rattle.docker_laws.specs.StandIn.{HasEventOn}

module _ (place : List ℕ) (live part : Table) (is : IsExcerpt place live part) where
  -- the excerpt equals the table at each key that the docker of the place needs
  pub same_where_needed : (key : Key) → IsNeeded live place key → part key ≡ live key
  same_where_needed = search rules

  -- if the excerpt has a body at a key, the table has the same body at this key
  pub was_there : (key : Key) (body : Body) → part key ≡ Some body → live key ≡ Some body
  was_there = search (rules, none_some)

  module _ (day : ℕ) where
    calls_concern : (uid : List ℕ) (start : ℕ) (key : ScheduleKey) (lines : List (List ℕ)) → IsRunning live uid start key lines
        → HasEventOn place day start lines → IsConcerned live place uid
    calls_concern uid start key lines is has = inl (record {
      key = key;
      lines = lines;
      uid_is = is.uid_is;
      calling = record { is_live = is.is_live; calls = event_calls lines has.event place has.among has.here };
    })

    names_concern : (key : AssociationKey) (line : List ℕ) → key.location ≡ place → live (association_key key) ≡ Some (association_body line)
        → IsConcerned live place key.associated
    names_concern = search rules

    forth : Covers (λ uid start. IsConcerned live place uid) live part place day
    forth = record {
      runs = λ uid start needed key lines is. (
        lines,
        record {
          uid_is = is.uid_is;
          is_live = same_where_needed (schedule_key key) (subst (IsConcerned live place) (sym is.uid_is) needed) ∙ is.is_live;
          runs_then = is.runs_then;
        },
        itself place day start lines,
      );
      links = search (rules, same_where_needed);
      calls = calls_concern;
      names = search (rules, names_concern);
    }

    back : Covers (λ uid start. IsConcerned live place uid) part live place day
    back = record {
      runs = λ uid start needed key lines is. (lines, search (rules, was_there), itself place day start lines);
      links = search (rules, was_there);
      calls = search (rules, calls_concern, was_there);
      names = search (rules, names_concern, was_there);
    }

    -- a table and its excerpt have the same docker for the place
    pub excerpt_docker : HaveOneDocker live part place day
    excerpt_docker = docker_over forth back (ap description_in (same_where_needed (tiploc_key place) refl))

  -- a table and its excerpt have the same docker list for the place
  pub excerpt_list_iff : (day : ℕ) (lines : List DockerLine) → IsDockerList live place day lines ↔ IsDockerList part place day lines
  excerpt_list_iff day = (excerpt_docker day).list
