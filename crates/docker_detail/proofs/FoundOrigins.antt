-- What is found for a line of a docker is the line's origin.
use Rattle.cif_laws.proofs.Common.{◌≡◌, ℕ, List, ap, sym, ◌∙◌, Some, None, Contains, rules, Option, option_map, column, columns, Row, AreRowsOf, Table}
use Rattle.cif_laws.proofs.Common.{IsAssociationLine, Train, group_of, IsOrigin, DockerLine, IsEventLine, events_of, event_line}
use Rattle.docker_model.specs.docker.DetailedText.{origin_text}
use Rattle.docker_laws.specs.Gathering.{IsDockerLine}
use Rattle.docker_laws.specs.LiveRows.{Link, train_in, link_in}
use Rattle.docker_laws.proofs.dockers.LinkOfRows.{links_tell, one_link_answer}
use Rattle.docker_laws.proofs.dockers.OneDockerLine.{first_event_is}
use Rattle.docker_laws.proofs.dockers.TrainOfRows.{trains_tell, one_train_answer}
use Rattle.docker_detail.specs.Finding.{IsLineFound, records_of_train, origin_by}
use Rattle.docker_detail.specs.OriginText.{found_text}
use Rattle.docker_detail.specs.Records.{records_of}
use Rattle.docker_detail.proofs.EventPlaces.{origin_is}

module _ (live : Table) (place : List ℕ) (day : ℕ) (rows : List Row) (are : AreRowsOf live rows) (line : DockerLine) where
  -- what is found for the line of an event is its origin
  event_origin : (made : IsEventLine live place day line)
      → origin_by (train_in rows) (link_in rows) place line ≡ origin_text made.start made.schedule made.event None
  event_origin made = ap (origin_by (train_in rows) (link_in rows) place) made.is
      ∙ ap (λ (t : Option Train). found_text made.start made.event.number (records_of (records_of_train t) made.event.number) None) train
      ∙ origin_is _ _ _ _ made.among
    where
      train : train_in rows made.key.uid made.start ≡ Some (record { key = made.key; lines = made.schedule })
      train = one_train_answer _ _ _ _ _ (trains_tell _ _ are made.key.uid made.start) made.train_runs

  -- what is found for the line of an association is its origin
  association_origin : (made : IsAssociationLine live place day line)
      → origin_by (train_in rows) (link_in rows) place line ≡ origin_text made.start made.base made.event (Some made.association)
  association_origin made = ap (origin_by (train_in rows) (link_in rows) place) made.is
      ∙ (λ i. found_text made.start made.event.number (records_of (records_of_train (train i)) made.event.number)
      (option_map (λ (l : Link). l.line) (link i)))
      ∙ origin_is _ _ _ _ first.0
    where
      uid : made.base_key.uid ≡ made.key.base
      uid = made.base_runs.chosen.running.uid_is

      first : Contains (events_of made.base) made.event × (column 10 (event_line made.base made.event) ≡ made.key.suffix)
          × (columns 3 9 (event_line made.base made.event) ≡ made.key.location)
      first = first_event_is _ _ _ _ made.first_there

      train : train_in rows made.base_key.uid made.start ≡ Some (record { key = made.base_key; lines = made.base })
      train = ap (λ (u : List ℕ). train_in rows u made.start) uid
          ∙ one_train_answer _ _ _ _ _ (trains_tell _ _ are made.key.base made.start) made.base_runs

      link : link_in rows (record {
        base = made.base_key.uid;
        associated = made.key.associated;
        location = place;
        suffix = column 10 (event_line made.base made.event);
      }) made.start ≡ Some (record { key = made.key; line = made.association })
      link = (λ i. link_in rows (record { base = uid i; associated = made.key.associated; location = sym made.here i; suffix = first.1 i }) made.start)
          ∙ one_link_answer _ _ _ _ _ (links_tell _ _ are (group_of made.key) made.start) made.chosen

  -- what is found for a docker line is its origin
  pub found_is_origin : (text : List ℕ) → IsDockerLine live place day line → IsLineFound live place (line, text) → IsOrigin live place day line text
  found_is_origin = search (rules, origin_is, event_origin, association_origin)
