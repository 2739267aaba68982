use Rattle.cif_laws.proofs.Common.{map, refl}
use Rattle.docker_join.specs.Meaning.{row_meant}
use Rattle.state_index.specs.Rooms.{items_of}
use Rattle.state_index.proofs.index.Index.of.Goals as goal

pub refill-requires : goal.refill-requires
refill-requires c = c.in_ok-index.ensures (items_of (map row_meant c.args.rows.now)) c.in_ok-survey.survey (c.in_ok-survey_rows.ensures refl)
