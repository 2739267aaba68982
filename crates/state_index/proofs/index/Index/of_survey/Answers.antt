use Rattle.cif_laws.proofs.Common.{◌<◌, ◌^◌, length, rules}
use Rattle.state_index.proofs.Surveyed.{room_of_survey}
use Rattle.state_index.proofs.index.Index.of_survey.Goals as goal

pub returns : goal.returns
returns c = λ items old grown.
    let few_places : length c.ascending_places-places.result.items < 2 ^ 32 = search rules in
    let few_rows : c.args.survey.rows < 2 ^ 32 = search rules in
    room_of_survey items old c.args.survey grown _ c.ascending_places-places.ensures.up c.ascending_places-places.ensures.all few_places few_rows
    c.in_ok-calls.ensures.capacity c.in_ok-links.ensures.capacity
