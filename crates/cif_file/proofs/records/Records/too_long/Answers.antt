-- The line isn't a record because of its length.
use Rattle.cif_file.proofs.ParserLemmas.{refused_long}
use Rattle.cif_file.proofs.records.Records.too_long.Goals as goal

pub returns : goal.returns
returns g c = λ limit records counted. refused_long limit records c.refused.result (c.refused.ensures limit records counted)
