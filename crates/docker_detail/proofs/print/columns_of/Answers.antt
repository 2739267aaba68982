use Rattle.docker_detail.proofs.PutTexts.{without_feed}
use Rattle.docker_detail.proofs.print.columns_of.Goals as goal

pub returns-clause-columns : goal.returns-clause-columns
returns-clause-columns c = λ columns is. without_feed c.args.line.now columns c.told-line is
