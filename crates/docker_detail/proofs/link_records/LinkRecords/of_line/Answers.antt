use Rattle.cif_laws.proofs.Common.{◌≡◌, ap, sym, ◌∙◌, IfOk-weaker}
use Rattle.docker_model.specs.docker.DockerLine.{partner}
use Rattle.docker_laws.specs.LiveRows.{link_in}
use Rattle.docker_day.specs.Details.{detail_meant}
use Rattle.docker_detail.specs.Finding.{association_by}
use Rattle.docker_detail.proofs.link_records.LinkRecords.of_line.Goals as goal

pub returns-in-Partner-clause-record : goal.returns-in-Partner-clause-record
returns-in-Partner-clause-record c =
    let detail : partner c.in-Partner.uid c.in-Partner.identity ≡ c.args.line.now.detail = sym (ap detail_meant c.in-Partner.is) ∙ c.detail.ensures in
    IfOk-weaker c.of_pair.result _ _ (λ found told. λ rows are. told rows are c.in-Partner.identity
    ∙ (λ i. association_by (link_in rows) (c.uid.ensures i) (c.suffix.ensures i) (c.start.ensures i) c.args.self.now.place (detail i))) c.of_pair.ensures.record
