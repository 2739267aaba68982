use Rattle.cif_laws.proofs.Common.{ap, ◌∙◌, DockerLine, ended, line_text}
use Rattle.docker_detail.proofs.PutTexts.{line_put}
use Rattle.docker_detail.proofs.print.text_of_detailed.Goals as goal

pub returns : goal.returns
returns c =
    let line = c.args.line.now in
    line_put _ _ _ _ _ _ _ _ c.new-text.ensures c.put.ensures.items
    (c.columns_of.ensures.columns (line_text line.0) (c.text_of_line.ensures ∙ ap (λ (l : DockerLine). ended (line_text l)) c.line.ensures))
    c.put_origin.ensures.items c.origin.ensures c.put-2.ensures.items
