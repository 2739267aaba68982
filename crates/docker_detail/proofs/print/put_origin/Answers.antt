use Rattle.docker_detail.proofs.PutTexts.{origin_put}
use Rattle.docker_detail.proofs.print.put_origin.Goals as goal

pub returns-clause-items : goal.returns-clause-items
returns-clause-items c =
    let origin = c.args.origin.now in
    origin_put _ _ _ _ _ _ _ _ _ _ _ _ _ _ _ c.put.ensures.items c.iso.ensures.text c.put-2.ensures.items c.put-3.ensures.items c.put_number.ensures.items
    c.put_record.ensures.items c.put_record-2.ensures.items c.put_record-3.ensures.items c.put_record-4.ensures.items c.put_record-5.ensures.items
