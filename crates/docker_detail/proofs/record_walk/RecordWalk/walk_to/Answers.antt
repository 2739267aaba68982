use Rattle.cif_laws.proofs.Common.{◌≡◌, suc, length, ap, ◌∙◌, arith}
use Rattle.docker_detail.proofs.WalkOn.{next_good, past, rest_good}
use Rattle.docker_detail.proofs.record_walk.RecordWalk.walk_to.Goals as goal

pub event_count-requires : goal.event_count-requires
event_count-requires c = record {
  good = next_good c.loop-line.self.rest.now c.in-Some.line.now c.in-Some.rest.now c.in-Some.ensures.cases.0 c.loop-line.invariant.can.good;
}

pub loop-line-preserved : goal.loop-line-preserved
loop-line-preserved c =
    let long : length c.loop-line.self.rest.now ≡ suc (length c.in-Some.rest.now) = ap length c.in-Some.ensures.cases.0 in
    let room = c.loop-line.invariant.can.room in
    let few = c.event_count.ensures.few in
    record {
      ahead = λ later low. past _ _ _ _ _ _ _ _ _ c.in-Some.ensures.cases.0
          c.event_count.ensures.count c.change_after-self.ensures c.if-number-passed.false low ∙ c.loop-line.invariant.ahead later low;
      can = record {
        good = rest_good _ _ _ c.in-Some.ensures.cases.0 c.loop-line.invariant.can.good;
        room = omega arith;
      };
    }
