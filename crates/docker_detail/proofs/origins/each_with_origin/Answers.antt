use Rattle.cif_laws.proofs.Common.{◌≡◌, List, [], ◌∷◌, ◌++◌, ap, sym, ◌∙◌, subst, All, into_iter_items, All-push}
use Rattle.docker_state.specs.Timetables.{live_in}
use Rattle.docker_detail.specs.Finding.{Detailed, IsLineFound, firsts}
use Rattle.docker_detail.specs.Known.{AtPlace}
use Rattle.docker_detail.proofs.InOrder.{one_more}
use Rattle.docker_detail.proofs.origins.each_with_origin.Goals as goal

pub loop-line-preserved : goal.loop-line-preserved
loop-line-preserved c =
    let more : Detailed = c.in_ok-detailed-2.field-0 in
    let items : c.push.new.self.items ≡ c.loop-line.detailed.items ++ more ∷ [] = c.in_ok-push.ensures.items in
    record {
      lines = ap (λ (all : List Detailed). firsts all ++ into_iter_items c.next.new.self) items
          ∙ one_more _ _ _ _ _ _ c.in-Some.ensures.steps.0 c.in_ok-detailed-2.ensures.line c.loop-line.invariant.lines;
      found = subst (All (IsLineFound (live_in c.args.finder.timetable) c.args.finder.place)) (sym items)
          (All-push (IsLineFound (live_in c.args.finder.timetable) c.args.finder.place) c.loop-line.detailed.items more c.loop-line.invariant.found
          (subst (λ (there : AtPlace). IsLineFound (live_in there.timetable) there.place more) c.loop-line.invariant.same c.in_ok-detailed-2.ensures.found));
      same = c.detailed.ensures.same ∙ c.loop-line.invariant.same;
    }
