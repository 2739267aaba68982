use Rattle.cif_laws.proofs.Common.{subst, ◌∙◌}
use Rattle.docker_state.specs.Timetables.{live_in}
use Rattle.docker_day.specs.Portions.{ArePassedOver}
use Rattle.docker_day.proofs.RowPortions.{live_again, live_portion, moved_again, moved_open, moved_over}
use Rattle.docker_day.proofs.portions.add_rows.Goals as goal

pub add_portion-requires : goal.add_portion-requires
add_portion-requires c = live_portion _ _ _ _ _ c.open_portion-may_run.ensures.opened c.as_slice.ensures.value c.portions.invariant.live

pub portions-preserved-in-Continue-1 : goal.portions-preserved-in-Continue-1
portions-preserved-in-Continue-1 c =
    let left = c.open_portion-may_run.ensures.left in
    record {
      good = left.good c.portions.invariant.good;
      live = live_again c.portions.visits c.add_portion.new.visits c.open_portion-may_run.new.rows c.add_portion.ensures.same
          (left.live (live_in c.portions.visits.timetable) c.portions.invariant.live);
      same = c.add_portion.ensures.same ∙ c.portions.invariant.same;
      all = moved_again c.args.visits.now c.portions.visits c.args.rows c.portions.rows c.open_portion-may_run.new.rows c.args.lines.now.items
          c.portions.lines.items c.add_portion.new.lines.items c.portions.invariant.same c.portions.invariant.all
          (moved_open c.portions.visits c.open_portion-may_run.new.portion.items c.portions.rows c.open_portion-may_run.new.rows
          c.as_slice.result.now c.portions.lines.items c.add_portion.new.lines.items c.open_portion-may_run.ensures.opened
          c.as_slice.ensures.value c.in_ok-add_portion.ensures.added);
    }

pub portions-preserved : goal.portions-preserved
portions-preserved c =
    let left = c.open_portion-may_run.ensures.left in
    record {
      good = left.good c.portions.invariant.good;
      live = left.live (live_in c.portions.visits.timetable) c.portions.invariant.live;
      same = c.portions.invariant.same;
      all = moved_over c.args.visits.now c.portions.visits c.args.rows c.portions.rows c.open_portion-may_run.new.rows c.args.lines.now.items
          c.portions.lines.items c.portions.invariant.same c.portions.invariant.live c.portions.invariant.all
          (subst (λ day. ArePassedOver day c.portions.rows c.open_portion-may_run.new.rows) c.day.ensures
          (c.open_portion-may_run.ensures.passed c.if-may_run.false));
    }
