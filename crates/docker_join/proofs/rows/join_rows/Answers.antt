use Rattle.cif_laws.proofs.Common.{arith, List, ◌∙◌, sym, subst}
use Rattle.cif_change.specs.declared.key.Key.{Key}
use Rattle.docker_join.specs.Rows.{AreAscending}
use Rattle.docker_join.specs.Placing.{IsJoinWith}
use Rattle.docker_join.proofs.PlacedRows.{all_placed, none_yet, none_popped, front_ascends}
use Rattle.docker_join.proofs.rows.join_rows.Goals as goal

pub loop-row-init : goal.loop-row-init
loop-row-init g c =
    let start = none_yet _ _ _ _ _ c.from_vec-rows.ensures.items (c.len-left.ensures ∙ c.args.first.ok.0) in
    record {
      left = omega arith;
      room = omega arith;
      own = subst AreAscending (sym start.0) c.requires.first;
      rest = c.requires.second;
      joined = start.1;
    }

pub loop-row-preserved : goal.loop-row-preserved
loop-row-preserved g c =
    let at = c.loop-row in
    let up = subst AreAscending c.in-Some.ensures.items at.invariant.rest in
    let len = c.in-Some.ensures.len in
    record {
      left = c.place-left.ensures.left;
      room = omega arith;
      own = c.place-left.ensures.placed.ascends at.invariant.own;
      rest = front_ascends _ _ up;
      joined = c.place-left.ensures.placed.joined at.invariant.own c.args.first.items c.args.second.items c.pop.new.self.items up
          (subst (λ (xs : List (Key × g.row.E.Denot)). IsJoinWith g.E.Pick.picked c.args.first.items c.args.second.items at.left at.rows.items xs)
          c.in-Some.ensures.items at.invariant.joined);
    }

pub returns : goal.returns
returns g c =
    let at = c.loop-row in
    all_placed _ _ _ _ _ _ _ _ _ at.rows.ok.0 (none_popped _ _ _ _ _ c.in_default.not-Some at.second.ok.0 c.pop.ensures.cases)
    at.invariant.own at.invariant.joined c.into_vec.ensures.items c.rotate_right.ensures.items
