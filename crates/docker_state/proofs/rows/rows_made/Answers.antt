use Rattle.cif_laws.proofs.Common.{◌≡◌, ◌∷◌, [], List, map, sym, subst, arith, rules, length-append, map-append}
use Rattle.docker_model.specs.file.Change as model
use Rattle.cif_change.specs.Meaning.{change_meant}
use Rattle.docker_join.specs.Meaning.{file_stamp_meant, row_meant}
use Rattle.docker_state.specs.Rows.{made_by}
use Rattle.docker_state.proofs.PlainRows.{one_row_more}
use Rattle.docker_state.proofs.rows.rows_made.Goals as goal

pub loop-change-preserved : goal.loop-change-preserved
loop-change-preserved c = record {
  made = subst (λ (all : List model.Change). map row_meant c.push_reserved.new.self.items ≡ map (made_by (file_stamp_meant c.args.file.now)) all)
      (sym (map-append change_meant c.loop-change.yielded (c.in-Some.change ∷ []))) (one_row_more _ _ _ _
      _ _ c.push_reserved.ensures.items c.row_of-row.ensures c.loop-change.invariant.made);
  len = (
      let more = length-append c.loop-change.yielded (c.in-Some.change ∷ []) in
      let before = c.loop-change.invariant.len in
      let len = c.push_reserved.ensures.len in
      omega arith
      );
  room = search rules;
}
