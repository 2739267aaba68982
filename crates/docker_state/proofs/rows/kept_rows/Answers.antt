use Rattle.cif_laws.proofs.Common.{rules, option_map, filter_same}
use Rattle.cif_change.specs.declared.key.Key.{Key}
use Rattle.docker_join.specs.declared.entry.Entry.{Entry}
use Rattle.docker_join.specs.Meaning.{file_stamp_meant, row_meant}
use Rattle.docker_join.proofs.MeantOrder.{ascending_meant, meant_ascending}
use Rattle.docker_state.proofs.FloorTest.{keeps, says_kept, kept_ascends, kept_members}
use Rattle.docker_state.proofs.TableJoin.{by_key, file_of}
use Rattle.docker_state.proofs.rows.kept_rows.Goals as goal

pub returns-clause-ascending : goal.returns-clause-ascending
returns-clause-ascending c =
    meant_ascending row_meant by_key c.retain.new.self.items
    (kept_ascends row_meant by_key (option_map file_stamp_meant c.args.floor.now) file_of c.args.rows.items c.retain.new.self.items
    (filter_same _ (λ (row : Key × Entry). keeps (option_map file_stamp_meant c.args.floor.now) (row_meant row).1.stamp.file) _
    (λ x b q h. let k = h.called in let shows = h.shows in
    (says_kept (option_map file_stamp_meant c.args.floor.now) (row_meant x).1.stamp.file b (rw (← shows) (search rules)), search rules))
    c.args.rows.items c.retain.new.self.items c.retain.ensures.filtered)
    (ascending_meant row_meant by_key c.args.rows.items c.requires))

pub returns-clause-members : goal.returns-clause-members
returns-clause-members c = kept_members _ by_key _ _ _ _ (filter_same _ _ _
    (λ x b q h. let k = h.called in let shows = h.shows in
    (says_kept _ _ _ (rw (← shows) (search rules)), search rules)) _ _ c.retain.ensures.filtered)
