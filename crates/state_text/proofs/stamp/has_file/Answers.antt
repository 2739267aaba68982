use Rattle.cif_laws.proofs.Common.{rules, always_returns_same}
use Rattle.docker_join.specs.Meaning.{file_stamp_meant}
use Rattle.docker_state.specs.Meaning.{item_meant}
use Rattle.state_text.proofs.StampLemmas.{stamp_order, file_found, file_missing, stamps_rise}
use Rattle.state_text.proofs.stamp.has_file.Goals as goal

pub returns-in-Ok : goal.returns-in-Ok
returns-in-Ok c = file_found _ _ _ _ c.in-Ok.ensures.bound
    (c.in-Ok.ensures.position (stamp_order item_meant (file_stamp_meant c.args.file.now)) (always_returns_same _ _ _ (λ a r f h. search rules)))

pub returns-in-Err : goal.returns-in-Err
returns-in-Err c = file_missing _ _ _ _
    (c.in-Err.ensures.position (stamp_order item_meant (file_stamp_meant c.args.file.now)) (always_returns_same _ _ _ (λ a r f h. search rules))
    (stamps_rise _ _ _ c.requires))
