-- The lines of a well-formed body are a schedule that is put.
use Rattle.cif_laws.proofs.Common.{subst, put_with, IsOpOf}
use Rattle.cif_change.specs.Meaning.{body_meant, key_meant}
use Rattle.docker_join.specs.Meaning.{op_meant}
use Rattle.docker_excerpt.proofs.MidnightLemmas.{put_of_op}
use Rattle.docker_excerpt.proofs.excerpt_entry.excerpt_op.Goals as goal

pub excerpt_lines-requires : goal.excerpt_lines-requires
excerpt_lines-requires c = put_of_op _ _ (subst (λ body. IsOpOf (key_meant c.args.key.now) (put_with (body_meant body))) c.in-Put-Schedule.field-0-is
    (subst (λ op. IsOpOf (key_meant c.args.key.now) (op_meant op)) c.in-Put-Schedule.is c.requires))
