use Rattle.cif_laws.proofs.Common.{◌∷◌, subst, arith, before_body}
use Rattle.cif_change.specs.declared.key.Key.{Key}
use Rattle.cif_change.specs.Meaning.{key_meant}
use Rattle.docker_join.specs.Meaning.{stamp_meant}
use Rattle.state_text.specs.Head.{AreParts}
use Rattle.state_text.proofs.HeadLemmas.{lines_after}
use Rattle.state_text.proofs.NoHeadLemmas.{no_lines, bad_count, no_schedule}
use Rattle.state_text.proofs.head.schedule_head.Goals as goal

pub returns-then-bytes : goal.returns-then-bytes
returns-then-bytes g c = no_lines c.args.parts.now c.args.bytes.now c.requires.ledger c.if-bytes.true

pub returns-in_err-lines : goal.returns-in_err-lines
returns-in_err-lines g c = rw c.from_residual.ensures (bad_count _ _ _ _ _ _
    c.requires.ledger c.split_at.ensures.by_index.0 c.split_at-2.ensures.by_index.0 c.split_at.ensures.front_len c.split_at-2.ensures.front_len
    c.in_err-lines.ensures)

pub returns-in_default : goal.returns-in_default
returns-in_default g c = no_schedule _ _ _ _ _ _
    c.requires.ledger c.split_at.ensures.by_index.0 c.split_at-2.ensures.by_index.0 c.split_at.ensures.front_len c.split_at-2.ensures.front_len
    c.in_default.ensures

pub returns-in-Schedule : goal.returns-in-Schedule
returns-in-Schedule g c =
    let parts = c.args.parts.now in
    let stamp = stamp_meant c.in-Some.stamp in
    let put = c.split_at.result.0.now in
    lines_after _ _ _ _ _ _ _ _ _ _ c.split_at.ensures.by_index.0 c.split_at-2.ensures.by_index.0 c.split_at.ensures.front_len c.split_at-2.ensures.front_len
    (λ i. let fits = c.type_inv.bytes i in omega arith)
    (subst (λ (k : Key). AreParts parts (3 ∷ put) (before_body (key_meant k) stamp)) c.in-Schedule.is c.in-Some.ensures)
    c.in_ok-lines.ensures.0 c.in_ok-lines.ensures.1
