use Rattle.cif_laws.proofs.Common.{rules, ◌≡◌, ◌∷◌, ◌++◌, [], length, ◌∙◌, subst, arith, IsStampIn, stamp_in, stamp_bytes, key_text}
use Rattle.state_text.proofs.HeadLemmas.{is_tag, put_text}
use Rattle.state_text.proofs.NoHeadLemmas.{bad_key, bad_stamp, other_op}
use Rattle.state_text.proofs.head.put_of.Goals as goal

pub returns-then-op-ne-PUT : goal.returns-then-op-ne-PUT
returns-then-op-ne-PUT g c = other_op _ _ _ _ _ _ _ c.requires.valid.ledger c.split_at.ensures.by_index.0 c.split_at-2.ensures.by_index.0
    (c.split_at.ensures.front_len ∙ c.width.ensures.value) c.split_at-2.ensures.front_len c.if-op-ne-PUT.true

pub returns-in_default : goal.returns-in_default
returns-in_default g c = bad_key _ _ _ _ _ _ _ c.requires.valid.ledger c.split_at.ensures.by_index.0 c.split_at-2.ensures.by_index.0
    (c.split_at.ensures.front_len ∙ c.width.ensures.value) c.split_at-2.ensures.front_len _ c.in_default.ensures

pub returns-in_default-judged_stamp : goal.returns-in_default-judged_stamp
returns-in_default-judged_stamp g c = bad_stamp _ _ _ _ _ _ _ c.requires.valid.ledger c.split_at.ensures.by_index.0 c.split_at-2.ensures.by_index.0
    (c.split_at.ensures.front_len ∙ c.width.ensures.value) c.split_at-2.ensures.front_len
    (subst (λ ledger. ¬ IsStampIn ledger (stamp_in c.split_at-2.result.0.now)) c.ledger.ensures c.in_default-judged_stamp.ensures)

pub returns : goal.returns
returns g c =
    let wide = c.requires.wide in
    let width = c.width.ensures.value in
    let front = c.split_at.ensures.back_len in
    let behind = c.split_at-2.ensures.back_len in
    let op_size : length c.split_at-2.result.1.now ≡ 1 = omega arith in
    record {
      here = search rules;
      text = (λ i. key_text (c.in-Ok.ensures.0 i) ++ stamp_bytes (c.in-Some.ensures.0 i) ++ 1 ∷ [])
          ∙ put_text _ _ _ _ _ _ (is_tag _) c.split_at.ensures.by_index.0
          c.split_at-2.ensures.by_index.0 (c.split_at.ensures.front_len ∙ width) c.split_at-2.ensures.front_len op_size c.if-op-ne-PUT.false
          (λ i. let fits = c.type_inv.bytes i in omega arith);
    }
