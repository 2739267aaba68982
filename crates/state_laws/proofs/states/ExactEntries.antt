-- If two well-formed entries for the same key tie in the order of entries, they are equal.
use Rattle.cif_laws.proofs.Common.{◌≡◌, ℕ, List, ◌∷◌, length, All, refl, ap, sym, ◌∙◌, arith, length-append, rules, [], concat, Equal, nat_cmp, All-head}
use Rattle.cif_laws.proofs.Common.{All-tail, exact_bytes, IsRecord, Key, tiploc_key, association_key, schedule_key, Body, tiploc_body, association_body}
use Rattle.cif_laws.proofs.Common.{schedule_body, bytes_cmp, stamp_cmp, Op, deleted, lapsed, put_with, Entry, entry_cmp, op_cmp, body_end, IsBodyOf, IsOpOf}
use Rattle.docker_model.specs.state.Op.{body_bytes, body_tag}
use Rattle.cif_laws.proofs.orders.Orders.{then_equal, exact_stamp}
use Rattle.cif_laws.proofs.lists.Fronts.{same_front}

-- if two lists of records have the same concatenation, they are equal
pub same_lines : (xs ys : List (List ℕ)) → All IsRecord xs → All IsRecord ys → concat xs ≡ concat ys → xs ≡ ys
same_lines [] [] good_x good_y same = refl
same_lines [] (y ∷ ys) good_x good_y same =
    let eighty : length y ≡ 80 = (All-head IsRecord y ys good_y).0 in
    absurd (omega (arith, eighty, simp length-append at (ap length same)))
same_lines (x ∷ xs) [] good_x good_y same =
    let eighty : length x ≡ 80 = (All-head IsRecord x xs good_x).0 in
    absurd (omega (arith, eighty, simp length-append at (ap length same)))
same_lines (x ∷ xs) (y ∷ ys) good_x good_y same =
    let parts = same_front x y (concat xs) (concat ys) ((All-head IsRecord x xs good_x).0 ∙ sym (All-head IsRecord y ys good_y).0) same in
    let rest = same_lines xs ys (All-tail IsRecord x xs good_x) (All-tail IsRecord y ys good_y) parts.1 in
    λ i. parts.0 i ∷ rest i

-- if two well-formed bodies of one key have the same bytes, they are equal
same_body : (key : Key) (a b : Body) → IsBodyOf key a → IsBodyOf key b → body_bytes a ≡ body_bytes b → a ≡ b
same_body (tiploc_key code) (tiploc_body a) (tiploc_body b) good_a good_b same = ap tiploc_body same
same_body (association_key key) (association_body a) (association_body b) good_a good_b same = ap association_body same
same_body (schedule_key key) (schedule_body a) (schedule_body b) good_a good_b same = search (rules, same_lines)
same_body key a b good_a good_b same = search rules

same_op : (key : Key) (a b : Op) → IsOpOf key a → IsOpOf key b → op_cmp a b ≡ Equal → a ≡ b
same_op key deleted b good_a good_b tied = search rules
same_op key lapsed b good_a good_b tied = search rules
same_op key (put_with a) (put_with b) good_a good_b tied =
    let behind = then_equal (nat_cmp (body_end a) (body_end b)) _ tied in
    let parts = then_equal (bytes_cmp (body_bytes a) (body_bytes b)) (nat_cmp (body_tag a) (body_tag b)) behind.1 in
    ap put_with (same_body key a b good_a good_b (exact_bytes (body_bytes a) (body_bytes b) parts.0))
same_op key (put_with a) b good_a good_b tied = cc

-- if two well-formed entries for the same key tie in the order of entries, they are equal
pub exact_entry : (key : Key) (a b : Entry) → IsOpOf key a.op → IsOpOf key b.op → entry_cmp a b ≡ Equal → a ≡ b
exact_entry key a b good_a good_b tied =
    let parts = then_equal (stamp_cmp a.stamp b.stamp) (op_cmp a.op b.op) tied in
    let stamps = exact_stamp a.stamp b.stamp parts.0 in
    let ops = same_op key a.op b.op good_a good_b parts.1 in
    λ i. record { stamp = stamps i; op = ops i }
