-- Stamps that compare as equal are equal. Entries that compare as equal are equal if the lines of
-- their bodies are records.
use Rattle.std.proofs.Common.{◌≡◌, refl, ap, arith}
use Rattle.std.specs.Prelude.{⊤}
use Rattle.std.specs.declared.cmp.Ordering.TheVariants.{Equal}
use Rattle.std.specs.Ordering.{on, nat_cmp}
use Rattle.std.proofs.lemmas.Map.Lookups.{exact_unsigned, exact_bytes}
use Rattle.docker_model.specs.state.Order.{bytes_cmp}
use Rattle.docker_model.specs.state.Stamp.{file_stamp_cmp, stamp_cmp}
use Rattle.docker_model.specs.state.Op.{op_cmp, entry_cmp, body_cmp, body_end, body_bytes, body_tag}
use Rattle.cif_laws.proofs.orders.Orders as laws
use Rattle.state_laws.proofs.states.ExactEntries.{same_lines}
use Rattle.cif_change.specs.declared.change.Body.{Body}
use Rattle.cif_change.specs.declared.change.Body.TheVariants as body
use Rattle.cif_change.specs.Meaning.{body_meant}
use Rattle.docker_join.specs.declared.stamp.FileStamp.{FileStamp}
use Rattle.docker_join.specs.declared.stamp.Stamp.{Stamp}
use Rattle.docker_join.specs.declared.entry.Op.{Op}
use Rattle.docker_join.specs.declared.entry.Op.TheVariants as op
use Rattle.docker_join.specs.declared.entry.Entry.{Entry}
use Rattle.docker_join.specs.Meaning.{file_stamp_meant, stamp_meant, op_meant, entry_meant}
use Rattle.docker_join.specs.Records.{IsOfRecords, HasRecords}

-- the conversion of file stamps is injective: file stamps of the code are equal if they are
-- converted to equal file stamps of the definitions
pub same_file_stamp : (a b : FileStamp) → file_stamp_meant a ≡ file_stamp_meant b → a ≡ b
same_file_stamp a b same = λ i. record { day = (same i).moment.day; minute = (same i).moment.minute; reference = (same i).reference }

-- the conversion of stamps is injective: stamps of the code are equal if they are converted to
-- equal stamps of the definitions
pub same_stamp : (a b : Stamp) → stamp_meant a ≡ stamp_meant b → a ≡ b
same_stamp a b same = λ i. record { file = same_file_stamp a.file b.file (λ j. (same j).file) i; number = (same i).number }

-- file stamps that compare as equal are equal
pub exact_file_stamp : (a b : FileStamp) → ⊤ → ⊤ → on file_stamp_meant file_stamp_cmp a b ≡ Equal → a ≡ b
exact_file_stamp a b _ _ tied = same_file_stamp a b (laws.exact_file_stamp (file_stamp_meant a) (file_stamp_meant b) tied)

-- stamps that compare as equal are equal
pub exact_stamp : (a b : Stamp) → ⊤ → ⊤ → on stamp_meant stamp_cmp a b ≡ Equal → a ≡ b
exact_stamp a b _ _ tied = same_stamp a b (laws.exact_stamp (stamp_meant a) (stamp_meant b) tied)

-- bodies that compare as equal are equal, if their lines are records
exact_body : (a b : Body) → IsOfRecords (body_meant a) → IsOfRecords (body_meant b) → body_cmp (body_meant a) (body_meant b) ≡ Equal → a ≡ b
exact_body a b good_a good_b tied =
    let after_end = laws.then_equal (nat_cmp (body_end (body_meant a)) (body_end (body_meant b))) _ tied in
    let parts = laws.then_equal (bytes_cmp (body_bytes (body_meant a)) (body_bytes (body_meant b)))
    (nat_cmp (body_tag (body_meant a)) (body_tag (body_meant b))) after_end.1 in
    by a b good_a good_b (exact_bytes (body_bytes (body_meant a)) (body_bytes (body_meant b)) parts.0)
    (exact_unsigned (body_tag (body_meant a)) (body_tag (body_meant b)) parts.1)
  where
    by : (x y : Body) → IsOfRecords (body_meant x) → IsOfRecords (body_meant y) → body_bytes (body_meant x) ≡ body_bytes (body_meant y)
        → body_tag (body_meant x) ≡ body_tag (body_meant y) → x ≡ y
    by (body.Tiploc x) (body.Tiploc y) good_x good_y same tag = ap body.Tiploc same
    by (body.Tiploc x) (body.Assoc y) good_x good_y same tag = absurd (omega arith)
    by (body.Tiploc x) (body.Schedule y) good_x good_y same tag = absurd (omega arith)
    by (body.Assoc x) (body.Tiploc y) good_x good_y same tag = absurd (omega arith)
    by (body.Assoc x) (body.Assoc y) good_x good_y same tag = ap body.Assoc same
    by (body.Assoc x) (body.Schedule y) good_x good_y same tag = absurd (omega arith)
    by (body.Schedule x) (body.Tiploc y) good_x good_y same tag = absurd (omega arith)
    by (body.Schedule x) (body.Assoc y) good_x good_y same tag = absurd (omega arith)
    by (body.Schedule x) (body.Schedule y) good_x good_y same tag = ap body.Schedule (same_lines x y good_x good_y same)

-- ops that compare as equal are equal, if the lines of their bodies are records
exact_op : (a b : Op) → HasRecords (op_meant a) → HasRecords (op_meant b) → op_cmp (op_meant a) (op_meant b) ≡ Equal → a ≡ b
exact_op op.Deleted op.Deleted good_a good_b tied = refl
exact_op op.Deleted op.Lapsed good_a good_b tied = cc
exact_op op.Deleted (op.Put b) good_a good_b tied = cc
exact_op op.Lapsed op.Deleted good_a good_b tied = cc
exact_op op.Lapsed op.Lapsed good_a good_b tied = refl
exact_op op.Lapsed (op.Put b) good_a good_b tied = cc
exact_op (op.Put a) op.Deleted good_a good_b tied = cc
exact_op (op.Put a) op.Lapsed good_a good_b tied = cc
exact_op (op.Put a) (op.Put b) good_a good_b tied = ap op.Put (exact_body a b good_a good_b tied)

-- entries that compare as equal are equal, if the lines of their bodies are records
pub exact_entry : (a b : Entry) → HasRecords (op_meant a.op) → HasRecords (op_meant b.op) → on entry_meant entry_cmp a b ≡ Equal → a ≡ b
exact_entry a b good_a good_b tied =
    let parts = laws.then_equal (stamp_cmp (stamp_meant a.stamp) (stamp_meant b.stamp)) (op_cmp (op_meant a.op) (op_meant b.op)) tied in
    let stamp = exact_stamp a.stamp b.stamp tt tt parts.0 in
    let act = exact_op a.op b.op good_a good_b parts.1 in
    λ i. record { stamp = stamp i; op = act i }
