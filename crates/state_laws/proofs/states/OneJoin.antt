-- A set of files has at most one summary, two states have at most one join, and a place has at most
-- one docker on a day.
use Rattle.cif_laws.proofs.Common.{◌≡◌, List, refl, ap, subst, Contains, Some, None, ◌↔◌, Option, IsAtMost, FileStamp, LedgerItem, file_stamp_cmp, IsFloor}
use Rattle.cif_laws.proofs.Common.{DockerLine}
use Rattle.docker_model.specs.docker.DockerList.{Lists}
use Rattle.cif_laws.proofs.orders.Orders.{file_stamp_total, exact_file_stamp, docker_line_total}
use Rattle.cif_laws.proofs.orders.Ascending.{same_list}
use Rattle.cif_laws.proofs.orders.AtMost.{level}

-- two lists with the same items have the same floor
pub floor_unique : (first second : List LedgerItem) → ((item : LedgerItem) → Contains first item ↔ Contains second item)
    → (f g : Option FileStamp) → IsFloor first f → IsFloor second g → f ≡ g
floor_unique first second same None None f g = refl
floor_unique first second same None (Some t) f g = absurd (f g.full ((same g.full).1 g.among) g.is_full)
floor_unique first second same (Some s) None f g = absurd (g f.full ((same f.full).0 f.among) f.is_full)
floor_unique first second same (Some s) (Some t) f g =
    let up : IsAtMost file_stamp_cmp s t = subst (λ x. IsAtMost file_stamp_cmp x t) f.stamped (g.greatest f.full ((same f.full).0 f.among) f.is_full) in
    let down : IsAtMost file_stamp_cmp t s = subst (λ x. IsAtMost file_stamp_cmp x s) g.stamped (f.greatest g.full ((same g.full).1 g.among) g.is_full) in
    ap Some (exact_file_stamp s t (level file_stamp_total s t up down))

-- two docker lists with the same lines are equal
pub docker_unique : (IsLine : DockerLine → Type 0) (xs ys : List DockerLine) → Lists IsLine xs → Lists IsLine ys → xs ≡ ys
docker_unique IsLine xs ys is_x is_y = same_list docker_line_total _ _ is_x.ascending is_y.ascending (λ line.
    (λ among. (is_y.members line).1 ((is_x.members line).0 among), λ among. (is_x.members line).1 ((is_y.members line).0 among)))
