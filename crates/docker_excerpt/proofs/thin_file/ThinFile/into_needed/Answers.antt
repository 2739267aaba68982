-- The remaining parts have the kept changes that the docker needs.
use Rattle.cif_laws.proofs.Common.{List, ℕ, map, filter, refl, subst, Contains, ◌↔◌, ◌≡◌}
use Rattle.docker_laws.specs.Thinning.{is_wanted}
use Rattle.cif_change.specs.declared.change.Change.{Change}
use Rattle.cif_change.specs.declared.key.Key.TheVariants as key
use Rattle.cif_change.specs.Meaning.{change_meant, key_meant}
use Rattle.cif_file.specs.declared.file.parts.FileParts.{FileParts}
use Rattle.docker_excerpt.specs.declared.elsewhere.Elsewhere.{Elsewhere}
use Rattle.docker_excerpt.specs.Elsewhere.{uids_named}
use Rattle.docker_excerpt.specs.ThinRead.{AreNeededParts}
use Rattle.docker_excerpt.proofs.ThinParts.{are_needed}
use Rattle.docker_excerpt.proofs.thin_file.ThinFile.into_needed.Goals as goal

pub returns : goal.returns
returns c =
    let it = c.self.inside in
    let uids = c.in_ok-uids.uids.items in
    let named = subst (λ (all : List Change). (uid : List ℕ) → Contains uids uid ↔ Contains (uids_named (map change_meant all)) uid)
    c.as_slice.ensures.value c.in_ok-uids.ensures.named in
    let of = subst (λ (names : List (List ℕ)). c.wanted-elsewhere.result.items
    ≡ filter (λ (one : Elsewhere). is_wanted names (key_meant (key.Schedule one.key))) it.elsewhere.items)
    c.as_slice-2.ensures.value c.wanted-elsewhere.ensures in
    let left : FileParts = record { header = it.parts.header; records = it.parts.records; changes = c.in_ok-changes.changes } in
    subst (λ thin. AreNeededParts thin left) c.self.view_is
    (are_needed it.place it.day it.so_far.changes it.parts it.elsewhere c.self.invariant uids named c.wanted-elsewhere.result of left refl refl
    c.in_ok-changes.ensures)
