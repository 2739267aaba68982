use Rattle.cif_laws.proofs.Common.{ℕ, List, Some, Err, sym, ap, ◌∙◌, subst, refl, false, Contains, [], slice_get-get_or, exact_bytes, nat_list_cmp_total}
use Rattle.cif_laws.proofs.Common.{bytes_cmp, IsStrictlyAscending}
use Rattle.std.proofs.lemmas.List.{map-id}
use Rattle.state_index.proofs.Search.{search_tells}
use Rattle.state_index.proofs.names.rank_of.Goals as goal

pub returns-in-Ok-clause-some : goal.returns-in-Ok-clause-some
returns-in-Ok-clause-some c =
    slice_get-get_or c.args.places.now c.in-Ok.rank [] c.in-Ok.ensures.bound
    ∙ ap Some (exact_bytes _ c.args.place.now (c.in-Ok.ensures.ok []))

pub returns-in-Err-clause-among : goal.returns-in-Err-clause-among
returns-in-Err-clause-among c = λ among.
    (search_tells (λ (p : List ℕ). p) nat_list_cmp_total exact_bytes c.args.places.now
    (subst (IsStrictlyAscending bytes_cmp) (sym (map-id c.args.places.now)) c.requires) c.args.place.now
    (Err c.in-Err.field-0) c.in-Err.ensures.bound c.in-Err.ensures.position false refl).1
    (subst (λ (all : List (List ℕ)). Contains all c.args.place.now) (sym (map-id c.args.places.now)) among)
