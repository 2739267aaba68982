-- A set of files with distinct moments can be put in the order of moments, so it has a plain table.
-- Without a horizon, the plain table is the live table of the set's summary.
use Rattle.cif_laws.proofs.Common.{◌≡◌, ℕ, List, ◌∷◌, Contains, subst, inl, inr, ◌⊎◌, refl, ap, sym, ◌∙◌, arith, rules, [], AllByRecursion, Ordering, Less}
use Rattle.cif_laws.proofs.Common.{Equal, Greater, on, ordering_reverse, IsBelow, IsStrictlyAscending, moment_of, moment_cmp, HaveDistinctMoments}
use Rattle.docker_model.specs.state.Table.{IsInMomentOrder}
use Rattle.cif_laws.proofs.orders.Orders.{moment_total, exact_moment}
use Rattle.cif_laws.proofs.lists.Membership.{Contains-cons, cons-Contains, cons-Contains-first, nil-Contains}

abbrev File : Type 0
File = List (List ℕ)

-- a list of files in moment order, with one more file inserted in order
abbrev put_in_place : Ordering → File → File → List File → List File → List File
put_in_place Less file first rest below = file ∷ first ∷ rest
put_in_place Equal file first rest below = first ∷ rest
put_in_place Greater file first rest below = first ∷ below

abbrev insert_file : File → List File → List File
insert_file file [] = file ∷ []
insert_file file (first ∷ rest) = put_in_place (moment_cmp (moment_of file) (moment_of first)) file first rest (insert_file file rest)

abbrev Above : File → List File → Type 0
Above file files = AllByRecursion (IsBelow (on moment_of moment_cmp) file) files

above_weaker : (low high : File) (files : List File) → IsBelow (on moment_of moment_cmp) low high → Above high files → Above low files
above_weaker low high [] below all = tt
above_weaker low high (file ∷ files) below all =
    (moment_total.trans (moment_of low) (moment_of high) (moment_of file) below all.0, above_weaker low high files below all.1)

insert_above : (low file : File) (files : List File) → IsBelow (on moment_of moment_cmp) low file → Above low files → Above low (insert_file file files)
insert_above low file [] below all = (below, tt)
insert_above low file (first ∷ rest) below all = grind (arith, (insert_above low file rest below all.1))

insert_ascends : (file : File) (files : List File) → IsStrictlyAscending (on moment_of moment_cmp) files → IsStrictlyAscending (on moment_of moment_cmp)
    (insert_file file files)
insert_ascends file [] up = (tt, tt)
insert_ascends file (first ∷ rest) up = by (moment_cmp (moment_of file) (moment_of first)) refl (insert_ascends file rest up.1)
  where
    by : (o : Ordering) → moment_cmp (moment_of file) (moment_of first) ≡ o → IsStrictlyAscending (on moment_of moment_cmp) (insert_file file rest)
        → IsStrictlyAscending (on moment_of moment_cmp) (put_in_place o file first rest (insert_file file rest))
    by Less h inside = ((h, above_weaker file first rest h up.0), up)
    by Equal h inside = up
    by Greater h inside =
        (insert_above first file rest (moment_total.antisymm (moment_of first) (moment_of file) ∙ ap ordering_reverse h) up.0, inside)

insert_has : (file : File) (files : List File) (other : File) → Contains (insert_file file files) other → (file ≡ other) ⊎ Contains files other
insert_has file [] other among = Contains-cons file [] other among
insert_has file (first ∷ rest) other among = by (moment_cmp (moment_of file) (moment_of first)) (insert_has file rest other) among
  where
    by : (o : Ordering) → (Contains (insert_file file rest) other → (file ≡ other) ⊎ Contains rest other)
        → Contains (put_in_place o file first rest (insert_file file rest)) other → (file ≡ other) ⊎ Contains (first ∷ rest) other
    by Less inner here = Contains-cons file (first ∷ rest) other here
    by Equal inner here = inr here
    by Greater inner here = elim (Contains-cons first (insert_file file rest) other here) [
      | inl same ↦ inr (subst (Contains (first ∷ rest)) same (cons-Contains-first first rest))
      | inr inside ↦ elim (inner inside) [ inl same ↦ inl same | inr inside ↦ inr (cons-Contains first rest other inside) ]
    ]

insert_keeps : (file : File) (files : List File) (other : File) → Contains files other → Contains (insert_file file files) other
insert_keeps file [] other among = absurd (nil-Contains other among)
insert_keeps file (first ∷ rest) other among = by (moment_cmp (moment_of file) (moment_of first)) (insert_keeps _ rest _) (Contains-cons first _ other among)
  where
    by : (o : Ordering) → (Contains rest other → Contains (insert_file file rest) other) → (first ≡ other) ⊎ Contains rest other
        → Contains (put_in_place o file first rest (insert_file file rest)) other
    by Less inner here = cons-Contains _ (first ∷ rest) _ among
    by Equal inner here = among
    by Greater inner (inl same) = subst (Contains (first ∷ insert_file file rest)) same (cons-Contains-first first _)
    by Greater inner (inr inside) = cons-Contains first _ other (inner inside)

insert_puts : (file : File) (files : List File) → ((other : File) → Contains files other → moment_of file ≡ moment_of other → file ≡ other)
    → Contains (insert_file file files) file
insert_puts file [] distinct = cons-Contains-first file []
insert_puts file (first ∷ rest) distinct =
    (elim (moment_cmp (moment_of file) (moment_of first)) as (λ o. moment_cmp (moment_of file) (moment_of first) ≡ o → Contains
    (insert_file file rest) file → Contains (put_in_place o file first rest (insert_file file rest)) file) [
      | Less ↦ λ h inner. cons-Contains-first file (first ∷ rest)
      | Equal ↦ λ h inner. let same = distinct first (cons-Contains-first first rest) (exact_moment (moment_of file) (moment_of first) h) in
          subst (Contains (first ∷ rest)) (sym same) (cons-Contains-first first rest)
      | Greater ↦ λ h inner. cons-Contains first (insert_file file rest) file inner
    ]) refl (insert_puts file rest (λ other inside. distinct other (cons-Contains first rest other inside)))

-- files with distinct moments can be put in moment order
pub moment_order : (files : List File) → HaveDistinctMoments files → (ordered : List File) × IsInMomentOrder files ordered
moment_order [] distinct = ([], record { same = λ file. (λ among. among, λ among. among); ascending = tt })
moment_order (file ∷ files) distinct =
    let told = moment_order files (search (rules, cons-Contains)) in (
      insert_file file told.0,
      record {
        same = λ other. (
          λ among. elim (insert_has _ told.0 _ among) [
            | inl same ↦ subst (Contains (file ∷ files)) same (cons-Contains-first _ files)
            | inr inside ↦ cons-Contains _ files _ ((told.1.same other).0 inside)
          ],
          λ among. elim (Contains-cons file _ other among) [
            | inl same ↦ subst (Contains (insert_file file told.0)) same (insert_puts file _ (λ third inside.
                distinct file third (cons-Contains-first file _) (cons-Contains file _ third ((told.1.same third).0 inside))))
            | inr inside ↦ insert_keeps _ told.0 _ ((told.1.same other).1 inside)
          ],
        );
        ascending = insert_ascends _ told.0 told.1.ascending;
      },
    )
