-- Lemmas on the kind of a record, and on the record identity in its first two columns.
use Rattle.cif_laws.proofs.Common.{◌≡◌, ℕ, List, [], ◌∷◌, refl, ap, sym, ◌∙◌, Some, Bool, true, false, cond, option_map, find, codes, AllByRecursion, bytes_eq}
use Rattle.cif_laws.proofs.Common.{bytes_eq-Decides, Kind, header, tiploc_insert, tiploc_amend, association, basic_schedule, origin_location}
use Rattle.cif_laws.proofs.Common.{intermediate_location, terminating_location, change_en_route, trailer, HasKind, columns, has_identity}
use Rattle.docker_model.specs.records.Record.{tiploc_delete}
use Rattle.docker_model.specs.records.Record.{extra_details}
use Rattle.docker_model.specs.records.Record.{identities}

-- the record identity of a kind
abbrev pub identity_of : Kind → List ℕ
identity_of header = codes "HD"
identity_of tiploc_insert = codes "TI"
identity_of tiploc_amend = codes "TA"
identity_of tiploc_delete = codes "TD"
identity_of association = codes "AA"
identity_of basic_schedule = codes "BS"
identity_of extra_details = codes "BX"
identity_of origin_location = codes "LO"
identity_of intermediate_location = codes "LI"
identity_of terminating_location = codes "LT"
identity_of change_en_route = codes "CR"
identity_of trailer = codes "ZZ"

-- the identity in the pair is the record identity of the pair's kind
abbrev IsBeside : List ℕ × Kind → Type 0
IsBeside pair = pair.0 ≡ identity_of pair.1

each_beside : AllByRecursion IsBeside identities
each_beside = (refl, (refl, (refl, (refl, (refl, (refl, (refl, (refl, (refl, (refl, (refl, (refl, tt))))))))))))

by_identity : (field : List ℕ) (pairs : List (List ℕ × Kind)) (kind : Kind) → AllByRecursion IsBeside pairs
    → option_map (λ (pair : List ℕ × Kind). pair.1) (find (λ (pair : List ℕ × Kind). bytes_eq pair.0 field) pairs) ≡ Some kind → field ≡ identity_of kind
by_identity field [] kind all found = cc
by_identity field (pair ∷ pairs) kind all found = by (bytes_eq pair.0 field) refl found (by_identity field pairs kind all.1)
  where
    by : (b : Bool) → bytes_eq pair.0 field ≡ b
        → option_map (λ (p : List ℕ × Kind). p.1) (cond b (Some pair) (find (λ (p : List ℕ × Kind). bytes_eq p.0 field) pairs)) ≡ Some kind
        → (option_map (λ (p : List ℕ × Kind). p.1) (find (λ (p : List ℕ × Kind). bytes_eq p.0 field) pairs) ≡ Some kind → field ≡ identity_of kind)
        → field ≡ identity_of kind
    by true same here rest = let which : pair.1 ≡ kind = cc in sym ((bytes_eq-Decides pair.0 field).0 same) ∙ all.0 ∙ ap identity_of which
    by false same here rest = rest here

-- a record of a kind begins with the identity of that kind
pub begins_with : (kind : Kind) (line : List ℕ) → HasKind kind line → columns 1 2 line ≡ identity_of kind
begins_with kind line is = by_identity (columns 1 2 line) identities kind each_beside is

-- a record has the record identity `identity` if and only if `identity` is the identity of the
-- record's kind
pub has_identity_is : (kind : Kind) (identity line : List ℕ) → HasKind kind line → has_identity identity line ≡ bytes_eq (identity_of kind) identity
has_identity_is kind identity line is = ap (λ field. bytes_eq field identity) (begins_with kind line is)
