-- A text is put together piece by piece.
use Rattle.cif_laws.proofs.Common.{◌≡◌, ℕ, List, [], ◌∷◌, ◌++◌, length, take, ap, ◌∙◌, append_assoc, length-append, arith, rules, Option, take-append_seam}
use Rattle.cif_laws.proofs.Common.{spaces, day_text, ended}
use Rattle.docker_model.specs.records.PrintedNumber.{number_text}
use Rattle.docker_model.specs.docker.DetailedText.{record_text}
use Rattle.docker_detail.specs.OriginText.{found_text}
use Rattle.docker_detail.specs.Records.{EventRecords}

-- the first 56 bytes of a line of 56 columns with a line feed are its columns
pub without_feed : (line columns : List ℕ) → length line ≡ 57 → line ≡ ended columns → take 56 line ≡ columns
without_feed line columns long is =
    let whole = length-append columns (10 ∷ []) in
    let same = ap length is in
    let wide : 56 ≡ length columns = omega arith in
    ap (take 56) is ∙ ap (λ (n : ℕ). take n (ended columns)) wide ∙ take-append_seam columns (10 ∷ [])

-- the pieces of an origin's text make up the text
pub origin_put : (start number : ℕ) (records : EventRecords) (association : Option (List ℕ)) (day : List ℕ) (old t1 t2 t3 t4 t5 t6 t7 t8 t9 : List ℕ)
    → t1 ≡ old ++ spaces 1 → day ≡ day_text start → t2 ≡ t1 ++ day → t3 ≡ t2 ++ spaces 1 → t4 ≡ t3 ++ number_text number
    → t5 ≡ t4 ++ (spaces 1 ++ record_text records.basic) → t6 ≡ t5 ++ (spaces 1 ++ record_text records.extra)
    → t7 ≡ t6 ++ (spaces 1 ++ record_text records.change) → t8 ≡ t7 ++ (spaces 1 ++ record_text records.location)
    → t9 ≡ t8 ++ (spaces 1 ++ record_text association) → t9 ≡ old ++ found_text start number records association
unfolding found_text
origin_put start number records association day old t1 t2 t3 t4 t5 t6 t7 t8 t9 p1 day_is p2 p3 p4 p5 p6 p7 p8 p9 =
    rw (p9, p8, p7, p6, p5, p4, p3, p2, day_is, p1) (simp append_assoc)

-- the columns of a docker line, its origin and a line feed make up the line's text
pub line_put : (columns text shown origin t0 t1 t2 t3 : List ℕ) → t0 ≡ [] → t1 ≡ t0 ++ shown → shown ≡ columns → t2 ≡ t1 ++ origin → origin ≡ text
    → t3 ≡ t2 ++ 10 ∷ [] → t3 ≡ ended (columns ++ text)
line_put = search rules
