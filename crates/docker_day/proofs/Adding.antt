-- Docker lines that are appended to a list only if a test passes.
use Rattle.cif_laws.proofs.Common.{◌≡◌, Bool, true, false, cond, List, [], ◌++◌, sym, ◌∙◌, append-nil, DockerLine}

-- if the test fails, appending the conditional lines `cond test more []` changes nothing
pub not_added : (test : Bool) (more before : List DockerLine) → test ≡ false → before ≡ before ++ cond test more []
not_added test more before is = sym (append-nil before) ∙ (λ i. before ++ cond (sym is i) more [])

-- if the test passes, the conditional lines `cond test told []` are the lines `told`
pub told_if : (test : Bool) (told lines : List DockerLine) → test ≡ true → lines ≡ told → lines ≡ cond test told []
told_if test told lines is same = same ∙ (λ i. cond (sym is i) told [])
