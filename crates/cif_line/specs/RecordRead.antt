-- Defines what the reader of a record returns.
use Rattle.std.specs.Prelude.{◌≡◌, ◌↔◌, ℕ, List, Result, Some, IsOk, IfOk, IfErr}
use Rattle.docker_model.specs.records.Field.{HasGoodFields, leftmost_bad_field}
use Rattle.cif_line.specs.declared.check.FieldFault.{FieldFault}

-- Says what a reader of records returns. The result is a view of the line if its checked fields are
-- good. Otherwise it is the first column of the leftmost bad field.
pub record ReadsAs (line : List ℕ) (result : Result (List ℕ) FieldFault) : Type 0 where
  pub ok : IsOk result ↔ HasGoodFields line
  pub value : IfOk result (λ view. view ≡ line)
  pub err : IfErr result (λ fault. leftmost_bad_field line ≡ Some fault.0)
