-- Two tests of bytes: whether they are a record, and whether the fields of a record are good.
use Rattle.std.specs.Prelude.{ℕ, List, length, Bool, is_none, ◌==◌, ◌&&◌}
use Rattle.docker_model.specs.records.Record.{leftmost_bad_byte}
use Rattle.docker_model.specs.records.Field.{leftmost_bad_field}

-- whether the bytes are a record
abbrev pub is_record : List ℕ → Bool
is_record line = (length line == 80) && is_none (leftmost_bad_byte line)

-- whether each checked field of the record is good
abbrev pub has_good_fields : List ℕ → Bool
has_good_fields line = is_none (leftmost_bad_field line)
