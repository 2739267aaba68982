-- Converts causes from the code's type to the definitions' type, and defines the printed text of
-- each cause.
use Rattle.std.specs.Prelude.{ℕ, List, ◌++◌, codes, decimal, Option, Some, None}
use Rattle.docker_model.specs.file.FileFault.{too_many, after_trailer, bad_length, bad_byte, bad_kind, bad_place, bad_field, third_midnight, no_end}
use Rattle.docker_model.specs.file.FileFault as fault
use Rattle.cif_change.specs.declared.cause.FileCause.{FileCause}
use Rattle.cif_change.specs.declared.cause.FileCause.TheVariants as cause

-- converts a cause from the code's type to the definitions' type. The result is `None` if memory
-- ran out, which isn't a fault of the text
abbrev pub cause_meant : FileCause → Option fault.FileCause
cause_meant cause.Length = Some bad_length
cause_meant (cause.Byte at) = Some (bad_byte at)
cause_meant cause.Kind = Some bad_kind
cause_meant cause.Place = Some bad_place
cause_meant (cause.Field at) = Some (bad_field at)
cause_meant cause.Midnights = Some third_midnight
cause_meant cause.NoEnd = Some no_end
cause_meant cause.After = Some after_trailer
cause_meant cause.TooMany = Some too_many
cause_meant cause.Memory = None

-- the name under which a cause is printed
abbrev pub cause_name : FileCause → List ℕ
cause_name cause.Length = codes "Length"
cause_name (cause.Byte _) = codes "Byte"
cause_name cause.Kind = codes "Kind"
cause_name cause.Place = codes "Place"
cause_name (cause.Field _) = codes "Field"
cause_name cause.Midnights = codes "Midnights"
cause_name cause.NoEnd = codes "NoEnd"
cause_name cause.After = codes "After"
cause_name cause.TooMany = codes "TooMany"
cause_name cause.Memory = codes "Memory"

-- the column of a bad byte or a bad field, counted from 1, or `None` for any other cause
abbrev pub cause_column : FileCause → Option ℕ
cause_column (cause.Byte column) = Some column
cause_column (cause.Field column) = Some column
cause_column _ = None

-- a name, followed by a space and the column in decimal if there is one: `Field 23`
abbrev pub name_and_column : List ℕ → Option ℕ → List ℕ
name_and_column name None = name
name_and_column name (Some column) = name ++ codes " " ++ decimal column

-- the printed text of a cause: its name, and its column if it has one, such as `Field 23`
abbrev pub cause_text : FileCause → List ℕ
cause_text it = name_and_column (cause_name it) (cause_column it)
