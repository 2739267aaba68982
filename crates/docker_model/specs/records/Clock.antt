-- Times of day. A scheduled time is counted in half minutes, a public time in minutes. Each
-- definition says how wide its field is. If a field is shorter, each missing byte counts as 0.
use Rattle.std.specs.Prelude.{ℕ, ◌+◌, ◌*◌, Bool, ◌&&◌, ◌||◌, ◌==◌, nat_lt, if◌then◌else◌, List, take, slice_index, Option, Some, None, codes}
use Rattle.std.specs.List.{list_all}
use Rattle.std.specs.Char.{is_ascii_digit}
use Rattle.std.specs.Str.{bytes_eq}
use Rattle.docker_model.specs.records.Date.{two_digits}

-- whether a field of four, five or seven bytes is blank: each byte is a space
abbrev pub is_blank : List ℕ → Bool
is_blank field = list_all (λ b. b == 32) field

-- whether the first four bytes of a field are HHMM, from 0000 to 2359. The field has four or five
-- bytes
abbrev pub is_clock : List ℕ → Bool
is_clock field = list_all is_ascii_digit (take 4 field) && nat_lt (two_digits field 0) 24 && nat_lt (two_digits field 2) 60

-- converts HHMM, the first four bytes of a field, to the minute of the day: `0715` is 435. The
-- field has four or five bytes
abbrev pub minute_of : List ℕ → ℕ
minute_of field = 60 * two_digits field 0 + two_digits field 2

-- whether a scheduled time of five bytes is present: HHMM, and then H for half a minute or a space
abbrev pub is_present_time : List ℕ → Bool
is_present_time field = is_clock field && ((slice_index field 4 == 72) || (slice_index field 4 == 32))

-- whether five bytes are a scheduled time or blank
abbrev pub is_scheduled_time : List ℕ → Bool
is_scheduled_time field = is_blank field || is_present_time field

-- converts a scheduled time to half minutes since midnight: `0715H` is 871. The field has five
-- bytes and isn't blank
abbrev pub half_minutes : List ℕ → ℕ
half_minutes field = 2 * minute_of field + (if slice_index field 4 == 72 then 1 else 0)

-- converts a scheduled time of five bytes to half minutes since midnight, or to `None` if the field
-- is blank
abbrev pub scheduled_time : List ℕ → Option ℕ
scheduled_time field = if is_blank field then None else Some (half_minutes field)

-- whether four bytes are a public time: HHMM, or blank
abbrev pub is_public_time : List ℕ → Bool
is_public_time field = is_blank field || is_clock field

-- converts a public time of four bytes to the minute of the day, or to `None` if the field is
-- `0000` or blank
abbrev pub public_time : List ℕ → Option ℕ
public_time field = if is_blank field || bytes_eq field (codes "0000") then None else Some (minute_of field)
