-- Lapsing with a horizon. The horizon is a day number, and a body lapses if it ended before that
-- day. The horizon 0 means that there is no horizon, so nothing lapses.
use Rattle.std.specs.Prelude.{ℕ, nat_lt, if◌then◌else◌, ◌≤◌, ⊤, List, map, Option, Some, None, option_and_then, ◌+◌, ◌<◌}
use Rattle.docker_model.specs.file.Change.{Key, Body}
use Rattle.docker_model.specs.state.Op.{body_end, Op, deleted, lapsed, put_with, Entry}
use Rattle.docker_model.specs.state.Table.{Table}

-- an op after lapsing with this horizon: a put whose body ended before the horizon becomes
-- `lapsed`, and any other op is unchanged. For example, with the horizon 100 a body that ends on
-- day 99 lapses, and a body that ends on day 100 doesn't
abbrev pub lapse : ℕ → Op → Op
lapse horizon deleted = deleted
lapse horizon lapsed = lapsed
lapse horizon (put_with body) = if nat_lt (body_end body) horizon then lapsed else put_with body

-- the op doesn't have to lapse with this horizon: it isn't a put of a body that ended before the
-- horizon
abbrev pub HasNotToLapse : ℕ → Op → Type 0
HasNotToLapse horizon deleted = ⊤
HasNotToLapse horizon lapsed = ⊤
HasNotToLapse horizon (put_with body) = horizon ≤ body_end body

-- an entry after lapsing with this horizon: its op may have become `lapsed`, and its stamp is
-- unchanged
abbrev pub lapse_entry : ℕ → Entry → Entry
lapse_entry horizon entry = record { stamp = entry.stamp; op = lapse horizon entry.op }

-- a key with its entry, which has lapsed if its body ended before this horizon. The key is
-- unchanged
abbrev pub lapse_keyed : ℕ → Key × Entry → Key × Entry
lapse_keyed horizon entry = (entry.0, lapse_entry horizon entry.1)

-- the entries of a list, each with its key, after lapsing with this horizon
abbrev pub lapse_entries : ℕ → List (Key × Entry) → List (Key × Entry)
lapse_entries horizon entries = map (lapse_keyed horizon) entries

-- this body, or `None` if the body ended before the horizon
abbrev pub unlapsed : ℕ → Body → Option Body
unlapsed horizon body = if nat_lt (body_end body) horizon then None else Some body

-- a table without the bodies that ended before the horizon
abbrev pub lapse_table : ℕ → Table → Table
lapse_table horizon table key = option_and_then (unlapsed horizon) (table key)

-- with this horizon, the program refuses to make a docker for the day: there is a horizon, and the
-- day is before the third day after the horizon. For example, with the horizon 100 the first
-- allowed day is 103
abbrev pub IsDayRefused : ℕ → ℕ → Type 0
IsDayRefused horizon day = (0 < horizon) × (day < horizon + 3)
