-- Splits the bytes of an entry into its head and the lines of its schedule.
use Rattle.std.specs.Prelude.{◌≡◌, ℕ, ◌<◌, ◌^◌, List, [], ◌∷◌, ◌++◌, length}
use Rattle.std.specs.Int.{w32, to_be_bytes}
use Rattle.docker_model.specs.file.Change.{Key, Body, tiploc_body, association_body, schedule_body}
use Rattle.docker_model.specs.state.Op.{Op, deleted, lapsed, put_with, Entry, key_tag}
use Rattle.docker_model.specs.state.State.{IsGoodKey, IsOpOf}
use Rattle.docker_model.specs.state.StateText.{key_bytes, stamp_bytes}

-- the bytes after the op of a put. For a TIPLOC or an association they are the body, and for a
-- schedule they are the number of its lines
abbrev pub body_head : Body → List ℕ
body_head (tiploc_body bytes) = bytes
body_head (association_body line) = line
body_head (schedule_body lines) = to_be_bytes w32 (length lines)

-- the bytes of an op, followed by its body. For a schedule, only the number of its lines follows
abbrev pub op_head : Op → List ℕ
op_head deleted = 0 ∷ []
op_head lapsed = 2 ∷ []
op_head (put_with body) = 1 ∷ body_head body

-- the head of an entry: all bytes before a schedule's lines
abbrev pub entry_head : Key × Entry → List ℕ
entry_head entry = key_tag entry.0 ∷ key_bytes entry.0 ++ stamp_bytes entry.1.stamp ++ op_head entry.1.op

-- the lines of a schedule's body; no lines for any other body
abbrev pub lines_in : Body → List (List ℕ)
lines_in (schedule_body lines) = lines
lines_in _ = []

-- the lines of the schedule that an op puts; no lines for any other op
abbrev pub op_lines : Op → List (List ℕ)
op_lines deleted = []
op_lines lapsed = []
op_lines (put_with body) = lines_in body

-- says that the count of the entry's lines fits in four bytes
abbrev pub HasFewLines : Key × Entry → Type 0
HasFewLines entry = length (op_lines entry.1.op) < 2 ^ 32

-- says that the entry's key is good, its op fits the key, and its stamp has 15 bytes
abbrev pub IsOfWidth : Key × Entry → Type 0
IsOfWidth entry = IsGoodKey entry.0 × IsOpOf entry.0 entry.1.op × (length (stamp_bytes entry.1.stamp) ≡ 15)
