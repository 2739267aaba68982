-- The number of falls in a list of times, counted time by time. A fall is a time that is earlier
-- than the time before it, so a reader has to remember only the last time.
use Rattle.std.specs.Prelude.{ℕ, List, [], ◌∷◌, Some, None, Option}
use Rattle.docker_model.specs.file.Journey.{fall_count}

-- the last of these times, or `None` if there are no times
abbrev pub last_of : List ℕ → Option ℕ
last_of [] = None
last_of (time ∷ []) = Some time
last_of (time ∷ later ∷ times) = last_of (later ∷ times)

-- the number of falls in these times if they follow the time `last`. For example, `falls_after
-- (Some 5) (3 ∷ 4 ∷ [])` is 1, since 3 is earlier than 5
abbrev pub falls_after : Option ℕ → List ℕ → ℕ
falls_after None times = fall_count times
falls_after (Some last) times = fall_count (last ∷ times)

-- the last time of two lists together, given the last time of each list. If the second list is
-- empty, the result is the first list's last time
abbrev pub later_or : Option ℕ → Option ℕ → Option ℕ
later_or (Some later) earlier = Some later
later_or None earlier = earlier
