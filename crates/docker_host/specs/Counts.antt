-- A count of events that stops at the greatest number that a program can count to.
use Rattle.std.specs.Prelude.{◌≡◌, ℕ, ◌-◌, ◌^◌, min}

-- the count is this number, or the greatest possible count if the number is greater
abbrev pub IsCountOf : ℕ → ℕ → Type 0
IsCountOf count number = count ≡ min number (2 ^ 64 - 1)
