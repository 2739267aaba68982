-- The printed form of a number in a column of its own.
use Rattle.std.specs.Prelude.{ℕ, ◌-◌, List, ◌++◌, length, decimal}
use Rattle.docker_model.specs.records.PrintedTime.{spaces}

-- a number in ten columns, padded with spaces on the left. A number with more than ten digits has
-- as many columns as digits
abbrev pub number_text : ℕ → List ℕ
number_text number = spaces (10 - length (decimal number)) ++ decimal number
