-- Counts that stop at the greatest possible count.
use Rattle.std.proofs.Common.{◌≡◌, ℕ, ◌-◌, ◌^◌, ◌<◌, arith}
use Rattle.docker_host.specs.Counts.{IsCountOf}

-- a count that hasn't stopped is the number that it counts
pub number_of_few : (count number : ℕ) → IsCountOf count number → count < 2 ^ 64 - 1 → count ≡ number
number_of_few = omega arith
