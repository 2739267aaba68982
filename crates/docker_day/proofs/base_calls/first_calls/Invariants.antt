use Rattle.cif_laws.proofs.Common.{◌≡◌, ℕ, find, get, nat_cmp}
use Rattle.docker_day.specs.Bases.{kept_or}
use Rattle.docker_day.specs.Lines.{is_call}
use Rattle.docker_day.proofs.base_calls.first_calls.Given as goal

-- for each suffix, the first event of the call with this suffix is the event that `calls` has for
-- the suffix. If `calls` has no event for the suffix, the first event is the first of the remaining
-- events that are at the place and have the suffix
abbrev pub invariant-loop-event : goal.invariant-loop-event
invariant-loop-event l = (suffix : ℕ)
    → kept_or (get nat_cmp l.calls suffix) (find (is_call l.place suffix) l.event-iterator) ≡ find (is_call l.place suffix) l.fn.events
