use Rattle.cif_laws.proofs.Common.{◌≡◌, ◌+◌, ◌≤◌, ◌++◌, length, vec_len, vec_capacity, on, ledger_item_cmp}
use Rattle.docker_state.specs.Meaning.{item_meant}
use Rattle.docker_state.proofs.Union.{united as walk}
use Rattle.docker_state.proofs.ledger.union_of.Given as goal

abbrev pub invariant-loop-first : goal.invariant-loop-first
invariant-loop-first l = record {
  out : l.items.items ++ walk (on item_meant ledger_item_cmp) l.first l.second ≡ walk (on item_meant ledger_item_cmp) l.initial.first l.initial.second;
  room : vec_len l.items + (length l.first + length l.second) ≤ vec_capacity l.items;
}

abbrev pub decreases-loop-first : goal.decreases-loop-first
decreases-loop-first l = length l.first + length l.second
