-- What a sink has taken after two writes, one after the other.
use Rattle.cif_laws.proofs.Common.{ℕ, ◌+◌, List, ◌++◌, arith, length, Option, rules, sym, subst, append_assoc, length-append, Result, Ok, Err, ⊤}
use Rattle.cif_laws.proofs.Common.{take-append-le, take-append-add}
use Rattle.cif_device.specs.Device.{Takes, TakesPart}
use Rattle.cif_device.specs.declared.device.Failed.{Failed}
use Rattle.docker_host.specs.Streams.{EndsWriting, StreamsView, WritesWhole}
use Rattle.docker_host.proofs.StreamsLemmas.{part_of_second, whole_both}

-- if a part was written and then a second part, their concatenation was written
pub both_taken : (first second third : Option (List ℕ)) (front back : List ℕ) → Takes first front second → Takes second back third
    → Takes first (front ++ back) third
both_taken = search (rules, append_assoc)

-- if a sink took a proper prefix of the first part, it took a proper prefix of the concatenation
pub part_of_front : (first second : Option (List ℕ)) (front back : List ℕ) → TakesPart first front second → TakesPart first (front ++ back) second
part_of_front = search (rules, length-append, take-append-le)

-- if a sink took the first part and then a proper prefix of the second part, it took a proper
-- prefix of the concatenation
pub part_of_back : (first second third : Option (List ℕ)) (front back : List ℕ) → Takes first front second → TakesPart second back third
    → TakesPart first (front ++ back) third
part_of_back first second third front back one (n, short, taken) =
    let long = length-append front back in (
      length front + n,
      omega arith,
      subst (λ bytes. Takes first bytes third) (sym (take-append-add front back n)) (both_taken _ _ _ _ _ one taken),
    )

-- if the output took a whole text, and writing a second text ended with this result, writing their
-- concatenation ended with this result
pub ends_second : (result : Result ⊤ Failed) (first second : List ℕ) (old mid new : StreamsView) → WritesWhole first old mid
    → EndsWriting result second mid new → EndsWriting result (first ++ second) old new
ends_second (Ok done) first second old mid new one two = whole_both first second old mid new one two
ends_second (Err failed) first second old mid new one two = part_of_second first second old mid new one two
